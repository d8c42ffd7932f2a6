-- Putting a type into alternatives: the first one that joins is found from left to right.
use Rattle.std.proofs.Common.{◌≡◌, ℕ, zero, suc, ◌+◌, List, [], ◌∷◌, ◌++◌, take, drop, length}
use Rattle.std.proofs.Common.{slice_get, add-one, arith, ap, sym, ◌∙◌}
use Rattle.std.specs.Prelude.{Some, None}
use Rattle.awk_types.specs.DataType.{DataType}
use Rattle.awk_unify.specs.Carries.{all_same}
use Rattle.awk_unify.specs.Insert.{ahead, joined_first}
use Rattle.awk_unify.specs.Join.{Joining}
use Rattle.awk_unify.specs.Merge.{chosen, insert, insert_all, further}
use Rattle.awk_unify.specs.Unification.{Placed, PlacedAll, Unification}
use Rattle.awk_base.proofs.Lists.{drop-get}

-- one by one
abbrev behind : List DataType → Placed → Placed
behind [] p = p
behind (t ∷ ts) p = chosen t ts None (behind ts p)

ahead_behind : (ts : List DataType) (p : Placed) → ahead ts p ≡ behind ts p
ahead_behind [] p =
    ap (λ n. record { typs = p.typs; kept = p.kept; tag = n; put = p.put }) (omega arith)
ahead_behind (t ∷ ts) p =
    let one : length (t ∷ ts) + p.tag ≡ suc (length ts + p.tag) = omega arith in
    ap (λ n. record {
      typs = t ∷ ts ++ p.typs;
      kept = all_same (t ∷ ts) ++ p.kept;
      tag = n;
      put =
          p.put;
    }) one
    ∙ ap (chosen t ts None) (ahead_behind ts p)

behind_suc : (join : Joining) (ts : List DataType) (b : DataType) (i : ℕ) (x : DataType)
    → slice_get ts i ≡ Some x → join x b ≡ None
    → behind (take i ts) (insert join (drop i ts) b) ≡ behind (take (suc i) ts)
    (insert join (drop (suc i) ts) b)
behind_suc join [] b i x e n = cc
behind_suc join (t ∷ ts) b zero x e n =
    let same : t ≡ x = cc in
    ap (λ o. chosen t ts o (insert join ts b)) (ap (λ y. join y b) same ∙ n)
behind_suc join (t ∷ ts) b (suc i) x e n = ap (chosen t ts None) (behind_suc join ts b i x e n)

-- one that does not join is passed
pub passed : (join : Joining) (ts : List DataType) (b : DataType) (i : ℕ) (x : DataType)
    (all : Placed) → slice_get ts i ≡ Some x → join x b ≡ None → ahead (take i ts)
    (insert join (drop i ts) b) ≡ all → ahead (take (i + 1) ts) (insert join (drop (i + 1) ts) b) ≡
    all
passed join ts b i x all e n h =
    rw add-one (ahead_behind (take (suc i) ts) _ ∙ sym (behind_suc join ts b i x e n) ∙ sym
    (ahead_behind (take i ts) _) ∙ h)

-- one that joins is the place
pub found : (join : Joining) (ts : List DataType) (b : DataType) (i : ℕ) (x : DataType)
    (j : Unification) (all : Placed) → slice_get ts i ≡ Some x → join x b ≡ Some j → ahead
    (take i ts) (insert join (drop i ts) b) ≡ all → ahead (take i ts)
    (joined_first j (drop (i + 1) ts)) ≡ all
found join ts b i x j all e s h =
    sym (ap (λ o. ahead (take i ts) (chosen x (drop (i + 1) ts) o
    (insert join (drop (i + 1) ts) b))) s)
    ∙ sym (ap (λ us. ahead (take i ts) (insert join us b)) (drop-get ts i x e)) ∙ h

-- one more is put in
pub put_in : (join : Joining) (p q all : PlacedAll) (s : Placed) (bs : List DataType) (i : ℕ)
    (b : DataType) → slice_get bs i ≡ Some b → s ≡ insert join p.typs b → q ≡ further p s →
    insert_all join p (drop i bs) ≡ all → insert_all join q (drop (i + 1) bs) ≡ all
put_in join p q all s bs i b e f g h =
    ap (λ r. insert_all join r (drop (i + 1) bs)) (g ∙ ap (further p) f)
    ∙ sym (ap (insert_all join p) (drop-get bs i b e)) ∙ h
