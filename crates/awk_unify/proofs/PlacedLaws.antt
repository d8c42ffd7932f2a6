-- Alternatives with a further one, and with one replaced.
use Rattle.std.proofs.Common.{◌≡◌, ◌<◌, ◌+◌, ◌-◌, ◌∷◌, ◌++◌, ◌∙◌, [], ℕ, List, ap, append_assoc}
use Rattle.std.proofs.Common.{arith, drop, length, sym, take}
use Rattle.std.proofs.lemmas.List.{append-nil, length-drop, length-take-le}
use Rattle.awk_types.specs.DataType.{DataType}
use Rattle.awk_unify.specs.Carry.{Carry, keep}
use Rattle.awk_unify.specs.Carries.{all_same, kept_each}
use Rattle.awk_unify.specs.Insert.{ahead, joined_first, last}
use Rattle.awk_unify.specs.Unification.{Placed}
use Rattle.awk_unify.proofs.Afters.{all_same-length}

abbrev made : List DataType → List Carry → ℕ → Carry → Placed
made ts fs n f = record { typs = ts; kept = fs; tag = n; put = f }

pub appended_is : (ts cs us : List DataType) (b c : DataType) (kept : List Carry) (k n : ℕ)
    (f : Carry) → us ≡ cs ++ c ∷ [] → cs ≡ ts → c ≡ b → kept ≡ kept_each k → k ≡ length ts → n ≡
    length ts → f ≡ keep →
    record { typs = us; kept = kept; tag = n; put = f } ≡ ahead ts (last b)
appended_is ts cs us b c kept k n f e g h i l m o =
    let types : us ≡ ts ++ b ∷ [] = e ∙ ap (λ xs. xs ++ c ∷ []) g ∙ ap (λ x. ts ++ x ∷ []) h in
    let kept_is : kept ≡ all_same ts ++ [] = i ∙ ap kept_each l ∙ sym (all_same-length ts) ∙ sym
    (append-nil (all_same ts)) in
    let tag_is : n ≡ length ts + 0 = omega (arith, m) in
    ap (λ xs. record { typs = xs; kept = kept; tag = n; put = f }) types
    ∙ ap (λ fs. record { typs = ts ++ b ∷ []; kept = fs; tag = n; put = f }) kept_is
    ∙ ap (λ x. record { typs = ts ++ b ∷ []; kept = all_same ts ++ []; tag = x; put = f }) tag_is
    ∙ ap (λ x. record {
      typs = ts ++ b ∷ [];
      kept = all_same ts ++ [];
      tag = length ts + 0;
      put = x;
    }) o

pub widened_is : (ts f0 f1 f2 : List DataType) (t : DataType) (k : ℕ) (g0 g1 g2 : List Carry)
    (l r : Carry) → k < length ts → f0 ≡ take k ts → f1 ≡ f0 ++ t ∷ [] → f2 ≡ f1 ++ drop (k + 1) ts
    → g0 ≡ kept_each k → g1 ≡ g0 ++ l ∷ [] → g2 ≡ g1 ++ kept_each (length ts - k - 1) →
    record { typs = f2; kept = g2; tag = k; put = r } ≡ ahead (take k ts)
    (joined_first (record { typ = t; left = l; right = r }) (drop (k + 1) ts))
widened_is ts f0 f1 f2 t k g0 g1 g2 l r below a b c d e f =
    let many : length (take k ts) ≡ k = length-take-le k ts (omega (arith, below)) in
    let left : length (drop (k + 1) ts) ≡ length ts - k - 1 = length-drop (k + 1) ts ∙ omega
    (arith, below) in
    let types : f2 ≡ take k ts ++ t ∷ drop (k + 1) ts = c ∙ ap (λ x. x ++ drop (k + 1) ts)
    (b ∙ ap (λ x. x ++ t ∷ []) a) ∙ append_assoc (take k ts) (t ∷ []) (drop (k + 1) ts) in
    let before : kept_each k ≡ all_same (take k ts) = ap kept_each (sym many) ∙ sym
    (all_same-length (take k ts)) in
    let behind : kept_each (length ts - k - 1) ≡ all_same (drop (k + 1) ts) = ap kept_each
    (sym left) ∙ sym (all_same-length (drop (k + 1) ts)) in
    let kept : g2 ≡ all_same (take k ts) ++ l ∷ all_same (drop (k + 1) ts) = f ∙ ap
    (λ x. x ++ kept_each (length ts - k - 1)) (e ∙ ap (λ x. x ++ l ∷ []) (d ∙ before)) ∙
    append_assoc (all_same (take k ts)) (l ∷ []) (kept_each (length ts - k - 1)) ∙ ap
    (λ x. all_same (take k ts) ++ l ∷ x) behind in
    let tag_is : k ≡ length (take k ts) + 0 = omega (arith, many) in
    ap (λ xs. made xs g2 k r) types
    ∙ ap (λ fs. made (take k ts ++ t ∷ drop (k + 1) ts) fs k r) kept
    ∙ ap (λ n. made (take k ts ++ t ∷ drop (k + 1) ts)
    (all_same (take k ts) ++ l ∷ all_same (drop (k + 1) ts)) n r) tag_is
