-- Types put into alternatives: those that were there are kept, and what is put in goes where it
-- says.
use Rattle.std.proofs.Common.{◌≡◌, ◌≤◌, ◌∷◌, ◌++◌, [], ℕ, List, append_assoc, arith, false, length}
use Rattle.std.proofs.Common.{length-append, subst, suc, sym, zero}
use Rattle.std.proofs.lemmas.List.{append-nil}
use Rattle.std.specs.Prelude.{None, Option, Some}
use Rattle.awk_unify.proofs.AfterLaws.{Fits, FitsAt, InPlace}
use Rattle.awk_unify.proofs.DepthLaws.{Deepest}
use Rattle.awk_unify.proofs.SimpleLaws.{Simply, insert_plain}
use Rattle.awk_unify.proofs.TypeLaws.{Types, insert_types}
use Rattle.awk_unify.specs.After.{after}
use Rattle.awk_unify.specs.Carries.{put_after, all_same, carry_at, each_then}
use Rattle.awk_unify.specs.Carry.{Carry, carried, carried_each, carries_from, tag_at}
use Rattle.awk_unify.specs.Carry.{to_alternatives}
use Rattle.awk_unify.specs.Join.{Joining, Unifying, join_by}
use Rattle.awk_unify.specs.Merge.{chosen, insert, further, insert_all}
use Rattle.awk_unify.specs.Places.{places_from}
use Rattle.awk_unify.specs.Unification.{Placed, PlacedAll, Unification}
use Rattle.awk_types.proofs.Trees.{types_from-list}
use Rattle.awk_types.specs.DataType.{DataType, depth, opt, type_list, types_from, uni}
use Rattle.awk_types.specs.Has.{Has, HasAlternative}
use Rattle.awk_types.specs.IsType.{AreTypes, IsType}
use Rattle.awk_types.specs.Simple.{ArePlain, IsSimple, alternatives, is_option, is_union, value_by}
use Rattle.awk_types.specs.Value.{Value, alt, null}
use Rattle.awk_unify.proofs.CarriedLaws.{IfJoins, Takes, after_in_place, stays, then_carries}

-- ---- alternatives

-- each of the first types is kept, in its place
abbrev pub Kept : List DataType → List Carry → List DataType → Type 0
Kept [] [] us = Unit {0}
Kept (a ∷ firsts) (f ∷ fs) (u ∷ us) = Takes a f u × InPlace f × Kept firsts fs us
Kept firsts fs us = ⊥

abbrev Put : DataType → ℕ → Carry → List DataType → Type 0
Put b k f [] = ⊥
Put b zero f (u ∷ us) = Takes b f u
Put b (suc k) f (u ∷ us) = Put b k f us

abbrev pub PutAll : List DataType → List ℕ → List Carry → List DataType → Type 0
PutAll [] [] [] us = Unit {0}
PutAll (b ∷ bs) (k ∷ ks) (f ∷ fs) us = Put b k f us × PutAll bs ks fs us
PutAll bs ks fs us = ⊥

pub kept_same : (ts : List DataType) → Kept ts (all_same ts) ts
kept_same [] = tt
kept_same (t ∷ ts) = (stays t, tt, kept_same ts)

kept_then : (firsts ms us : List DataType) (fs gs : List Carry) → Kept firsts fs ms → Kept ms gs us
    → Kept firsts (each_then fs gs) us
kept_then [] ms us [] gs h k = tt
kept_then [] ms us (f ∷ fs) gs h k = absurd h
kept_then (a ∷ firsts) ms us [] gs h k = absurd h
kept_then (a ∷ firsts) [] us (f ∷ fs) gs h k = absurd h
kept_then (a ∷ firsts) (m ∷ ms) us (f ∷ fs) [] h k = absurd k
kept_then (a ∷ firsts) (m ∷ ms) [] (f ∷ fs) (g ∷ gs) h k = absurd k
kept_then (a ∷ firsts) (m ∷ ms) (u ∷ us) (f ∷ fs) (g ∷ gs) h k = (
  then_carries a m u f g k.1 h.0 k.0,
  after_in_place g f k.1 h.1,
  kept_then firsts ms us fs gs
      h.2 k.2,
)

put_then : (b : DataType) (n : ℕ) (f : Carry) (ms us : List DataType) (gs : List Carry)
    → Put b n f ms → Kept ms gs us → Put b n (after (carry_at gs n) f) us
put_then b n f [] us gs h k = absurd h
put_then b n f (m ∷ ms) us [] h k = absurd k
put_then b n f (m ∷ ms) [] (g ∷ gs) h k = absurd k
put_then b zero f (m ∷ ms) (u ∷ us) (g ∷ gs) h k = then_carries b m u f g k.1 h k.0
put_then b (suc n) f (m ∷ ms) (u ∷ us) (g ∷ gs) h k = put_then b n f ms us gs h k.2

put_mid : (b : DataType) (f : Carry) (u : DataType) (pre us : List DataType) → Takes b f u
    → Put b (length pre) f (pre ++ u ∷ us)
put_mid b f u [] us h = h
put_mid b f u (p ∷ pre) us h = put_mid b f u pre us h

pub kept_put : (n : ℕ) (pre firsts us : List DataType) (fs : List Carry) → length pre ≡ n
    → Kept firsts fs us → PutAll firsts (places_from n (length fs)) fs (pre ++ us)
kept_put n pre [] us [] e h = tt
kept_put n pre [] us (f ∷ fs) e h = absurd h
kept_put n pre (a ∷ firsts) us [] e h = absurd h
kept_put n pre (a ∷ firsts) [] (f ∷ fs) e h = absurd h
kept_put n pre (a ∷ firsts) (u ∷ us) (f ∷ fs) e h =
    let size : length (pre ++ u ∷ []) ≡ suc n = grind (arith, length-append) in (
      subst (λ k. Put a k f (pre ++ u ∷ us)) e (put_mid a f u pre us h.0),
      subst (PutAll firsts (places_from (suc n) (length fs)) fs) (append_assoc pre (u ∷ []) us)
          (kept_put (suc n) (pre ++ u ∷ []) firsts us fs size h.2),
    )

put_has : (b : DataType) (k : ℕ) (f : Carry) (us : List DataType) (v : Value) → Put b k f us
    → Has b v → Fits f v × HasAlternative (types_from us) k (carried f v)
put_has b k f [] v h x = absurd h
put_has b zero f (u ∷ us) v h x = h v x
put_has b (suc k) f (u ∷ us) v h x = put_has b k f us v h x

alt_has : (firsts : List DataType) (ks : List ℕ) (fs : List Carry) (us : List DataType) (n : ℕ)
    (v : Value) → PutAll firsts ks fs us → HasAlternative (types_from firsts) n v → FitsAt ks
    (carries_from fs) n v × HasAlternative (types_from us) (tag_at ks n)
    (value_by (carried_each (carries_from fs)) n v)
alt_has [] ks fs us n v h x = absurd x
alt_has (a ∷ firsts) [] fs us n v h x = absurd h
alt_has (a ∷ firsts) (k ∷ ks) [] us n v h x = absurd h
alt_has (a ∷ firsts) (k ∷ ks) (f ∷ fs) us zero v h x = put_has a k f us v h.0 x
alt_has (a ∷ firsts) (k ∷ ks) (f ∷ fs) us (suc n) v h x = alt_has firsts ks fs us n v h.1 x

pub alts_carry : (a : DataType) (ks : List ℕ) (fs : List Carry) (us : List DataType)
    → is_option a ≡ false → PutAll (alternatives a) ks fs us
    → Takes a (to_alternatives ks (carries_from fs)) (uni (types_from us))
alts_carry (opt a) ks fs us e h v x = cc
alts_carry (uni ts) ks fs us e h (alt n v) x =
    alt_has (type_list ts) ks fs us n v h (subst (λ xs. HasAlternative xs n v)
    (sym (types_from-list ts)) x)
alts_carry (uni ts) ks fs us e h v x = absurd x
alts_carry a ks fs us e h null x = absurd x
alts_carry a ks fs us e h (alt n v) x = absurd x
alts_carry a ks fs us e h v x = alt_has (a ∷ []) ks fs us 0 v h x

-- ---- putting in

abbrev pub AllFine : List DataType → Type 0
AllFine ts = AreTypes (types_from ts) × ArePlain (types_from ts)

abbrev pub Joins : ℕ → Joining → Type 0
Joins n j =
    (a b : DataType) → depth b ≤ n → IsType a → IsType b → IsSimple a → IsSimple b → IfJoins a b
    (j a b)

chosen_kept : (a b : DataType) (firsts : List DataType) (o : Option Unification) (rest : Placed)
    → IfJoins a b o → Kept firsts rest.kept rest.typs
    → Kept (a ∷ firsts) (chosen a firsts o rest).kept (chosen a firsts o rest).typs
chosen_kept a b firsts (Some j) rest h k = (h.to_left, h.in_place, kept_same firsts)
chosen_kept a b firsts None rest h k = (stays a, tt, k)

chosen_put : (a b : DataType) (firsts : List DataType) (o : Option Unification) (rest : Placed)
    → IfJoins a b o → Put b rest.tag rest.put rest.typs
    → Put b (chosen a firsts o rest).tag (chosen a firsts o rest).put (chosen a firsts o rest).typs
chosen_put a b firsts (Some j) rest h k = h.to_right
chosen_put a b firsts None rest h k = k

insert_kept : (n : ℕ) (j : Joining) → Joins n j → (firsts : List DataType) (b : DataType)
    → depth b ≤ n → AllFine firsts → IsType b → IsSimple b
    → Kept firsts (insert j firsts b).kept (insert j firsts b).typs
insert_kept n j g [] b d s t x = tt
insert_kept n j g (a ∷ firsts) b d s t x =
    chosen_kept a b firsts (j a b) (insert j firsts b) (g a b d s.0.0 t s.1.2 x)
    (insert_kept n j g firsts b d (s.0.1, s.1.3) t x)

insert_put : (n : ℕ) (j : Joining) → Joins n j → (firsts : List DataType) (b : DataType)
    → depth b ≤ n → AllFine firsts → IsType b → IsSimple b
    → Put b (insert j firsts b).tag (insert j firsts b).put (insert j firsts b).typs
insert_put n j g [] b d s t x = stays b
insert_put n j g (a ∷ firsts) b d s t x =
    chosen_put a b firsts (j a b) (insert j firsts b) (g a b d s.0.0 t s.1.2 x)
    (insert_put n j g firsts b d (s.0.1, s.1.3) t x)

insert_fine : (n : ℕ) (u : Unifying) → Simply n u → Types u
    → (firsts : List DataType) (b : DataType) → depth b ≤ suc n → AllFine firsts → IsType b
    → (is_option b ≡ false) × (is_union b ≡ false) → IsSimple b
    → AllFine (insert (join_by u) firsts b).typs
insert_fine n u g ty firsts b d s t p x =
    ((insert_types u ty firsts b s.0 t).0, insert_plain n u g firsts b d s.1 p x)

-- what was put in goes on with what is kept
all_put_then : (bs : List DataType) (ks : List ℕ) (fs : List Carry) (ms us : List DataType)
    (gs : List Carry) → PutAll bs ks fs ms → Kept ms gs us → PutAll bs ks (put_after gs ks fs) us
all_put_then [] [] [] ms us gs h k = tt
all_put_then (b ∷ bs) (n ∷ ks) (f ∷ fs) ms us gs h k =
    (put_then b n f ms us gs h.0 k, all_put_then bs ks fs ms us gs h.1 k)
all_put_then [] [] (f ∷ fs) ms us gs h k = absurd h
all_put_then [] (n ∷ ks) fs ms us gs h k = absurd h
all_put_then (b ∷ bs) [] fs ms us gs h k = absurd h
all_put_then (b ∷ bs) (n ∷ ks) [] ms us gs h k = absurd h

all_put_last : (bs : List DataType) (ks : List ℕ) (fs : List Carry) (us : List DataType)
    (b : DataType) (n : ℕ) (f : Carry) → PutAll bs ks fs us → Put b n f us → PutAll (bs ++ b ∷ [])
    (ks ++ n ∷ []) (fs ++ f ∷ []) us
all_put_last [] [] [] us b n f h k = (k, tt)
all_put_last (c ∷ bs) (m ∷ ks) (g ∷ fs) us b n f h k = (h.0, all_put_last bs ks fs us b n f h.1 k)
all_put_last [] [] (g ∷ fs) us b n f h k = absurd h
all_put_last [] (m ∷ ks) fs us b n f h k = absurd h
all_put_last (c ∷ bs) [] fs us b n f h k = absurd h
all_put_last (c ∷ bs) (m ∷ ks) [] us b n f h k = absurd h

-- the first ones are kept, and the others put in
pub record AllCarried (firsts cs : List DataType) (p : PlacedAll) : Type 0 where
  pub all_kept : Kept firsts p.kept p.typs
  pub all_put : PutAll cs p.tags p.puts p.typs
  pub all_fine : AllFine p.typs

pub insert_all_carries : (n : ℕ) (u : Unifying) → Simply n u → Types u → Joins (suc n) (join_by u)
    → (firsts cs : List DataType) (p : PlacedAll) (bs : List DataType) → Deepest bs ≤ suc n
    → AllCarried firsts cs p → AllFine bs
    → AllCarried firsts (cs ++ bs) (insert_all (join_by u) p bs)
insert_all_carries n u g ty j firsts cs p [] d s t =
    subst (λ xs. AllCarried firsts xs p) (sym (append-nil cs)) s
insert_all_carries n u g ty j firsts cs p (b ∷ bs) d s t =
    let made : Placed = insert (join_by u) p.typs b in
    let kept : Kept p.typs made.kept made.typs = insert_kept (suc n) (join_by u) j p.typs b
    (omega arith) s.all_fine t.0.0 t.1.2 in
    let step : AllCarried firsts (cs ++ b ∷ []) (further p made) = record {
      all_kept = kept_then firsts p.typs made.typs p.kept made.kept s.all_kept kept;
      all_put =
          all_put_last cs p.tags _ made.typs b made.tag made.put
          (all_put_then cs p.tags p.puts p.typs made.typs made.kept s.all_put kept)
          (insert_put (suc n) (join_by u) j p.typs b (omega arith) s.all_fine t.0.0 t.1.2);
      all_fine = insert_fine n u g ty p.typs b (omega arith) s.all_fine t.0.0 (t.1.0, t.1.1) t.1.2;
    } in
    subst (λ xs. AllCarried firsts xs (insert_all (join_by u) (further p made) bs))
    (append_assoc cs (b ∷ []) bs)
    (insert_all_carries n u g ty j firsts (cs ++ b ∷ []) (further p made) bs (omega arith) step
    (t.0.1, t.1.3))
