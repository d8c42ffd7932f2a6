-- Records of the same names in the same order: each name is at its own place.
use Rattle.std.proofs.Common.{◌≡◌, ℕ, suc, zero, List, [], ◌∷◌, map, length, Bool, true, false}
use Rattle.std.proofs.Common.{refl, ap, ap₂, ◌∙◌, arith, Some}
use Rattle.std.specs.Prelude.{◌&&◌, ◌||◌, if◌then◌else◌}
use Rattle.std.specs.List.{list_all}
use Rattle.std.proofs.lemmas.Bool.{or_parts}
use Rattle.awk_types.specs.DataType.{DataType, Name}
use Rattle.awk_types.specs.Names.{AreDistinct, is_among, same_name}
use Rattle.awk_types.proofs.NameLaws.{same_name-refl, same_name-flip}
use Rattle.awk_unify.specs.Carries.{carry_at}
use Rattle.awk_unify.specs.Carry.{Carry}
use Rattle.awk_name_places.specs.Places.{place_in}
use Rattle.awk_unify.specs.FieldNames.{alike, field_type, is_in, picked, with_type}
use Rattle.awk_unify.specs.Places.{places, places_from}
use Rattle.awk_unify.proofs.Tests.{eq_true}

-- ---- all names are there

still_in : (n : Name) (ns ms : List Name) → list_all (is_in ns) ms ≡ true
    → list_all (is_in (n ∷ ns)) ms ≡ true
still_in n ns [] e = refl
still_in n ns (m ∷ ms) e = step (same_name n m) (is_in ns m) (list_all (is_in ns) ms) e
    (still_in n ns ms)
  where
    step : (b c d : Bool) → (c && d) ≡ true
        → (d ≡ true → list_all (is_in (n ∷ ns)) ms ≡ true)
        → ((b || c) && list_all (is_in (n ∷ ns)) ms) ≡ true
    step true true d f g = g f
    step false true d f g = g f
    step b false d f g = absurd (cc)

all_there : (ns : List Name) → list_all (is_in ns) ns ≡ true
all_there [] = refl
all_there (n ∷ ns) = rw (same_name-refl n) (still_in n ns ns (all_there ns))

pub alike_itself : (ns : List Name) → alike ns ns ≡ true
alike_itself ns =
    ap (λ b. b && list_all (is_in ns) ns) (eq_true (length ns) (length ns) refl) ∙ all_there ns

-- ---- names behind another one

first_not : (m n : Name) (ms : List Name) → is_among n (m ∷ ms) ≡ false → same_name m n ≡ false
first_not m n ms e = (or_parts (same_name m n) (is_among n ms) e).0

rest_not : (m n : Name) (ms : List Name) → is_among n (m ∷ ms) ≡ false → is_among n ms ≡ false
rest_not m n ms e = (or_parts (same_name m n) (is_among n ms) e).1

picked_behind : (n : Name) (t : DataType) (ms ns : List Name) (ts : List DataType)
    → is_among n ms ≡ false → picked ms (n ∷ ns) (t ∷ ts) ≡ picked ms ns ts
picked_behind n t [] ns ts e = refl
picked_behind n t (m ∷ ms) ns ts e =
    ap₂ with_type
    (ap (λ b. if b then Some t else field_type m ns ts) (first_not m n ms e))
    (picked_behind n t ms ns ts (rest_not m n ms e))

pub picked_itself : (ns : List Name) (ts : List DataType) → AreDistinct ns
    → length ns ≡ length ts → picked ns ns ts ≡ Some ts
picked_itself [] [] d l = refl
picked_itself [] (t ∷ ts) d l = absurd (cc)
picked_itself (n ∷ ns) [] d l = absurd (cc)
picked_itself (n ∷ ns) (t ∷ ts) d l =
    ap₂ with_type
    (ap (λ b. if b then Some t else field_type n ns ts) (same_name-refl n))
    (picked_behind n t ns ns ts d.0 ∙ picked_itself ns ts d.1 (omega (arith, l)))

place_behind : (n m : Name) (ns : List Name) → same_name m n ≡ false
    → place_in (n ∷ ns) m ≡ suc (place_in ns m)
place_behind n m ns e =
    ap (λ b. if b then 0 else suc (place_in ns m)) (same_name-flip n m ∙ e)

places_behind : (n : Name) (ms ns : List Name) → is_among n ms ≡ false
    → map (place_in (n ∷ ns)) ms ≡ map suc (map (place_in ns) ms)
places_behind n [] ns e = refl
places_behind n (m ∷ ms) ns e =
    ap₂ (λ k ks. k ∷ ks) (place_behind n m ns (first_not m n ms e))
    (places_behind n ms ns (rest_not m n ms e))

places_next : (i k : ℕ) → map suc (places_from i k) ≡ places_from (suc i) k
places_next i zero = refl
places_next i (suc k) = ap (λ js. suc i ∷ js) (places_next (suc i) k)

pub places_itself : (ns : List Name) → AreDistinct ns → map (place_in ns) ns ≡ places (length ns)
places_itself [] d = refl
places_itself (n ∷ ns) d =
    ap₂ (λ k ks. k ∷ ks)
    (ap (λ b. if b then 0 else suc (place_in ns n)) (same_name-refl n))
    (places_behind n ns ns d.0 ∙ ap (map suc) (places_itself ns d.1) ∙ places_next 0 (length ns))

carries_behind : (n : Name) (f : Carry) (ms ns : List Name) (fs : List Carry)
    → is_among n ms ≡ false
    → map (λ m. carry_at (f ∷ fs) (place_in (n ∷ ns) m)) ms
    ≡ map (λ m. carry_at fs (place_in ns m)) ms
carries_behind n f [] ns fs e = refl
carries_behind n f (m ∷ ms) ns fs e =
    ap₂ (λ g gs. g ∷ gs)
    (ap (carry_at (f ∷ fs)) (place_behind n m ns (first_not m n ms e)))
    (carries_behind n f ms ns fs (rest_not m n ms e))

pub carries_itself : (ns : List Name) (fs : List Carry) → AreDistinct ns → length ns ≡ length fs
    → map (λ m. carry_at fs (place_in ns m)) ns ≡ fs
carries_itself [] [] d l = refl
carries_itself [] (f ∷ fs) d l = absurd (cc)
carries_itself (n ∷ ns) [] d l = absurd (cc)
carries_itself (n ∷ ns) (f ∷ fs) d l =
    ap₂ (λ g gs. g ∷ gs)
    (ap (λ b. carry_at (f ∷ fs) (if b then 0 else suc (place_in ns n))) (same_name-refl n))
    (carries_behind n f ns ns fs d.0 ∙ carries_itself ns fs d.1 (omega (arith, l)))
