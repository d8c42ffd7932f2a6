-- The contents of a node, one by one: what holds of all holds of the one that `get` gives.
use Rattle.std.specs.Prelude.{◌≡◌, ℕ, zero, suc, ◌≤◌, List, [], ◌∷◌, ◌++◌, length, slice_get, Some}
use Rattle.std.specs.Prelude.{refl}
use Rattle.std.proofs.Common.{arith}
use Rattle.awk_layout.specs.Layout.{Layout, layouts_from, count, weight, weights, height, heights}
use Rattle.awk_layout.specs.Valid.{len, IsValid, AllValid, AllReach}
use Rattle.awk_layout.specs.Numbered.{IsNumbered, AreNumbered}
use Rattle.awk_layout.specs.Place.{nth}

pub count-layouts_from : (xs : List Layout) → count (layouts_from xs) ≡ length xs
count-layouts_from [] = refl
count-layouts_from (x ∷ xs) = omega (arith, count-layouts_from xs)

pub nth-layouts_from : (xs : List Layout) (k : ℕ) (y : Layout) → slice_get xs k ≡ Some y
    → nth (layouts_from xs) k ≡ y
nth-layouts_from [] k y e = cc
nth-layouts_from (x ∷ xs) zero y e = cc
nth-layouts_from (x ∷ xs) (suc k) y e = nth-layouts_from xs k y e

pub AllValid-append : (xs : List Layout) (y : Layout) → AllValid (layouts_from xs) → IsValid y
    → AllValid (layouts_from (xs ++ y ∷ []))
AllValid-append [] y h v = (v, tt)
AllValid-append (x ∷ xs) y h v = (h.0, AllValid-append xs y h.1 v)

pub AllReach-get : (n : ℕ) (xs : List Layout) (k : ℕ) (y : Layout) → slice_get xs k ≡ Some y
    → AllReach n (layouts_from xs) → n ≤ len y
AllReach-get n [] k y e h = cc
AllReach-get n (x ∷ xs) zero y e h = let f : x ≡ y = cc in rw (← f) h.0
AllReach-get n (x ∷ xs) (suc k) y e h = AllReach-get n xs k y e h.1

pub height-get : (xs : List Layout) (k : ℕ) (y : Layout) → slice_get xs k ≡ Some y
    → height y ≤ heights (layouts_from xs)
height-get [] k y e = cc
height-get (x ∷ xs) zero y e = let f : x ≡ y = cc in rw (← f) (omega arith)
height-get (x ∷ xs) (suc k) y e = omega (arith, height-get xs k y e)

pub weight-get : (xs : List Layout) (k : ℕ) (y : Layout) → slice_get xs k ≡ Some y
    → weight y ≤ weights (layouts_from xs)
weight-get [] k y e = cc
weight-get (x ∷ xs) zero y e = let f : x ≡ y = cc in rw (← f) (omega arith)
weight-get (x ∷ xs) (suc k) y e = omega (arith, weight-get xs k y e)

pub AreNumbered-append : (xs : List Layout) (y : Layout) → AreNumbered (layouts_from xs)
    → IsNumbered y → AreNumbered (layouts_from (xs ++ y ∷ []))
AreNumbered-append [] y h v = (v, tt)
AreNumbered-append (x ∷ xs) y h v = (h.0, AreNumbered-append xs y h.1 v)
