-- The nodes of the first contents of a node.
use Rattle.std.proofs.Common.{◌≡◌, ℕ, suc, zero, ◌≤◌, ◌+◌, List, [], ◌∷◌, take, arith, slice_get}
use Rattle.std.proofs.Common.{Some, add-one}
use Rattle.awk_layout.specs.Layout.{Layout, layouts_from, weight, weights}

weights-take_suc : (xs : List Layout) (i : ℕ) (y : Layout) → slice_get xs i ≡ Some y
    → weights (layouts_from (take (suc i) xs)) ≡ weights (layouts_from (take i xs)) + weight y
weights-take_suc [] i y e = cc
weights-take_suc (x ∷ xs) zero y e = let f : x ≡ y = cc in rw f (omega arith)
weights-take_suc (x ∷ xs) (suc i) y e = omega (arith, weights-take_suc xs i y e)

pub weights-take_more : (xs : List Layout) (i : ℕ) (y : Layout) → slice_get xs i ≡ Some y
    → weights (layouts_from (take (i + 1) xs)) ≡ weights (layouts_from (take i xs)) + weight y
weights-take_more xs i y e = rw add-one (weights-take_suc xs i y e)

pub weights-take-le : (xs : List Layout) (i : ℕ)
    → weights (layouts_from (take i xs)) ≤ weights (layouts_from xs)
weights-take-le [] zero = omega arith
weights-take-le [] (suc i) = omega arith
weights-take-le (x ∷ xs) zero = omega arith
weights-take-le (x ∷ xs) (suc i) = omega (arith, weights-take-le xs i)
