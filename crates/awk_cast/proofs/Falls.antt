-- The types of contents have fewer nodes.
use Rattle.std.proofs.Common.{◌≡◌, ℕ, zero, suc, ◌≤◌, List, [], ◌∷◌, map, slice_get}
use Rattle.std.proofs.Common.{Some, arith, sum}
use Rattle.std.proofs.lemmas.Grind.{common_steps}
use Rattle.awk_types.specs.DataType.{types_from, nodes, nodes_each}
use Rattle.awk_layout.specs.Layout.{Layout}
use Rattle.awk_layout.specs.Typing.{array_type}

-- the nodes of all types together
abbrev pub nodes_of : List Layout → ℕ
nodes_of xs = sum (nodes_each (types_from (map array_type xs)))

pub each_falls : (xs : List Layout) (i : ℕ) (x : Layout) → slice_get xs i ≡ Some x
    → nodes (array_type x) ≤ nodes_of xs
each_falls [] i x e = cc
each_falls (y ∷ xs) zero x e =
    let same : y ≡ x = cc in
    rw (← same) (grind (arith, common_steps))
each_falls (y ∷ xs) (suc i) x e = grind (arith, common_steps, each_falls xs i x e)
