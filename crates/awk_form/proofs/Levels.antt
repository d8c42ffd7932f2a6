-- How deep the contents of a node nest.
use Rattle.std.proofs.Common.{◌≡◌, ◌<◌, ◌≤◌, ℕ, suc, max, List, [], ◌∷◌, map, get_or, length, zero}
use Rattle.std.proofs.Common.{Ok, ap, arith}
use Rattle.std.specs.List.{AllByRecursion}
use Rattle.serde_json.specs.Data.{Data, depth}
use Rattle.serde_json.specs.View.{view}
use Rattle.serde_json.specs.declared.value.Value.{Value}
use Rattle.awk_form.specs.Node.{Node, node_at}
use Rattle.awk_form.specs.Reading.{contents, contents_said, contents_of}
use Rattle.awk_form.proofs.Nodes.{contents_of-shallow}

-- one more than the greatest depth, or 0
abbrev pub levels : List Data → ℕ
levels [] = 0
levels (d ∷ ds) = max (suc (depth d)) (levels ds)

levels-below : (n : ℕ) (ds : List Data) → AllByRecursion (λ c. depth c < n) ds → levels ds ≤ n
levels-below n [] h = omega arith
levels-below n (d ∷ ds) h = omega (arith, h.0, levels-below n ds h.1)

pub levels-contents_of : (d : Data) → levels (contents_of d) ≤ depth d
levels-contents_of d = levels-below (depth d) (contents_of d) (contents_of-shallow d)

pub levels-node : (d : Data) (said : Node) → node_at d ≡ Ok said
    → levels (contents said.head) ≤ depth d
levels-node d said e = omega (arith, levels-contents_of d, ap (λ r. levels (contents_said r)) e)

-- an item nests no deeper than the list
pub levels-item : (vs : List Value) (i : ℕ) (v d : Value) → i < length vs → v ≡ get_or vs i d
    → suc (depth (view v)) ≤ levels (map view vs)
levels-item [] i v d h e = absurd (omega arith)
levels-item (x ∷ xs) zero v d h e = omega (arith, ap (λ y. depth (view y)) e)
levels-item (x ∷ xs) (suc i) v d h e = omega (arith, levels-item xs i v d (omega arith) e)
