-- Columns of items that are picked, and null elsewhere.
use Rattle.std.specs.Prelude.{ℕ}
use Rattle.std.proofs.Common.{arith, ◌∙◌}
use Rattle.awk_types.specs.DataType.{DataType}
use Rattle.awk_types.specs.Value.{Value}
use Rattle.awk_lanes.specs.Column.{Column}
use Rattle.awk_layout.specs.Layout.{Layout, optional}
use Rattle.awk_layout.specs.Valid.{IsValid}
use Rattle.awk_gather.specs.Peeled.{IsPickedOpt}
use Rattle.awk_list_functions.specs.Made.{IsColumn}
use Rattle.awk_option_nodes.proofs.OptionNodes.{picked_item}

pub picked_column : (t : DataType) (value : ℕ → Value) (n : ℕ) (y r : Layout) (p : Column)
    → IsValid r → IsPickedOpt y p r → IsColumn t value n (optional p y) → IsColumn t value n r
picked_column t value n y r p v h c = record {
  valid = v;
  size = h.size ∙ c.size;
  typ = h.typ ∙ c.typ;
  items = λ i q. picked_item y r p h i (omega (arith, q, c.size)) ∙ c.items i q;
}
