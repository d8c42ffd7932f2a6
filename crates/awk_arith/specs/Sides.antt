-- What stands at the ends of a pairing, as columns of leaves.
use Rattle.std.specs.Prelude.{◌≡◌, ℕ, List, [], ◌∷◌, Option, true}
use Rattle.awk_types.specs.Predicates.{is_leaf}
use Rattle.awk_lanes.specs.Column.{Column}
use Rattle.awk_layout.specs.Layout.{Layout}
use Rattle.awk_layout.specs.Typing.{array_type, array_items}
use Rattle.awk_layout.specs.Valid.{len}
use Rattle.awk_layout.specs.declared.datum.Operand.{Operand}
use Rattle.awk_layout.specs.declared.datum.Operand.TheVariants as operand
use Rattle.awk_pointwise.specs.Sides.{side_values, leaf_type, IsSide}
use Rattle.awk_pointwise.specs.declared.sides.Side.{Side}
use Rattle.awk_ends.specs.Columns.{column_at, leaf_at, values_at, IsLaneOf}
use Rattle.awk_ends.specs.Operands.{leaf_in}

-- ---- columns of leaves, one for each operand that is a datum

-- leaves at n ends
abbrev pub AreLeaves : ℕ → List Layout → Type 0
AreLeaves n [] = Unit {0}
AreLeaves n (y ∷ ys) = (len y ≡ n) × (is_leaf (array_type y) ≡ true) × AreLeaves n ys

-- ---- their lanes

abbrev pub IsLaneAt : ℕ → Operand → ℕ → List Layout → Option Column → Type 0
IsLaneAt n (operand.Of x) k ys lane =
    (len (column_at ys k) ≡ n) × IsLaneOf (column_at ys k) lane
IsLaneAt n (operand.Literal z) k ys lane = Unit {0}

-- what a column gives at n ends
pub record IsColumnSide (n : ℕ) (y : Layout) (s : Side) : Type 0 where
  pub typ : leaf_type s ≡ leaf_in (array_type y)
  pub values : side_values n s ≡ array_items y
  pub side : IsSide n s

-- what an operand gives at n ends
pub record IsSideAt (n : ℕ) (x : Operand) (k : ℕ) (ys : List Layout) (s : Side) : Type 0 where
  pub typ : leaf_type s ≡ leaf_at x k ys
  pub values : side_values n s ≡ values_at n x k ys
  pub side : IsSide n s
