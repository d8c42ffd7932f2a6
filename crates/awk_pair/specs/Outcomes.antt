-- What pairing the rows of one level comes to.
use Rattle.std.specs.Prelude.{◌≡◌, ℕ, Bool, true, false, List, map, Some, None}
use Rattle.awk_types.specs.DataType.{DataType}
use Rattle.awk_types.specs.Value.{Value}
use Rattle.awk_types.specs.declared.fault.Fault.TheVariants.{Size}
use Rattle.awk_layout.specs.Layout.{Layout}
use Rattle.awk_layout.specs.Typing.{array_type}
use Rattle.awk_columns.specs.Parts.{AreParts}
use Rattle.awk_pair_sides.specs.Rows.{rows_at}
use Rattle.awk_pair_operands.specs.Paired.{Reach, to_leaves, to_depth, paired_type, types_at_ends}
use Rattle.awk_pair_operands.specs.Paired.{values_of_rows, any_uneven}
use Rattle.awk_frames.specs.Sizes.{levels_refused}
use Rattle.awk_frames.specs.Shape.{Shape, shape, ends}
use Rattle.awk_frames.specs.View.{shape_of}
use Rattle.awk_pair.specs.declared.outcome.Outcome.{Outcome}
use Rattle.awk_pair.specs.declared.outcome.Outcome.TheVariants as outcome

abbrev pub reach_of : Bool → Reach
reach_of true = to_leaves
reach_of false = to_depth

-- a shape and columns are what rows are paired to
pub record ArePaired (keep : Bool) (r : Reach) (d : ℕ) (ts : List DataType)
    (rows : List (List Value)) (s : Shape) (ys : List Layout) : Type 0 where
  pub shape : s ≡ shape (paired_type keep r d ts) (values_of_rows keep r d ts rows)
  pub leaves : AreParts 0 (ends (paired_type keep r d ts) (values_of_rows keep r d ts rows)) ys
  pub types : map array_type ys ≡ types_at_ends r d ts

pub record AreTooMany (keep : Bool) (r : Reach) (d : ℕ) (ts : List DataType)
    (rows : List (List Value)) : Type 0 where
  pub even : any_uneven keep d ts rows ≡ false
  pub large : levels_refused (paired_type keep r d ts) (values_of_rows keep r d ts rows)
      ≡ Some Size

pub record ArePairs (keep : Bool) (r : Reach) (d : ℕ) (ts : List DataType)
    (rows : List (List Value)) (s : Shape) (ys : List Layout) : Type 0 where
  pub even : any_uneven keep d ts rows ≡ false
  pub few : levels_refused (paired_type keep r d ts) (values_of_rows keep r d ts rows) ≡ None
  pub paired : ArePaired keep r d ts rows s ys

abbrev pub IsOutcome : Bool → Reach → ℕ → List DataType → List (List Value) → Outcome → Type 0
IsOutcome keep r d ts rows outcome.Unequal = any_uneven keep d ts rows ≡ true
IsOutcome keep r d ts rows outcome.TooMany = AreTooMany keep r d ts rows
IsOutcome keep r d ts rows (outcome.Pairs frame ys) =
    ArePairs keep r d ts rows (shape_of frame) ys

-- the outcome of the first n rows of arrays
abbrev pub PairsRows : Bool → Reach → ℕ → ℕ → List Layout → Outcome → Type 0
PairsRows keep r d n xs outcome = IsOutcome keep r d (map array_type xs) (rows_at xs n) outcome
