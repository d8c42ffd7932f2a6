-- Choices where no place is null.
use Rattle.std.specs.Prelude.{◌≡◌, ℕ, Ok}
use Rattle.awk_types.specs.declared.primitive.Primitive.{Primitive}
use Rattle.awk_types.specs.declared.primitive.Primitive.TheVariants.{Bool as Truths}
use Rattle.awk_lanes.specs.Column.{Column}
use Rattle.awk_lanes.specs.Places.{size_of}
use Rattle.awk_lanes.specs.declared.kind.Kind.{Kind}
use Rattle.awk_lanes.specs.declared.kind.Kind.TheVariants as kind
use Rattle.awk_leaves.specs.Table.{choice_judged}
use Rattle.awk_leaves.specs.declared.leaf_type.LeafType.TheVariants.{Of}
use Rattle.awk_pointwise.specs.Optional.{optional_type, optional_values, IsOptional}
use Rattle.awk_pointwise.specs.Optional.{AreKnown, AreKnownSide}
use Rattle.awk_pointwise.specs.Sides.{lane_values, leaf_type, side_values, IsSide}
use Rattle.awk_pointwise.specs.declared.optional.Optional.{Optional}
use Rattle.awk_pointwise.specs.declared.selection.Both.{Both}
use Rattle.awk_pointwise.specs.declared.selection.Whole.{Whole}
use Rattle.awk_pointwise.specs.declared.sides.Side.{Side}

-- two sides of n places, a lane of truth values between them, and the primitive that both fit
pub record IsSelection (p : Primitive) (n : ℕ) (mask : Column) (x y : Side) : Type 0 where
  pub kind : mask.kind ≡ kind.Bool
  pub size : size_of mask ≡ n
  pub first : IsSide n x
  pub second : IsSide n y
  pub first_known : AreKnownSide x
  pub second_known : AreKnownSide y
  pub judged : choice_judged (Of Truths) (leaf_type x) (leaf_type y) ≡ Ok p

-- a side is a lane of truth values
pub record IsMask (s : Side) (mask : Column) : Type 0 where
  pub kind : mask.kind ≡ kind.Bool
  pub typ : leaf_type s ≡ Of Truths
  pub values : (n : ℕ) → side_values n s ≡ lane_values mask
  pub size : (n : ℕ) → IsSide n s → size_of mask ≡ n

-- an operand is a side, which is null nowhere
pub record IsWhole (x : Optional) (s : Side) : Type 0 where
  pub typ : optional_type x ≡ leaf_type s
  pub values : (n : ℕ) → optional_values n x ≡ side_values n s
  pub side : (n : ℕ) → IsOptional n x → IsSide n s
  pub known : AreKnown x → AreKnownSide s

-- a condition and two operands are these
pub record AreWhole (c x y : Optional) (w : Whole) : Type 0 where
  pub kind : w.mask.now.kind ≡ kind.Bool
  pub typ : optional_type c ≡ Of Truths
  pub values : (n : ℕ) → optional_values n c ≡ lane_values w.mask.now
  pub size : (n : ℕ) → IsOptional n c → size_of w.mask.now ≡ n
  pub first : IsWhole x w.x.now
  pub second : IsWhole y w.y.now

-- a side is a lane of a kind
pub record IsLaneOf (k : Kind) (s : Side) (c : Column) : Type 0 where
  pub kind : c.kind ≡ k
  pub values : (n : ℕ) → side_values n s ≡ lane_values c
  pub size : (n : ℕ) → IsSide n s → size_of c ≡ n

-- two sides are these lanes of a kind
pub record AreLanesOf (k : Kind) (x y : Side) (b : Both) : Type 0 where
  pub first : IsLaneOf k x b.x.now
  pub second : IsLaneOf k y b.y.now
