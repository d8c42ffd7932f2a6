-- What operands give at the ends of a pairing: leaves, null or not.
use Rattle.std.specs.Prelude.{◌≡◌, ℕ, suc, List, map, replicate, Bool, true, false, Result}
use Rattle.std.specs.List.{AllByRecursion}
use Rattle.awk_types.specs.Predicates.{is_leaf, is_null}
use Rattle.awk_types.specs.Simple.{present, is_option}
use Rattle.awk_types.specs.Value.{Value, int, null}
use Rattle.awk_types.specs.declared.fault.Fault.{Fault}
use Rattle.awk_types.specs.declared.primitive.Primitive.{Primitive}
use Rattle.awk_lanes.specs.Places.{size_of, IsOptionKind}
use Rattle.awk_layout.specs.Kinds.{primitive_of}
use Rattle.awk_layout.specs.Layout.{Layout}
use Rattle.awk_layout.specs.Typing.{array_type, array_items}
use Rattle.awk_layout.specs.Valid.{len}
use Rattle.awk_layout.specs.declared.datum.Operand.{Operand}
use Rattle.awk_layout.specs.declared.datum.Operand.TheVariants as operand
use Rattle.awk_leaves.specs.Table.{choice_judged}
use Rattle.awk_leaves.specs.Values.{choice_values}
use Rattle.awk_leaves.specs.declared.leaf_type.LeafType.{LeafType}
use Rattle.awk_leaves.specs.declared.leaf_type.LeafType.TheVariants as of
use Rattle.awk_pointwise.specs.Optional.{item_at}
use Rattle.awk_pointwise.specs.Sides.{lane_values, leaf_type, side_values, IsSide, IsNumber64}
use Rattle.awk_pointwise.specs.declared.sides.Side.{Side}
use Rattle.awk_ends.specs.Operands.{leaf_in}
use Rattle.awk_ends.specs.Columns.{column_at, data_before, ends_of, leaf_at, values_at}
use Rattle.awk_choose.specs.declared.ends.End.{End}
use Rattle.awk_choose.specs.declared.ends.End.TheVariants as end

-- ---- what an operand gives

abbrev pub end_leaf : End → LeafType
end_leaf (end.Leaves c) = of.Of (primitive_of c.kind)
end_leaf (end.Indexed j c) = of.Of (primitive_of c.kind)
end_leaf end.Nulls = of.Unknown
end_leaf (end.Literal z) = of.Literal z

-- its values at n ends
abbrev pub end_values : ℕ → End → List Value
end_values n (end.Leaves c) = lane_values c
end_values n (end.Indexed j c) = map (item_at (lane_values c)) j.items
end_values n end.Nulls = replicate n null
end_values n (end.Literal z) = replicate n (int z)

abbrev pub IsEnd : ℕ → End → Type 0
IsEnd n (end.Leaves c) = size_of c ≡ n
IsEnd n (end.Indexed j c) = (size_of j ≡ n) × IsOptionKind j.kind
IsEnd n end.Nulls = Unit {0}
IsEnd n (end.Literal z) = IsNumber64 z

-- a side gives the same, where no place is null
pub record IsSame (e : End) (s : Side) : Type 0 where
  pub leaf : leaf_type s ≡ end_leaf e
  pub values : (n : ℕ) → side_values n s ≡ end_values n e
  pub side : (n : ℕ) → IsEnd n e → IsSide n s

abbrev pub IsSideOf : End → Side → Type 0
IsSideOf (end.Leaves c) s = IsSame (end.Leaves c) s
IsSideOf (end.Indexed j c) s = Unit {0}
IsSideOf end.Nulls s = Unit {0}
IsSideOf (end.Literal z) s = IsSame (end.Literal z) s

-- ---- columns of leaves, optional or not

pub record IsLeafColumn (n : ℕ) (y : Layout) : Type 0 where
  pub size : len y ≡ n
  pub leaf : is_leaf (present (array_type y)) ≡ true

abbrev pub AreLeafColumns : List Layout → Type 0
AreLeafColumns ys = AllByRecursion (IsLeafColumn (ends_of ys)) ys

abbrev pub ArePresent : List Value → Type 0
ArePresent vs = AllByRecursion (λ v. is_null v ≡ false) vs

-- what a column gives
pub record IsColumnEnd (y : Layout) (e : End) : Type 0 where
  pub leaf : end_leaf e ≡ leaf_in (array_type y)
  pub values : end_values (len y) e ≡ array_items y
  pub end : IsEnd (len y) e
  pub present : is_option (array_type y) ≡ false → ArePresent (array_items y)

-- ---- operands

-- whether an operand, where it is the k-th of the data, is optional at the ends
abbrev pub is_optional_at : Operand → ℕ → List Layout → Bool
is_optional_at (operand.Of x) k ys = is_option (array_type (column_at ys k))
is_optional_at (operand.Literal z) k ys = false

-- what an operand gives, where it is the k-th of the data
pub record IsEndAt (x : Operand) (k : ℕ) (ys : List Layout) (e : End) : Type 0 where
  pub leaf : end_leaf e ≡ leaf_at x k ys
  pub values : end_values (ends_of ys) e ≡ values_at (ends_of ys) x k ys
  pub end : IsEnd (ends_of ys) e
  pub present : is_optional_at x k ys ≡ false → ArePresent (values_at (ends_of ys) x k ys)

-- what a condition and two operands give
pub record AreEndsAt (a b : Operand) (ys : List Layout) (c x y : End) : Type 0 where
  pub condition : IsColumnEnd (column_at ys 0) c
  pub first : IsEndAt a 1 ys x
  pub second : IsEndAt b (suc (data_before a)) ys y

-- ---- what columns say of a choice, of which the first is the condition's

abbrev pub columns_judged : Operand → Operand → List Layout → Result Primitive Fault
columns_judged a b ys =
    choice_judged (leaf_in (array_type (column_at ys 0))) (leaf_at a 1 ys)
    (leaf_at b (suc (data_before a)) ys)

abbrev pub columns_said : Operand → Operand → List Layout → Result (List Value) Fault
columns_said a b ys =
    choice_values (leaf_in (array_type (column_at ys 0))) (leaf_at a 1 ys)
    (leaf_at b (suc (data_before a)) ys) (array_items (column_at ys 0))
    (values_at (ends_of ys) a 1 ys) (values_at (ends_of ys) b (suc (data_before a)) ys)
