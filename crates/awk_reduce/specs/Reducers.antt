-- What each reducer gives for one list of leaves: its type and its value.
use Rattle.std.specs.Prelude.{ℕ, ℤ, pos, List, length, Option, Some, None}
use Rattle.std.specs.List.{list_any, list_all, count_by}
use Rattle.awk_types.specs.DataType.{DataType, leaf, opt}
use Rattle.awk_types.specs.Value.{Value, int, truth, null}
use Rattle.awk_types.specs.declared.primitive.Primitive.{Primitive}
use Rattle.awk_types.specs.declared.primitive.Primitive.TheVariants.{Bool, I64, U8, U16, U32, U64}
use Rattle.awk_lanes.specs.Numbers.{is_nonzero}
use Rattle.awk_layout.specs.Item.{leaf_value}
use Rattle.awk_layout.specs.Kinds.{kind_of}
use Rattle.awk_kernels.specs.Kernels.{total}
use Rattle.awk_numbers.specs.Folds.{product, extreme_of}
use Rattle.awk_numbers.specs.declared.extremes.Extreme.TheVariants.{Least, Greatest}
use Rattle.awk_present.specs.Numbers.{leaf_of, numbers, extreme_place}
use Rattle.awk_reduce.specs.declared.reducer.Reducer.{Reducer}
use Rattle.awk_reduce.specs.declared.reducer.Reducer.TheVariants.{Sum, Prod, Min, Max}
use Rattle.awk_reduce.specs.declared.reducer.Reducer.TheVariants.{Argmin, Argmax, Any, All}
use Rattle.awk_reduce.specs.declared.reducer.Reducer.TheVariants.{Count, CountNonzero}

-- the type of sums and products of a leaf
abbrev pub wide : Primitive → Primitive
wide U8 = U64
wide U16 = U64
wide U32 = U64
wide U64 = U64
wide p = I64

abbrev pub reduced_type : Reducer → DataType → DataType
reduced_type Sum t = leaf (wide (leaf_of t))
reduced_type Prod t = leaf (wide (leaf_of t))
reduced_type Min t = opt (leaf (leaf_of t))
reduced_type Max t = opt (leaf (leaf_of t))
reduced_type Argmin t = opt (leaf I64)
reduced_type Argmax t = opt (leaf I64)
reduced_type Any t = leaf Bool
reduced_type All t = leaf Bool
reduced_type Count t = leaf I64
reduced_type CountNonzero t = leaf I64

-- a number as an item of a leaf, or null
abbrev pub item_or_null : Primitive → Option ℤ → Value
item_or_null p None = null
item_or_null p (Some z) = leaf_value (kind_of p) z

-- a place as a value, or null
abbrev pub place_or_null : Option ℕ → Value
place_or_null None = null
place_or_null (Some k) = int (pos k)

-- of a list whose items are of a type
abbrev pub reduced : Reducer → DataType → List Value → Value
reduced Sum t vs = int (total (numbers vs))
reduced Prod t vs = int (product (numbers vs))
reduced Min t vs = item_or_null (leaf_of t) (extreme_of Least (numbers vs))
reduced Max t vs = item_or_null (leaf_of t) (extreme_of Greatest (numbers vs))
reduced Argmin t vs = place_or_null (extreme_place Least vs)
reduced Argmax t vs = place_or_null (extreme_place Greatest vs)
reduced Any t vs = truth (list_any is_nonzero (numbers vs))
reduced All t vs = truth (list_all is_nonzero (numbers vs))
reduced Count t vs = int (pos (length (numbers vs)))
reduced CountNonzero t vs = int (pos (count_by is_nonzero (numbers vs)))
