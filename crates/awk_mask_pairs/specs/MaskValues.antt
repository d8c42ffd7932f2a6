-- Masks of truth values over arrays: types, what an array is under one, and unequal lengths.
use Rattle.std.specs.Prelude.{◌==◌, Bool, true, false, ◌||◌, not, List, [], ◌∷◌, length}
use Rattle.std.specs.Prelude.{if◌then◌else◌}
use Rattle.awk_types.specs.DataType.{DataType, unknown, leaf, var, reg, opt}
use Rattle.awk_types.specs.Value.{Value, truth, null, list, value_list, values_from}
use Rattle.awk_types.specs.declared.primitive.Primitive.TheVariants.{Bool as Truths}
use Rattle.awk_types.specs.Predicates.{is_unknown}
use Rattle.awk_layout.specs.Item.{agrees}

-- ---- types

-- whether a type is of lists whose items' type is as asked
abbrev pub of_items : (DataType → Bool) → DataType → Bool
of_items asked (var t) = asked t
of_items asked (reg n t) = asked t
of_items asked t = false

-- the same of lists that are optional or not
abbrev pub has_items : (DataType → Bool) → DataType → Bool
has_items asked (opt t) = of_items asked t
has_items asked t = of_items asked t

-- a mask of truth values, optional or not, or of unknown, lies in lists only where the items do
abbrev pub masks : DataType → DataType → Bool
masks unknown t = true
masks (leaf Truths) t = true
masks (var u) t = has_items (masks u) t
masks (reg n u) t = has_items (masks u) t
masks (opt u) t = if is_unknown u then false else masks u t
masks u t = false

-- lists, optional or not, with their items' type by a function
abbrev pub with_items : (DataType → DataType) → DataType → DataType
with_items f (var t) = var (f t)
with_items f (reg n t) = reg n (f t)
with_items f (opt t) = opt (with_items f t)
with_items f t = t

-- the lists of the items keep their class
abbrev pub masked_type : DataType → DataType → DataType
masked_type (var u) t = with_items (masked_type u) t
masked_type (reg n u) t = with_items (masked_type u) t
masked_type (opt u) t = opt (masked_type u t)
masked_type u t = opt t

-- ---- values

-- the items of two lists in pairs
abbrev pub in_pairs : {A B C : Type 0} → (A → B → C) → List A → List B → List C
in_pairs f [] ys = []
in_pairs f (x ∷ xs) [] = []
in_pairs f (x ∷ xs) (y ∷ ys) = f x y ∷ in_pairs f xs ys

-- two lists by a function of their items, and null where either is null
abbrev pub of_lists : (List Value → List Value → List Value) → Value → Value → Value
of_lists f (list ms) (list vs) = list (values_from (f (value_list ms) (value_list vs)))
of_lists f m v = null

-- the value where the truth value is the one that is kept
abbrev pub kept_where : Bool → Value → Value → Value
kept_where keep (truth b) v = if agrees keep b then v else null
kept_where keep m v = null

-- a value by a mask of a type over it: null where either is null
abbrev pub masked_value : DataType → Bool → Value → Value → Value
masked_value (var u) keep m v = of_lists (in_pairs (masked_value u keep)) m v
masked_value (reg n u) keep m v = of_lists (in_pairs (masked_value u keep)) m v
masked_value (opt u) keep m v = masked_value u keep m v
masked_value u keep m v = kept_where keep m v

-- whether one of the pairs differs
abbrev pub any_pair : (Value → Value → Bool) → List Value → List Value → Bool
any_pair f [] vs = false
any_pair f (m ∷ ms) [] = false
any_pair f (m ∷ ms) (v ∷ vs) = f m v || any_pair f ms vs

-- whether two lists have unequal lengths, or some pair of their items differs
abbrev pub lists_differ : (Value → Value → Bool) → List Value → List Value → Bool
lists_differ f ms vs = not (length ms == length vs) || any_pair f ms vs

-- null is no list
abbrev pub differ_inside : (Value → Value → Bool) → Value → Value → Bool
differ_inside f (list ms) (list vs) = lists_differ f (value_list ms) (value_list vs)
differ_inside f m v = false

-- whether a list of a mask of a type and the list under it have unequal lengths at some level
abbrev pub differs : DataType → Value → Value → Bool
differs (var u) m v = differ_inside (differs u) m v
differs (reg n u) m v = differ_inside (differs u) m v
differs (opt u) m v = differs u m v
differs u m v = false
