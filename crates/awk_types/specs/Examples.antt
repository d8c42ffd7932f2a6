-- The definitions at worked examples, each checked by computing.
use Rattle.std.specs.Prelude.{◌≡◌, ℕ, zero, suc, Bool as Truth, true, false, List, [], ◌∷◌, map}
use Rattle.std.specs.Prelude.{pos, negsuc, codes, Some, None, refl}
use Rattle.awk_types.specs.declared.primitive.Primitive.TheVariants.{Bool, I8, I64, U8}
use Rattle.awk_types.specs.DataType.{DataType, unknown, leaf, var, reg, rec, tup, opt, uni}
use Rattle.awk_types.specs.DataType.{types_from, depth, nodes}
use Rattle.awk_types.specs.Value.{Value, int, truth, null, list, row, alt, values_from}
use Rattle.awk_types.specs.Datum.{arr, one}
use Rattle.awk_types.specs.Names.{is_among}
use Rattle.awk_types.specs.IsType.{IsType}
use Rattle.awk_types.specs.Has.{Has}
use Rattle.awk_types.specs.Simple.{simple, simple_value}
use Rattle.awk_types.specs.Settle.{settle}
use Rattle.awk_types.specs.Levels.{levels, common_number, datum_levels, turned_axis}
use Rattle.awk_types.specs.Predicates.{is_leaf, is_list, is_list_or_unknown, is_unknown, is_null}
use Rattle.awk_types.specs.Limit.{limit, width, depth_limit, size_limit}

abbrev union_type : List DataType → DataType
union_type ts = uni (types_from ts)

abbrev list_value : List Value → Value
list_value vs = list (values_from vs)

abbrev row_value : List Value → Value
row_value vs = row (values_from vs)

-- lists of records of an int64 and an int8
abbrev particles : DataType
particles = var (rec (codes "pt" ∷ codes "charge" ∷ []) (types_from (leaf I64 ∷ leaf I8 ∷ [])))

-- ---- depth, nodes and limits

particles_depth : depth particles ≡ 3
particles_depth = refl

particles_nodes : nodes particles ≡ 4
particles_nodes = refl

particles_limit : limit particles ≡ None
particles_limit = refl

-- the type under so many lists
abbrev under_lists : ℕ → DataType → DataType
under_lists zero t = t
under_lists (suc n) t = var (under_lists n t)

-- so many times the same
abbrev times : {A : Type 0} → ℕ → A → List A
times zero x = []
times (suc n) x = x ∷ times n x

depth_60 : limit (under_lists 59 (leaf I64)) ≡ None
depth_60 = refl

depth_61 : limit (under_lists 60 (leaf I64)) ≡ Some depth_limit
depth_61 = refl

width_127 : limit (union_type (times 127 (leaf I64))) ≡ None
width_127 = refl

width_128 : limit (union_type (times 128 (leaf I64))) ≡ Some size_limit
width_128 = refl

width_within : width
    (opt
    (tup (types_from (union_type (times 3 (leaf Bool)) ∷ union_type (times 5 (leaf Bool)) ∷ []))))
    ≡ 5
width_within = refl

-- 1 + 255 * (1 + 256) nodes, and then one more
nodes_65536 : limit (tup (types_from (times 255 (tup (types_from (times 256 (leaf I64))))))) ≡ None
nodes_65536 = refl

nodes_65537 : limit
    (tup (types_from (leaf I64 ∷ times 255 (tup (types_from (times 256 (leaf I64)))))))
    ≡ Some size_limit
nodes_65537 = refl

-- the depth is told first
depth_and_width : limit (under_lists 60 (union_type (times 128 (leaf I64)))) ≡ Some depth_limit
depth_and_width = refl

-- ---- which trees are types, and which values are of a type

name_among : is_among (codes "pt") (codes "charge" ∷ codes "pt" ∷ []) ≡ true
name_among = refl

name_not_among : is_among (codes "p") (codes "charge" ∷ codes "pt" ∷ []) ≡ false
name_not_among = refl

particles_are_typed : IsType particles
particles_are_typed = ((refl, (refl, tt)), refl, (tt, (tt, tt)))

no_value_of_unknown : Has (var unknown) (list_value [])
no_value_of_unknown = tt

-- two nulls, of a list of items of which nothing but null is known
two_nulls : Has (reg 2 (opt unknown)) (list_value (null ∷ null ∷ []))
two_nulls = (refl, (tt, (tt, tt)))

-- ---- simplifying

option_in_option : simple (opt (opt (leaf I64))) ≡ opt (leaf I64)
option_in_option = refl

option_in_option_values : map (simple_value (opt (opt (leaf I64)))) (null ∷ int (pos 9) ∷ [])
    ≡ null ∷ int (pos 9) ∷ []
option_in_option_values = refl

optional_unknown : simple (opt unknown) ≡ opt unknown
optional_unknown = refl

-- a union of a union of int64 and bool, and of int8
abbrev nested : DataType
nested = union_type (union_type (leaf I64 ∷ leaf Bool ∷ []) ∷ leaf I8 ∷ [])

union_in_union : simple nested ≡ union_type (leaf I64 ∷ leaf Bool ∷ leaf I8 ∷ [])
union_in_union = refl

union_in_union_values : map (simple_value nested)
    (alt 0 (alt 0 (int (pos 7))) ∷ alt 1 (int (pos 4)) ∷ alt 0 (alt 1 (truth true)) ∷ [])
    ≡ alt 0 (int (pos 7)) ∷ alt 2 (int (pos 4)) ∷ alt 1 (truth true) ∷ []
union_in_union_values = refl

-- an option in a union is moved outside, through another union too
abbrev optional : DataType
optional =
    union_type (opt (leaf I64) ∷ opt (union_type (leaf Bool ∷ opt (leaf I8) ∷ [])) ∷ leaf U8 ∷ [])

option_in_union : simple optional ≡ opt (union_type (leaf I64 ∷ leaf Bool ∷ leaf I8 ∷ leaf U8 ∷ []))
option_in_union = refl

option_in_union_values : map (simple_value optional)
    (alt 0 null ∷ alt 0 (int (pos 7)) ∷ alt 1 null ∷ alt 1 (alt 0 (truth true)) ∷ alt 1 (alt 1 null)
    ∷ alt 1 (alt 1 (int (pos 5))) ∷ alt 2 (int (pos 3)) ∷ [])
    ≡ null ∷ alt 0 (int (pos 7)) ∷ null ∷ alt 1 (truth true) ∷ null ∷ alt 2 (int (pos 5))
    ∷ alt 3 (int (pos 3)) ∷ []
option_in_union_values = refl

-- a union of one stays a union
union_of_one : simple (union_type (leaf I64 ∷ [])) ≡ union_type (leaf I64 ∷ [])
union_of_one = refl

within_lists : simple_value (var (tup (types_from (nested ∷ leaf I8 ∷ []))))
    (list_value (row_value (alt 1 (int (pos 4)) ∷ int (negsuc 0) ∷ []) ∷ []))
    ≡ list_value (row_value (alt 2 (int (pos 4)) ∷ int (negsuc 0) ∷ []) ∷ [])
within_lists = refl

-- ---- settling

settled_null : settle (opt (var (leaf I64))) null ≡ one (opt (var (leaf I64))) null
settled_null = refl

settled_present : settle (opt (var (leaf I64))) (list_value (int (pos 1) ∷ []))
    ≡ arr (leaf I64) (int (pos 1) ∷ [])
settled_present = refl

settled_alternative : settle (union_type (leaf Bool ∷ reg 1 (leaf I8) ∷ []))
    (alt 1 (list_value (int (pos 1) ∷ []))) ≡ arr (leaf I8) (int (pos 1) ∷ [])
settled_alternative = refl

settled_number : settle (opt (union_type (leaf Bool ∷ leaf I8 ∷ []))) (alt 1 (int (pos 1)))
    ≡ one (leaf I8) (int (pos 1))
settled_number = refl

-- ---- levels, and the axis that a negative one stands for

levels_of_leaves : map levels (leaf I64 ∷ unknown ∷ opt (leaf Bool) ∷ [])
    ≡ Some 0 ∷ Some 0 ∷ Some 0 ∷ []
levels_of_leaves = refl

levels_of_lists : levels (var (opt (reg 3 unknown))) ≡ Some 2
levels_of_lists = refl

levels_of_rows : levels particles ≡ Some 1
levels_of_rows = refl

levels_of_alternatives : levels (union_type (var (leaf I64) ∷ opt (reg 2 (leaf Bool)) ∷ []))
    ≡ Some 1
levels_of_alternatives = refl

-- none where branches are unequally deep, also below others that are equally deep, and none of a
-- tuple without parts
unequal_branches : levels (tup (types_from (leaf I64 ∷ var (leaf I64) ∷ []))) ≡ None
unequal_branches = refl

unequal_below : levels
    (var (tup (types_from (var (leaf I8) ∷ tup (types_from (var (leaf I8) ∷ leaf I8 ∷ [])) ∷ []))))
    ≡ None
unequal_below = refl

no_branches : levels (var (tup (types_from []))) ≡ None
no_branches = refl

no_branches_beside_leaves : levels (tup (types_from (leaf I64 ∷ tup (types_from []) ∷ []))) ≡ None
no_branches_beside_leaves = refl

-- the lists of an array of lists, the array itself, and no axis
turned_in_array : map (turned_axis (datum_levels (arr (var (leaf I64)) [])))
    (negsuc 0 ∷ negsuc 1 ∷ negsuc 2 ∷ []) ≡ pos 1 ∷ pos 0 ∷ negsuc 0 ∷ []
turned_in_array = refl

turned_in_value : map (turned_axis (datum_levels (one (var (leaf I64)) (list_value []))))
    (negsuc 0 ∷ negsuc 1 ∷ []) ≡ pos 0 ∷ negsuc 0 ∷ []
turned_in_value = refl

turned_without_levels : map (turned_axis None) (pos 2 ∷ negsuc 0 ∷ []) ≡ pos 2 ∷ negsuc 0 ∷ []
turned_without_levels = refl

-- operands at one axis: an array of numbers beside a single list is equally deep, beside an array
-- of lists it is not
equally_deep : common_number
    (datum_levels (arr (leaf I64) []) ∷ datum_levels (one (var (leaf I8)) (list_value [])) ∷ [])
    ≡ Some 1
equally_deep = refl

unequally_deep : common_number
    (datum_levels (arr (leaf I64) []) ∷ datum_levels (arr particles []) ∷ []) ≡ None
unequally_deep = refl

-- ---- tests of types and values

abbrev no : Truth
no = false

abbrev yes : Truth
yes = true

abbrev some_types : List DataType
some_types = unknown ∷ leaf Bool ∷ var (leaf I64) ∷ reg 2 (leaf I64) ∷ opt (var unknown) ∷ []

leaves : map is_leaf some_types ≡ yes ∷ yes ∷ no ∷ no ∷ no ∷ []
leaves = refl

lists : map is_list some_types ≡ no ∷ no ∷ yes ∷ yes ∷ no ∷ []
lists = refl

lists_or_unknown : map is_list_or_unknown some_types ≡ yes ∷ no ∷ yes ∷ yes ∷ no ∷ []
lists_or_unknown = refl

unknowns : map is_unknown some_types ≡ yes ∷ no ∷ no ∷ no ∷ no ∷ []
unknowns = refl

nulls : map is_null (null ∷ int (pos 0) ∷ truth false ∷ list_value [] ∷ [])
    ≡ yes ∷ no ∷ no ∷ no ∷ []
nulls = refl
