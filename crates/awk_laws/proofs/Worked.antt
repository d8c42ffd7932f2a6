-- The laws at worked examples, each checked by computing.
use Rattle.std.specs.Prelude.{◌≡◌, ℕ, ℤ, true, false, List, [], ◌∷◌, map, pos, negsuc, codes}
use Rattle.std.specs.Prelude.{Some, None, Result, Ok, Err, refl}
use Rattle.awk_types.specs.DataType.{Name, DataType, leaf, var, reg, rec, opt, uni, types_from}
use Rattle.awk_types.specs.Datum.{Datum, arr, one}
use Rattle.awk_types.specs.Value.{Value, int, truth, null, list, row, alt, values_from}
use Rattle.awk_types.specs.declared.fault.Fault.{Fault}
use Rattle.awk_types.specs.declared.fault.Fault.TheVariants.{WrongType}
use Rattle.awk_types.specs.declared.primitive.Primitive.TheVariants.{Bool as Truths, I64}
use Rattle.awk_layout.specs.Filler.{literal}
use Rattle.awk_fill.specs.FillNone.{fill_none_of}
use Rattle.awk_lists.specs.Flatten.{flatten_of}
use Rattle.awk_lists.specs.LocalIndex.{local_index_of}
use Rattle.awk_lists.specs.Num.{num_of}
use Rattle.awk_lists.specs.Unflatten.{unflatten_of}
use Rattle.awk_lists.specs.WithoutField.{choice_of, without_field_of}
use Rattle.awk_merge_operands.specs.Concatenate.{concatenate_of}
use Rattle.awk_nulls.specs.DropNone.{drop_none_of}
use Rattle.awk_nulls.specs.Firsts.{firsts_of}
use Rattle.awk_padding.specs.PadNone.{pad_none_of}
use Rattle.awk_nulls.specs.Singletons.{singletons_of}
use Rattle.awk_select.specs.Picks.{mask_of, step_range_of, take_of}
use Rattle.awk_view.specs.Choice.{field}
use Rattle.awk_with_field.specs.WithField.{with_field_of}
use Rattle.awk_laws.specs.Viewing.{paired_part}

-- ---- data

abbrev n : ℕ → Value
n k = int (pos k)

abbrev numbers : List ℕ → Value
numbers ks = list (values_from (map n ks))

-- [1,2,3] and the like
abbrev ints : List ℕ → Datum
ints ks = arr (leaf I64) (map n ks)

-- [1,null] and the like
abbrev options : List Value → Datum
options vs = arr (opt (leaf I64)) vs

-- [[1,2],[],[3]] and the like
abbrev lists_of : List (List ℕ) → Datum
lists_of kss = arr (var (leaf I64)) (map numbers kss)

abbrev cut : List (List ℕ)
cut = (1 ∷ 2 ∷ []) ∷ [] ∷ (3 ∷ []) ∷ []

-- ---- flatten, unflatten, num

unflattened : unflatten_of (ints (1 ∷ 2 ∷ 3 ∷ [])) (ints (2 ∷ 0 ∷ 1 ∷ [])) ≡ Ok (lists_of cut)
unflattened = refl

flattened : flatten_of (pos 1) (lists_of cut) ≡ Ok (ints (1 ∷ 2 ∷ 3 ∷ []))
flattened = refl

counted : num_of (pos 1) (lists_of cut) ≡ Ok (ints (2 ∷ 0 ∷ 1 ∷ []))
counted = refl

-- lists that were all of length 2 come back as lists of any length
abbrev squares : Datum
squares = arr (reg 2 (leaf I64)) (numbers (1 ∷ 2 ∷ []) ∷ numbers (3 ∷ 4 ∷ []) ∷ [])

flattened_squares : flatten_of (pos 1) squares ≡ Ok (ints (1 ∷ 2 ∷ 3 ∷ 4 ∷ []))
flattened_squares = refl

counted_squares : num_of (pos 1) squares ≡ Ok (ints (2 ∷ 2 ∷ []))
counted_squares = refl

cut_squares : unflatten_of (ints (1 ∷ 2 ∷ 3 ∷ 4 ∷ [])) (ints (2 ∷ 2 ∷ []))
    ≡ Ok (lists_of ((1 ∷ 2 ∷ []) ∷ (3 ∷ 4 ∷ []) ∷ []))
cut_squares = refl

-- lists of which one is null: their num is optional, and cuts nothing
abbrev some_null : Datum
some_null = arr (opt (var (leaf I64))) (numbers (1 ∷ []) ∷ null ∷ [])

flattened_null : flatten_of (pos 1) some_null ≡ Ok (ints (1 ∷ []))
flattened_null = refl

counted_null : num_of (pos 1) some_null ≡ Ok (options (n 1 ∷ null ∷ []))
counted_null = refl

cut_by_null : unflatten_of (ints (1 ∷ [])) (options (n 1 ∷ null ∷ [])) ≡ Err WrongType
cut_by_null = refl

-- ---- concatenate

-- numbers beside truth values become values of a union
abbrev either : DataType
either = uni (types_from (leaf I64 ∷ leaf Truths ∷ []))

abbrev truths : Datum
truths = arr (leaf Truths) (truth true ∷ [])

joined : concatenate_of (pos 0) (ints (7 ∷ 8 ∷ []) ∷ truths ∷ [])
    ≡ Ok (arr either (alt 0 (n 7) ∷ alt 0 (n 8) ∷ alt 1 (truth true) ∷ []))
joined = refl

-- the two numbers, carried
part : step_range_of (Some (pos 0)) (Some (pos 2)) (pos 1)
    (arr either (alt 0 (n 7) ∷ alt 0 (n 8) ∷ alt 1 (truth true) ∷ []))
    ≡ Ok (arr either (alt 0 (n 7) ∷ alt 0 (n 8) ∷ []))
part = refl

-- of arrays of one type it is the part itself
joined_like : concatenate_of (pos 0) (ints (7 ∷ 8 ∷ []) ∷ ints (9 ∷ []) ∷ [])
    ≡ Ok (ints (7 ∷ 8 ∷ 9 ∷ []))
joined_like = refl

like_part : step_range_of (Some (pos 0)) (Some (pos 2)) (pos 1) (ints (7 ∷ 8 ∷ 9 ∷ []))
    ≡ Ok (ints (7 ∷ 8 ∷ []))
like_part = refl

-- and of one array the array
one_alone : concatenate_of (pos 0) (ints (7 ∷ 8 ∷ []) ∷ []) ≡ Ok (ints (7 ∷ 8 ∷ []))
one_alone = refl

-- ---- picks

places : local_index_of (pos 0) (ints (5 ∷ 6 ∷ 7 ∷ [])) ≡ Ok (ints (0 ∷ 1 ∷ 2 ∷ []))
places = refl

picked_all : take_of (ints (5 ∷ 6 ∷ 7 ∷ [])) (ints (0 ∷ 1 ∷ 2 ∷ [])) ≡ Ok (ints (5 ∷ 6 ∷ 7 ∷ []))
picked_all = refl

abbrev mask : Datum
mask = arr (opt (leaf Truths)) (truth true ∷ null ∷ truth false ∷ [])

masked_places : mask_of (ints (0 ∷ 1 ∷ 2 ∷ [])) mask ≡ Ok (options (n 0 ∷ null ∷ []))
masked_places = refl

by_places : take_of (ints (5 ∷ 6 ∷ 7 ∷ [])) (options (n 0 ∷ null ∷ []))
    ≡ mask_of (ints (5 ∷ 6 ∷ 7 ∷ [])) mask
by_places = refl

-- [5,6,7] at [2,0], and that at [1,1]: at [0,0]
picked_once : take_of (ints (5 ∷ 6 ∷ 7 ∷ [])) (ints (2 ∷ 0 ∷ [])) ≡ Ok (ints (7 ∷ 5 ∷ []))
picked_once = refl

picked_index : take_of (ints (2 ∷ 0 ∷ [])) (ints (1 ∷ 1 ∷ [])) ≡ Ok (ints (0 ∷ 0 ∷ []))
picked_index = refl

picked_twice : take_of (ints (7 ∷ 5 ∷ [])) (ints (1 ∷ 1 ∷ []))
    ≡ take_of (ints (5 ∷ 6 ∷ 7 ∷ [])) (ints (0 ∷ 0 ∷ []))
picked_twice = refl

-- ---- nulls

padded : pad_none_of 3 (pos 0) false (ints (4 ∷ [])) ≡ Ok (options (n 4 ∷ null ∷ null ∷ []))
padded = refl

unpadded : drop_none_of (pos 0) (options (n 4 ∷ null ∷ null ∷ [])) ≡ Ok (ints (4 ∷ []))
unpadded = refl

-- where lists are cut the items past the end are gone
clipped : pad_none_of 1 (pos 0) true (ints (4 ∷ 5 ∷ [])) ≡ Ok (options (n 4 ∷ []))
clipped = refl

filled : fill_none_of (options (n 4 ∷ null ∷ [])) (literal (negsuc 0)) (pos 0)
    ≡ Ok (arr (leaf I64) (n 4 ∷ int (negsuc 0) ∷ []))
filled = refl

first_items : firsts_of (pos 1) (lists_of cut) ≡ Ok (options (n 1 ∷ null ∷ n 3 ∷ []))
first_items = refl

singles : singletons_of (pos 0) (options (n 4 ∷ null ∷ [])) ≡ Ok (lists_of ((4 ∷ []) ∷ [] ∷ []))
singles = refl

joined_singles : flatten_of (pos 1) (lists_of ((4 ∷ []) ∷ [] ∷ []))
    ≡ drop_none_of (pos 0) (options (n 4 ∷ null ∷ []))
joined_singles = refl

-- the same at axis 1: [[4],[]] padded to two, and [[4,null]] as lists of at most one
abbrev padded_rows : Datum
padded_rows =
    arr (var (opt (leaf I64)))
    (list (values_from (n 4 ∷ null ∷ [])) ∷ list (values_from (null ∷ null ∷ [])) ∷ [])

padded_in_rows : pad_none_of 2 (pos 1) false (lists_of ((4 ∷ []) ∷ [] ∷ [])) ≡ Ok padded_rows
padded_in_rows = refl

unpadded_in_rows : drop_none_of (pos 1) padded_rows
    ≡ drop_none_of (pos 1) (lists_of ((4 ∷ []) ∷ [] ∷ []))
unpadded_in_rows = refl

abbrev optional_row : Datum
optional_row = arr (var (opt (leaf I64))) (list (values_from (n 4 ∷ null ∷ [])) ∷ [])

abbrev single_rows : Datum
single_rows =
    arr (var (var (leaf I64))) (list (values_from (numbers (4 ∷ []) ∷ numbers [] ∷ [])) ∷ [])

singles_in_rows : singletons_of (pos 1) optional_row ≡ Ok single_rows
singles_in_rows = refl

joined_in_rows : flatten_of (pos 2) single_rows ≡ drop_none_of (pos 1) optional_row
joined_in_rows = refl

-- first items two levels down: of [[[1,2],[]],[[3]]] at axis 2
abbrev deep : Datum
deep =
    arr (var (var (leaf I64)))
    (list (values_from (numbers (1 ∷ 2 ∷ []) ∷ numbers [] ∷ []))
    ∷ list (values_from (numbers (3 ∷ []) ∷ [])) ∷ [])

first_in_rows : firsts_of (pos 2) deep
    ≡ Ok (arr (var (opt (leaf I64)))
    (list (values_from (n 1 ∷ null ∷ [])) ∷ list (values_from (n 3 ∷ [])) ∷ []))
first_in_rows = refl

-- ---- ranges and fields

abbrev range : ℤ → ℤ → Datum → Result Datum Fault
range lo hi d = step_range_of (Some lo) (Some hi) (pos 1) d

-- [1:4] of five numbers, and [-2:] of these three, as [2:4] of the five
range_of_five : range (pos 1) (pos 4) (ints (0 ∷ 1 ∷ 2 ∷ 3 ∷ 4 ∷ [])) ≡ Ok (ints (1 ∷ 2 ∷ 3 ∷ []))
range_of_five = refl

range_of_three : step_range_of (Some (negsuc 1)) None (pos 1) (ints (1 ∷ 2 ∷ 3 ∷ []))
    ≡ range (pos 2) (pos 4) (ints (0 ∷ 1 ∷ 2 ∷ 3 ∷ 4 ∷ []))
range_of_three = refl

-- [1:9:3] of ten numbers, and [::-1] of these three, as [7:0:-3] of the ten
abbrev ten : Datum
ten = ints (0 ∷ 1 ∷ 2 ∷ 3 ∷ 4 ∷ 5 ∷ 6 ∷ 7 ∷ 8 ∷ 9 ∷ [])

thirds : step_range_of (Some (pos 1)) (Some (pos 9)) (pos 3) ten ≡ Ok (ints (1 ∷ 4 ∷ 7 ∷ []))
thirds = refl

thirds_down : step_range_of None None (negsuc 0) (ints (1 ∷ 4 ∷ 7 ∷ []))
    ≡ step_range_of (Some (pos 7)) (Some (pos 0)) (negsuc 2) ten
thirds_down = refl

abbrev x : Name
x = codes "x"

abbrev y : Name
y = codes "y"

abbrev records : Datum
records = arr (rec (x ∷ []) (types_from (leaf I64 ∷ []))) (row (values_from (n 1 ∷ [])) ∷ [])

abbrev pairs : Datum
pairs =
    arr (rec (x ∷ y ∷ []) (types_from (leaf I64 ∷ leaf I64 ∷ [])))
    (row (values_from (n 1 ∷ n 2 ∷ [])) ∷ [])

with_y : with_field_of y records (ints (2 ∷ [])) ≡ Ok pairs
with_y = refl

-- a single value stands beside each record
with_one : with_field_of y records (one (leaf I64) (n 2)) ≡ Ok pairs
with_one = refl

field_y : choice_of (field y) pairs ≡ Ok (ints (2 ∷ []))
field_y = refl

without_y : without_field_of y pairs ≡ Ok records
without_y = refl

-- the same within lists
abbrev record_type : DataType
record_type = rec (x ∷ []) (types_from (leaf I64 ∷ []))

abbrev pair_type : DataType
pair_type = rec (x ∷ y ∷ []) (types_from (leaf I64 ∷ leaf I64 ∷ []))

abbrev record_lists : Datum
record_lists =
    arr (var record_type) (list (values_from (row (values_from (n 1 ∷ [])) ∷ [])) ∷ [])

abbrev pair_lists : Datum
pair_lists =
    arr (var pair_type) (list (values_from (row (values_from (n 1 ∷ n 2 ∷ [])) ∷ [])) ∷ [])

with_y_in_lists : with_field_of y record_lists (lists_of ((2 ∷ []) ∷ [])) ≡ Ok pair_lists
with_y_in_lists = refl

field_y_in_lists : choice_of (field y) pair_lists
    ≡ Ok (paired_part 1 record_lists (lists_of ((2 ∷ []) ∷ [])))
field_y_in_lists = refl

value_paired : paired_part 1 record_lists (lists_of ((2 ∷ []) ∷ [])) ≡ lists_of ((2 ∷ []) ∷ [])
value_paired = refl

-- within lists a null beside a list of records makes that list null: it does not come back
with_null : with_field_of y record_lists (arr (opt (var (leaf I64))) (null ∷ []))
    ≡ Ok (arr (opt (var pair_type)) (null ∷ []))
with_null = refl

without_null : without_field_of y (arr (opt (var pair_type)) (null ∷ []))
    ≡ Ok (arr (opt (var record_type)) (null ∷ []))
without_null = refl

-- records that may be null: the value paired is null where they are, and they come back themselves
abbrev some_records : Datum
some_records = arr (opt record_type) (row (values_from (n 1 ∷ [])) ∷ null ∷ [])

abbrev some_pairs : Datum
some_pairs = arr (opt pair_type) (row (values_from (n 1 ∷ n 2 ∷ [])) ∷ null ∷ [])

with_y_of_some : with_field_of y some_records (ints (2 ∷ 3 ∷ [])) ≡ Ok some_pairs
with_y_of_some = refl

field_y_of_some : choice_of (field y) some_pairs ≡ Ok (options (n 2 ∷ null ∷ []))
field_y_of_some = refl

value_of_some : paired_part 1 some_records (ints (2 ∷ 3 ∷ [])) ≡ options (n 2 ∷ null ∷ [])
value_of_some = refl

without_y_of_some : without_field_of y some_pairs ≡ Ok some_records
without_y_of_some = refl

records_of_some : paired_part 0 some_records (ints (2 ∷ 3 ∷ [])) ≡ some_records
records_of_some = refl
