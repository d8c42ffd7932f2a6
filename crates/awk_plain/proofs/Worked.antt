-- Arrays of plain JSON values, worked by hand.
use Rattle.std.specs.Prelude.{◌≡◌, ◌^◌, ℕ, pos, true, [], ◌∷◌, Ok, Err, codes, refl}
use Rattle.serde_json.specs.Data.{Data, null, boolean, number, string, array, object, Items}
use Rattle.serde_json.specs.Data.{no_items, item, no_members, member, unsigned}
use Rattle.awk_types.specs.DataType.{DataType, unknown, leaf, var, rec, opt, uni, no_types, type}
use Rattle.awk_types.specs.Datum.{arr}
use Rattle.awk_types.specs.Value as values
use Rattle.awk_types.specs.Value.{int, truth, list, row, alt, no_values, value}
use Rattle.awk_types.specs.declared.fault.Fault.TheVariants.{WrongType, Overflow}
use Rattle.awk_types.specs.declared.primitive.Primitive.TheVariants.{I64, Bool as Truths}
use Rattle.awk_plain.specs.Plain.{from_values, items_type}

abbrev whole : ℕ → Data
whole n = number (unsigned n)

abbrev i64 : DataType
i64 = leaf I64

-- [[1,null],[],null,[2]]
abbrev lists : Items
lists =
    item (array (item (whole 1) (item null no_items)))
    (item (array no_items) (item null (item (array (item (whole 2) no_items)) no_items)))

lists_and_nulls : from_values (array lists)
    ≡ Ok (arr (opt (var (opt i64))) (
    list (value (int (pos 1)) (value values.null no_values)) ∷ list no_values ∷ values.null
    ∷ list (value (int (pos 2)) no_values) ∷ []
    ))
lists_and_nulls = refl

-- [{"a":true,"b":1},3]
abbrev mixed : Items
mixed =
    item (object (member (codes "a") (boolean true) (member (codes "b") (whole 1) no_members)))
    (item (whole 3) no_items)

rows_and_numbers : from_values (array mixed)
    ≡ Ok (arr
    (uni
    (type (rec (codes "a" ∷ codes "b" ∷ []) (type (leaf Truths) (type i64 no_types)))
    (type i64 no_types)))
    (alt 0 (row (value (truth true) (value (int (pos 1)) no_values)))
    ∷ alt 1 (int (pos 3)) ∷ []))
rows_and_numbers = refl

-- [9223372036854775808,"t"], [9223372036854775808] and ["t"]
a_text_before_a_large_number :
    from_values (array (item (whole (2 ^ 63)) (item (string (codes "t")) no_items)))
    ≡ Err WrongType
a_text_before_a_large_number = refl

a_large_number : from_values (array (item (whole (2 ^ 63)) no_items)) ≡ Err Overflow
a_large_number = refl

a_text : from_values (array (item (string (codes "t")) no_items)) ≡ Err WrongType
a_text = refl

-- [] and [null]
nothing : from_values (array no_items) ≡ Ok (arr unknown [])
nothing = refl

one_null : from_values (array (item null no_items)) ≡ Ok (arr (opt unknown) (values.null ∷ []))
one_null = refl

-- [[1],[true],null,{"a":1},[[]],{"a":null},{}]
abbrev all_kinds : Items
all_kinds =
    item (array (item (whole 1) no_items)) (item (array (item (boolean true) no_items)) (item null
    (item (object (member (codes "a") (whole 1) no_members))
    (item (array (item (array no_items) no_items))
    (item (object (member (codes "a") null no_members)) (item (object no_members) no_items))))))

all_kinds_type : items_type unknown all_kinds
    ≡ opt
    (uni
    (type
    (var (uni (type i64 (type (leaf Truths) (type (var unknown) no_types)))))
    (type (rec (codes "a" ∷ []) (type (opt i64) no_types)) (type (rec [] no_types) no_types))))
all_kinds_type = refl
