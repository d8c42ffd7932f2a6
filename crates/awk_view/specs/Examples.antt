-- The definitions at worked examples, each checked by computing.
use Rattle.std.specs.Prelude.{◌≡◌, ℕ, List, [], ◌∷◌, map, pos, codes, Some, Ok, Err, refl}
use Rattle.std.specs.Fmt.{digits}
use Rattle.awk_types.specs.declared.primitive.Primitive.TheVariants.{I8, I64, Bool}
use Rattle.awk_types.specs.DataType.{Name, DataType, leaf, var, rec, tup, opt, uni, types_from}
use Rattle.awk_types.specs.Value.{Value, int, null, list, row, alt, values_from}
use Rattle.awk_types.specs.Datum.{arr}
use Rattle.awk_types.specs.declared.fault.Fault.TheVariants.{NoField}
use Rattle.awk_view.specs.Choice.{field, fields, without, absent, chosen_type, chosen_value}
use Rattle.awk_view.specs.Answer.{choice_answer}

abbrev n : ℕ → Value
n k = int (pos k)

abbrev numbers : List ℕ → Value
numbers ks = list (values_from (map n ks))

abbrev x : Name
x = codes "x"

abbrev y : Name
y = codes "y"

abbrev w : Name
w = codes "w"

-- records of an int64 and a list of int64
abbrev pairs : DataType
pairs = rec (x ∷ y ∷ []) (types_from (leaf I64 ∷ var (leaf I64) ∷ []))

abbrev pair : ℕ → List ℕ → Value
pair k ks = row (values_from (n k ∷ numbers ks ∷ []))

-- [{"x":1,"y":[1,2]},{"x":2,"y":[]}]
abbrev two : List Value
two = pair 1 (1 ∷ 2 ∷ []) ∷ pair 2 [] ∷ []

field_y : choice_answer (field y) pairs two
    ≡ Ok (arr (var (leaf I64)) (numbers (1 ∷ 2 ∷ []) ∷ numbers [] ∷ []))
field_y = refl

field_w : choice_answer (field w) pairs two ≡ Err (NoField w)
field_w = refl

fields_in_another_order : choice_answer (fields (y ∷ x ∷ [])) pairs two
    ≡ Ok (arr (rec (y ∷ x ∷ []) (types_from (var (leaf I64) ∷ leaf I64 ∷ [])))
    (row (values_from (numbers (1 ∷ 2 ∷ []) ∷ n 1 ∷ []))
    ∷ row (values_from (numbers [] ∷ n 2 ∷ [])) ∷ []))
fields_in_another_order = refl

-- the first absent name, in the order asked
first_of_two_absent : choice_answer (fields (x ∷ w ∷ codes "v" ∷ [])) pairs two ≡ Err (NoField w)
first_of_two_absent = refl

without_y : choice_answer (without y) pairs two
    ≡ Ok (arr (rec (x ∷ []) (types_from (leaf I64 ∷ [])))
    (row (values_from (n 1 ∷ [])) ∷ row (values_from (n 2 ∷ [])) ∷ []))
without_y = refl

-- through lists and options
field_of_lists : choice_answer (field x) (var (opt pairs))
    (list (values_from (pair 1 [] ∷ null ∷ [])) ∷ [])
    ≡ Ok (arr (var (opt (leaf I64))) (list (values_from (n 1 ∷ null ∷ [])) ∷ []))
field_of_lists = refl

-- of every alternative of a union
abbrev either : DataType
either = uni (types_from (pairs ∷ rec (y ∷ []) (types_from (opt (leaf I8) ∷ [])) ∷ []))

abbrev one_of_each : List Value
one_of_each =
    alt 0 (pair 1 (5 ∷ [])) ∷ alt 1 (row (values_from (n 7 ∷ [])))
    ∷ alt 1 (row (values_from (null ∷ []))) ∷ []

field_of_a_union : choice_answer (field y) either one_of_each
    ≡ Ok (arr (opt (uni (types_from (var (leaf I64) ∷ leaf I8 ∷ []))))
    (alt 0 (numbers (5 ∷ [])) ∷ alt 1 (n 7) ∷ null ∷ []))
field_of_a_union = refl

second_alternative_lacks : choice_answer (field x) either one_of_each ≡ Err (NoField x)
second_alternative_lacks = refl

-- no name is looked for, and something else than a record is met
no_names_of_a_leaf : absent (fields []) (var (leaf I64)) ≡ Some []
no_names_of_a_leaf = refl

no_names_of_records : choice_answer (fields []) pairs two
    ≡ Ok (arr (rec [] (types_from [])) (row (values_from []) ∷ row (values_from []) ∷ []))
no_names_of_records = refl

a_name_of_a_leaf : absent (fields (x ∷ [])) (var (leaf I64)) ≡ Some x
a_name_of_a_leaf = refl

-- ---- tuples, whose places have decimals as names

abbrev triples : DataType
triples = tup (types_from (leaf I64 ∷ leaf I8 ∷ leaf Bool ∷ []))

abbrev triple : Value
triple = row (values_from (n 5 ∷ n 6 ∷ n 7 ∷ []))

field_of_a_tuple : chosen_value (field (codes "1")) triples triple ≡ n 6
unfolding digits
field_of_a_tuple = refl

type_of_a_tuple_field : chosen_type (field (codes "1")) triples ≡ leaf I8
unfolding digits
type_of_a_tuple_field = refl

no_leading_zero : absent (field (codes "01")) triples ≡ Some (codes "01")
unfolding digits
no_leading_zero = refl

no_further_place : absent (field (codes "3")) triples ≡ Some (codes "3")
unfolding digits
no_further_place = refl

fields_of_a_tuple : choice_answer (fields (codes "2" ∷ codes "0" ∷ [])) triples (triple ∷ [])
    ≡ Ok (arr (tup (types_from (leaf Bool ∷ leaf I64 ∷ [])))
    (row (values_from (n 7 ∷ n 5 ∷ [])) ∷ []))
unfolding digits
fields_of_a_tuple = refl

-- later places move up
without_a_place : choice_answer (without (codes "1")) triples (triple ∷ [])
    ≡ Ok (arr (tup (types_from (leaf I64 ∷ leaf Bool ∷ [])))
    (row (values_from (n 5 ∷ n 7 ∷ [])) ∷ []))
unfolding digits
without_a_place = refl
