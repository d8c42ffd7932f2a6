-- Worked examples of unifying, each checked by computing.
use Rattle.std.proofs.Common.{◌≡◌, ◌∷◌, [], ℕ, List, codes, map, negsuc, pos, refl, true}
use Rattle.awk_unify.specs.Carry.{carried}
use Rattle.awk_unify.specs.Unify.{unification}
use Rattle.awk_unify.specs.UnifyList.{unification_list}
use Rattle.awk_types.specs.DataType.{DataType, Name, leaf, opt, rec, reg, tup, types_from, uni}
use Rattle.awk_types.specs.DataType.{unknown, var}
use Rattle.awk_types.specs.Value.{Value, alt, int, list, null, row, truth, values_from}
use Rattle.awk_types.specs.declared.primitive.Primitive.TheVariants.{Bool, I16, I32, I64, I8, U16}
use Rattle.awk_types.specs.declared.primitive.Primitive.TheVariants.{U64, U8}

abbrev union : List DataType → DataType
union ts = uni (types_from ts)

abbrev record_of : List Name → List DataType → DataType
record_of ns ts = rec ns (types_from ts)

abbrev tuple : List DataType → DataType
tuple ts = tup (types_from ts)

abbrev items : List Value → Value
items vs = list (values_from vs)

abbrev parts : List Value → Value
parts vs = row (values_from vs)

abbrev joint : DataType → DataType → DataType
joint a b = (unification a b).typ

-- what the values of the first and of the second become
abbrev lefts : DataType → DataType → List Value → List Value
lefts a b vs = map (carried (unification a b).left) vs

abbrev rights : DataType → DataType → List Value → List Value
rights a b vs = map (carried (unification a b).right) vs

abbrev one : List Name
one = codes "a" ∷ []

abbrev two : List Name
two = codes "a" ∷ codes "b" ∷ []

abbrev swapped : List Name
swapped = codes "b" ∷ codes "a" ∷ []

-- ---- equal types, unknown, options

equal : joint (record_of one (leaf I8 ∷ [])) (record_of one (leaf I8 ∷ []))
    ≡ record_of one (leaf I8 ∷ [])
equal = refl

unknown_right : joint (var (leaf I8)) unknown ≡ var (leaf I8)
unknown_right = refl

unknown_left : joint unknown (union (leaf Bool ∷ [])) ≡ union (leaf Bool ∷ [])
unknown_left = refl

unknown_within : joint (opt unknown) (leaf I8) ≡ opt (leaf I8)
unknown_within = refl

unknown_items : joint (var unknown) (reg 2 (leaf U8)) ≡ var (leaf U8)
unknown_items = refl

option_right : joint (leaf I8) (opt (leaf U8)) ≡ opt (leaf I16)
option_right = refl

options_both : joint (opt (leaf Bool)) (opt (leaf I64)) ≡ opt (union (leaf Bool ∷ leaf I64 ∷ []))
options_both = refl

options_both_values : rights (opt (leaf Bool)) (opt (leaf I64)) (null ∷ int (pos 3) ∷ [])
    ≡ null ∷ alt 1 (int (pos 3)) ∷ []
options_both_values = refl

-- ---- numbers and lists

numbers : joint (leaf I64) (leaf I8) ≡ leaf I64
numbers = refl

apart_numbers : joint (leaf I64) (leaf U64) ≡ union (leaf I64 ∷ leaf U64 ∷ [])
apart_numbers = refl

truth_and_number : joint (leaf I64) (leaf Bool) ≡ union (leaf I64 ∷ leaf Bool ∷ [])
truth_and_number = refl

number_first : lefts (leaf I64) (leaf Bool) (int (pos 1) ∷ []) ≡ alt 0 (int (pos 1)) ∷ []
number_first = refl

truth_second : rights (leaf I64) (leaf Bool) (truth true ∷ []) ≡ alt 1 (truth true) ∷ []
truth_second = refl

optional_lists : joint (var (leaf I64)) (opt (var (opt (leaf I64)))) ≡ opt (var (opt (leaf I64)))
optional_lists = refl

optional_lists_values :
    rights (var (leaf I64)) (opt (var (opt (leaf I64))))
    (items (int (pos 1) ∷ null ∷ []) ∷ null ∷ [])
    ≡ items (int (pos 1) ∷ null ∷ []) ∷ null ∷ []
optional_lists_values = refl

equal_lengths : joint (reg 3 (leaf I8)) (reg 3 (leaf U16)) ≡ reg 3 (leaf I32)
equal_lengths = refl

other_lengths : joint (reg 3 (leaf I8)) (reg 2 (leaf U16)) ≡ var (leaf I32)
other_lengths = refl

list_and_number : joint (var (leaf I8)) (leaf I8) ≡ union (var (leaf I8) ∷ leaf I8 ∷ [])
list_and_number = refl

-- ---- records and tuples

fields_in_other_order :
    joint (record_of two (leaf I8 ∷ leaf Bool ∷ []))
    (record_of swapped (opt (leaf Bool) ∷ leaf I64 ∷ []))
    ≡ record_of two (leaf I64 ∷ opt (leaf Bool) ∷ [])
fields_in_other_order = refl

fields_in_other_order_value :
    rights (record_of two (leaf I8 ∷ leaf Bool ∷ []))
    (record_of swapped (leaf Bool ∷ leaf I64 ∷ [])) (parts (truth true ∷ int (pos 3) ∷ []) ∷ [])
    ≡ parts (int (pos 3) ∷ truth true ∷ []) ∷ []
fields_in_other_order_value = refl

fewer_names : joint (record_of two (leaf I8 ∷ leaf I8 ∷ [])) (record_of one (leaf I8 ∷ []))
    ≡ union (record_of two (leaf I8 ∷ leaf I8 ∷ []) ∷ record_of one (leaf I8 ∷ []) ∷ [])
fewer_names = refl

tuples : joint (tuple (leaf I8 ∷ var (leaf Bool) ∷ [])) (tuple (leaf U8 ∷ opt (var unknown) ∷ []))
    ≡ tuple (leaf I16 ∷ opt (var (leaf Bool)) ∷ [])
tuples = refl

tuple_lengths : joint (tuple (leaf I8 ∷ [])) (tuple [])
    ≡ union (tuple (leaf I8 ∷ []) ∷ tuple [] ∷ [])
tuple_lengths = refl

record_and_tuple : joint (record_of [] []) (tuple []) ≡ union (record_of [] [] ∷ tuple [] ∷ [])
record_and_tuple = refl

-- ---- unions

-- an alternative that was widened by an earlier one is a candidate for the next
widened : joint (leaf U8) (union (leaf I8 ∷ leaf U64 ∷ [])) ≡ union (leaf I16 ∷ leaf U64 ∷ [])
widened = refl

widened_values :
    rights (leaf U8) (union (leaf I8 ∷ leaf U64 ∷ []))
    (alt 0 (int (negsuc 0)) ∷ alt 1 (int (pos 9)) ∷ [])
    ≡ alt 0 (int (negsuc 0)) ∷ alt 1 (int (pos 9)) ∷ []
widened_values = refl

-- and so is one that was added
added : joint (union (leaf Bool ∷ [])) (union (leaf I64 ∷ leaf I8 ∷ []))
    ≡ union (leaf Bool ∷ leaf I64 ∷ [])
added = refl

added_values :
    rights (union (leaf Bool ∷ [])) (union (leaf I64 ∷ leaf I8 ∷ []))
    (alt 0 (int (pos 7)) ∷ alt 1 (int (pos 8)) ∷ [])
    ≡ alt 1 (int (pos 7)) ∷ alt 1 (int (pos 8)) ∷ []
added_values = refl

into_first : joint (union (leaf I16 ∷ leaf Bool ∷ [])) (union (leaf Bool ∷ leaf I8 ∷ []))
    ≡ union (leaf I16 ∷ leaf Bool ∷ [])
into_first = refl

union_of_one : joint (union (leaf I64 ∷ [])) (leaf I64) ≡ union (leaf I64 ∷ [])
union_of_one = refl

-- ---- three types, from the left

abbrev several : List DataType
several = var (leaf I8) ∷ reg 2 (leaf U8) ∷ opt (var (leaf Bool)) ∷ []

three : (unification_list several).typ
    ≡ opt (var (union (leaf I16 ∷ leaf Bool ∷ [])))
three = refl

abbrev of_tag : List ℕ → List Value
of_tag ks = map (λ k. items (alt k (int (pos 3)) ∷ [])) ks

three_values :
    map (λ f. carried f (items (int (pos 3) ∷ []))) (unification_list several).lifts
    ≡ of_tag (0 ∷ 0 ∷ 1 ∷ [])
three_values = refl
