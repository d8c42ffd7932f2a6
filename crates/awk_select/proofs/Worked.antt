-- Worked picks, each computed.
use Rattle.std.specs.Prelude.{◌≡◌, ℕ, pos, negsuc, true, false, List, [], ◌∷◌, Some, None, Ok, Err}
use Rattle.std.specs.Prelude.{refl}
use Rattle.awk_types.specs.DataType.{leaf, var, opt, unknown}
use Rattle.awk_types.specs.Value.{Value, int, truth, null, list, values_from}
use Rattle.awk_types.specs.Datum.{Datum, arr, one}
use Rattle.awk_types.specs.declared.primitive.Primitive.TheVariants.{Bool, I64}
use Rattle.awk_types.specs.declared.fault.Fault.TheVariants.{WrongType, Lengths, Index}
use Rattle.awk_select.specs.Places.{range_places}
use Rattle.awk_select.specs.Picks.{at_of, step_range_of, mask_of, take_of}

abbrev n : ℕ → Value
n k = int (pos k)

abbrev tens : List Value
tens = n 10 ∷ n 20 ∷ n 30 ∷ []

-- [10,20,30]
abbrev x : Datum
x = arr (leaf I64) tens

-- ---- a place

last_place : at_of (negsuc 0) x ≡ Ok (one (leaf I64) (n 30))
last_place = refl

before_the_first : at_of (negsuc 3) x ≡ Err Index
before_the_first = refl

behind_the_last : at_of (pos 3) x ≡ Err Index
behind_the_last = refl

of_a_single_value : at_of (pos 0) (one (leaf I64) (n 10)) ≡ Err WrongType
of_a_single_value = refl

-- a list is settled as the array of its items
settled_list : at_of (pos 0) (arr (opt (var (leaf I64))) (list (values_from tens) ∷ null ∷ [])) ≡ Ok
    x
settled_list = refl

settled_null : at_of (pos 1) (arr (opt (var (leaf I64))) (list (values_from tens) ∷ null ∷ [])) ≡ Ok
    (one (opt (var (leaf I64))) null)
settled_null = refl

-- ---- ranges

from_5_to_2 : step_range_of (Some (pos 5)) (Some (pos 2)) (pos 1) x ≡ Ok (arr (leaf I64) [])
from_5_to_2 = refl

backwards : step_range_of None None (negsuc 0) x ≡ Ok (arr (leaf I64) (n 30 ∷ n 20 ∷ n 10 ∷ []))
backwards = refl

every_second : step_range_of None None (pos 2) x ≡ Ok (arr (leaf I64) (n 10 ∷ n 30 ∷ []))
every_second = refl

backwards_to_1 : step_range_of (Some (pos 9)) (Some (pos 0)) (negsuc 0) x ≡ Ok
    (arr (leaf I64) (n 30 ∷ n 20 ∷ []))
backwards_to_1 = refl

-- the least and the greatest i64 as bounds and as steps
widest : range_places 3 (Some (negsuc 9223372036854775807)) (Some (pos 9223372036854775807))
    (pos 9223372036854775807) ≡ 0 ∷ []
widest = refl

widest_down : range_places 3 (Some (pos 9223372036854775807)) (Some (negsuc 9223372036854775807))
    (negsuc 9223372036854775807) ≡ 2 ∷ []
widest_down = refl

-- ---- masks

true_and_null : mask_of x (arr (opt (leaf Bool)) (truth false ∷ null ∷ truth true ∷ [])) ≡ Ok
    (arr (opt (leaf I64)) (null ∷ n 30 ∷ []))
true_and_null = refl

shorter_mask : mask_of x (arr (leaf Bool) (truth true ∷ [])) ≡ Err Lengths
shorter_mask = refl

type_before_length : mask_of x (arr (leaf I64) (n 0 ∷ [])) ≡ Err WrongType
type_before_length = refl

-- ---- indexes

repeated_and_null : take_of x (arr (opt (leaf I64))
    (int (negsuc 0) ∷ null ∷ n 0 ∷ int (negsuc 0) ∷ [])) ≡ Ok
    (arr (opt (leaf I64)) (n 30 ∷ null ∷ n 10 ∷ n 30 ∷ []))
repeated_and_null = refl

no_such_place : take_of x (arr (leaf I64) (n 0 ∷ n 3 ∷ [])) ≡ Err Index
no_such_place = refl

of_nothing : take_of x (arr unknown []) ≡ Ok (arr (leaf I64) [])
of_nothing = refl

of_nulls : take_of x (arr (opt unknown) (null ∷ null ∷ [])) ≡ Ok
    (arr (opt (leaf I64)) (null ∷ null ∷ []))
of_nulls = refl

of_truths : take_of x (arr (leaf Bool) (truth true ∷ [])) ≡ Err WrongType
of_truths = refl
