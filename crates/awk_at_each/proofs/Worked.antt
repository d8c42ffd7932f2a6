-- Worked places of each list, each computed.
use Rattle.std.specs.Prelude.{◌≡◌, ℕ, pos, negsuc, List, [], ◌∷◌, Ok, Err}
use Rattle.std.specs.Prelude.{refl}
use Rattle.awk_types.specs.DataType.{leaf, var, opt, unknown}
use Rattle.awk_types.specs.Value.{Value, int, null, list, values_from}
use Rattle.awk_types.specs.Datum.{Datum, arr}
use Rattle.awk_types.specs.declared.primitive.Primitive.TheVariants.{I64}
use Rattle.awk_types.specs.declared.fault.Fault.TheVariants.{Axis, Index}
use Rattle.awk_at_each.specs.Each.{at_each_of}

abbrev n : ℕ → Value
n k = int (pos k)

abbrev tens : List Value
tens = n 10 ∷ n 20 ∷ n 30 ∷ []

-- [10,20,30]
abbrev x : Datum
x = arr (leaf I64) tens

-- ---- a place of each list

abbrev some_lists : Datum
some_lists = arr (opt (var (opt (leaf I64))))
    (list (values_from tens) ∷ null ∷ list (values_from (n 1 ∷ null ∷ [])) ∷ [])

last_of_each : at_each_of (negsuc 0) some_lists
    ≡ Ok (arr (opt (leaf I64)) (n 30 ∷ null ∷ null ∷ []))
last_of_each = refl

missing_in_one : at_each_of (pos 2) some_lists ≡ Err Index
missing_in_one = refl

no_lists : at_each_of (pos 0) x ≡ Err Axis
no_lists = refl

-- unknown counts as lists of unknown
each_of_unknown : at_each_of (pos 0) (arr unknown []) ≡ Ok (arr unknown [])
each_of_unknown = refl
