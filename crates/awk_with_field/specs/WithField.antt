-- A datum whose records have one field more, or another one in the place of what they had.
use Rattle.std.specs.Prelude.{ℕ, suc, Bool, true, not, List, [], ◌∷◌, map, get_or}
use Rattle.std.specs.Prelude.{Option, Some, None, Result, if◌then◌else◌}
use Rattle.awk_types.specs.DataType.{Name, DataType, unknown, var}
use Rattle.awk_types.specs.Datum.{Datum, arr, one}
use Rattle.awk_types.specs.Faults.{limit_refused}
use Rattle.awk_types.specs.Gives.{refused_or, ◌or◌}
use Rattle.awk_types.specs.Parts.{list_depth, is_record, names_of_fields}
use Rattle.awk_types.specs.Simple.{present}
use Rattle.awk_types.specs.Value.{Value, list, values_from}
use Rattle.awk_types.specs.declared.fault.Fault.{Fault}
use Rattle.awk_types.specs.declared.fault.Fault.TheVariants.{WrongType}
use Rattle.awk_frames.specs.Framed.{over, over_type}
use Rattle.awk_pair_operands.specs.Pairs.{datum_from, leaf_types, pair_refused, pair_type}
use Rattle.awk_pair_operands.specs.Pairs.{pair_values, some_array}
use Rattle.awk_put_field.specs.Field.{field_type, end_value}

-- ---- what is paired

-- as far as a datum is lists
abbrev pub levels_of : Datum → ℕ
levels_of (arr t vs) = suc (list_depth t)
levels_of (one t v) = list_depth t

-- beside a single value an array is one list
abbrev pub beside : Datum → Datum → Datum
beside (one t v) (arr u ws) = one (var u) (list (values_from ws))
beside e v = v

-- the datum with the records, and the one with their new field
abbrev pub both : Datum → Datum → List Datum
both e v = e ∷ beside e v ∷ []

-- ---- two data, paired to a depth, where no list of the first is stretched

-- the type of one of them where the pairing ends
abbrev pub end_of : ℕ → ℕ → List Datum → DataType
end_of k d ds = get_or (leaf_types (Some d) ds) k unknown

-- whether the first ends at what is no record
abbrev pub is_wrong : ℕ → List Datum → Bool
is_wrong d ds = not (is_record (present (end_of 0 d ds)))

abbrev pub with_type : Name → ℕ → List Datum → DataType
with_type n d ds =
    over_type (pair_type true (Some d) ds) (field_type n (end_of 0 d ds) (end_of 1 d ds))

abbrev pub with_values : Name → ℕ → List Datum → List Value
with_values n d ds =
    map (over (pair_type true (Some d) ds)
    (end_value n (names_of_fields (present (end_of 0 d ds)))))
    (pair_values true (Some d) ds)

-- a type fault, then the limits of the type, then lengths and sizes of the lists that are shared
abbrev pub with_refused : Name → ℕ → List Datum → Option Fault
with_refused n d ds =
    (if is_wrong d ds then Some WrongType else None)
    or (limit_refused (with_type n d ds) or pair_refused true (Some d) ds)

abbrev pub with_field_at : Name → ℕ → List Datum → Result Datum Fault
with_field_at n d ds =
    refused_or (with_refused n d ds)
    (datum_from (some_array ds) (with_type n d ds) (with_values n d ds))

-- ---- as far as the first datum is lists

-- each record of the first datum with a field of a name, whose value the other datum has there
abbrev pub with_field_of : Name → Datum → Datum → Result Datum Fault
with_field_of n e v = with_field_at n (levels_of e) (both e v)
