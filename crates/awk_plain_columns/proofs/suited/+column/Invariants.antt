use Rattle.std.proofs.Common.{◌≡◌, ◌*◌, ◌+◌, drop, length, map}
use Rattle.serde_json.specs.View.{view}
use Rattle.awk_types.specs.DataType.{depth, depths, greatest}
use Rattle.awk_types.specs.View.{NamedType, fields_of, typ_of, types_of}
use Rattle.awk_plain_columns.specs.Suited.{AreColumnsOf}
use Rattle.awk_plain_columns.proofs.suited.+column.Given as goal

abbrev pub decreases-column : goal.decreases-column
decreases-column g l = 2 * depth (typ_of l.typ.now)

abbrev pub decreases-field_columns : goal.decreases-field_columns
decreases-field_columns g l = 2 * greatest (depths (types_of (fields_of l.fields.now))) + 1

-- the columns so far, and the types of the fields that are left
abbrev pub invariant-field_columns-loop-k : goal.invariant-field_columns-loop-k
invariant-field_columns-loop-k g l =
    AreColumnsOf 0 (map (λ f. f.typ) (fields_of l.fields)) (map (λ v. view v.now) l.values)
    l.columns (map (λ (f : NamedType). f.typ) (drop l.k (fields_of l.fields)))
    × (l.k ≡ length l.columns)
