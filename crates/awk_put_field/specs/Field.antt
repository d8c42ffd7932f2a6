-- One record with one field more, or with another one in the place of what it had.
use Rattle.std.specs.Prelude.{List, [], ◌∷◌, if◌then◌else◌}
use Rattle.awk_types.specs.DataType.{Name, DataType, rec, types_from}
use Rattle.awk_types.specs.Names.{same_name}
use Rattle.awk_types.specs.Parts.{names_of_fields, types_of_fields}
use Rattle.awk_types.specs.Simple.{present, is_option, option_if}
use Rattle.awk_types.specs.Value.{Value, null, row, value_list, values_from}
use Rattle.awk_columns.specs.Columns.{part_at}

-- what stands beside the names, with x beside a name: in the place of what stood there, or last
abbrev pub put : {A : Type 0} → Name → List Name → A → List A → List A
put n [] x ys = x ∷ []
put n (m ∷ ms) x [] = x ∷ []
put n (m ∷ ms) x (y ∷ ys) = if same_name m n then x ∷ ys else y ∷ put n ms x ys

-- names with one among them: it keeps its place, or comes last
abbrev pub named : Name → List Name → List Name
named n ns = put n ns n ns

-- a record of type t with a field of type u, optional where it is
abbrev pub field_type : Name → DataType → DataType → DataType
field_type n t u =
    option_if (is_option t)
    (rec (named n (names_of_fields (present t)))
    (types_from (put n (names_of_fields (present t)) u (types_of_fields (present t)))))

-- a record of these names with a field. A null record stays null.
abbrev pub field_value : Name → List Name → Value → Value → Value
field_value n ns (row ws) v = row (values_from (put n ns v (value_list ws)))
field_value n ns w v = null

-- of a row of a record and a value
abbrev pub end_value : Name → List Name → Value → Value
end_value n ns v = field_value n ns (part_at 0 v) (part_at 1 v)
