-- The fields of an object, as a record has them.
use Rattle.std.specs.Prelude.{List, [], ◌∷◌}
use Rattle.serde_json.specs.Data.{Members, no_members, member}
use Rattle.awk_types.specs.View.{NamedType}
use Rattle.awk_plain.specs.Plain.{plain_type}

abbrev pub fields_in : Members → List NamedType
fields_in no_members = []
fields_in (member key d ms) = record { name = key; typ = plain_type d } ∷ fields_in ms
