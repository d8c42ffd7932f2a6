-- Values that are of a type as they stand: none of them is carried.
use Rattle.std.specs.Prelude.{Bool, true, false, ◌&&◌, List, [], ◌∷◌, map}
use Rattle.serde_json.specs.Data.{Data, Num, null, boolean, number, string, array, object, Items}
use Rattle.serde_json.specs.Data.{no_items, item, Members, no_members, member}
use Rattle.awk_types.specs.DataType.{DataType, Name, unknown, leaf, var}
use Rattle.awk_types.specs.Names.{same_name}
use Rattle.awk_types.specs.Parts.{is_record, names_of_fields, types_of_fields}
use Rattle.awk_types.specs.SameType.{same_primitive}
use Rattle.awk_types.specs.Simple.{is_option, present}
use Rattle.awk_types.specs.Value as values
use Rattle.awk_types.specs.View.{NamedType, names_of}
use Rattle.awk_types.specs.Value.{Value, int, truth, list, row, values_from}
use Rattle.awk_types.specs.declared.primitive.Primitive.{Primitive}
use Rattle.awk_types.specs.declared.primitive.Primitive.TheVariants.{I64, Bool as Truths}
use Rattle.awk_plain.specs.Plain.{fits, is_whole, number_in}

-- ---- what a type is of, where it is of no option

abbrev pub is_of : Primitive → DataType → Bool
is_of p (leaf q) = same_primitive q p
is_of p t = false

abbrev pub is_of_lists : DataType → Bool
is_of_lists (var t) = true
is_of_lists t = false

abbrev pub item_of : DataType → DataType
item_of (var t) = t
item_of t = unknown

-- a whole number that fits int64
abbrev pub is_int64 : Num → Bool
is_int64 n = is_whole n && fits n

-- ---- whether a value is of a type as it stands

abbrev mutual
  pub suits : DataType → Data → Bool
  suits t null = is_option t
  suits t (boolean b) = is_of Truths (present t)
  suits t (number n) = is_of I64 (present t) && is_int64 n
  suits t (string s) = false
  suits t (array ds) = is_of_lists (present t) && all_suit (item_of (present t)) ds
  suits t (object ms) =
      is_record (present t)
      && members_suit (names_of_fields (present t)) (types_of_fields (present t)) ms

  pub all_suit : DataType → Items → Bool
  all_suit t no_items = true
  all_suit t (item d ds) = suits t d && all_suit t ds

  -- members of these names, each of its type
  pub members_suit : List Name → List DataType → Members → Bool
  members_suit [] [] no_members = true
  members_suit (n ∷ ns) (t ∷ ts) (member key d ms) =
      same_name n key && (suits t d && members_suit ns ts ms)
  members_suit ns ts ms = false

-- members of the names and the types of fields
abbrev pub fields_suit : List NamedType → Members → Bool
fields_suit fs ms = members_suit (names_of fs) (map (λ f. f.typ) fs) ms

-- ---- the value that it is then

abbrev mutual
  pub own_value : Data → Value
  own_value null = values.null
  own_value (boolean b) = truth b
  own_value (number n) = int (number_in n)
  own_value (string s) = values.null
  own_value (array ds) = list (values_from (own_values ds))
  own_value (object ms) = row (values_from (own_parts ms))

  pub own_values : Items → List Value
  own_values no_items = []
  own_values (item d ds) = own_value d ∷ own_values ds

  pub own_parts : Members → List Value
  own_parts no_members = []
  own_parts (member key d ms) = own_value d ∷ own_parts ms
