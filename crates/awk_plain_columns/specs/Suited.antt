-- Values of a type as they stand, all of one type node at once.
use Rattle.std.specs.Prelude.{◌≡◌, ◌&&◌, Bool, true, false, List, [], ◌∷◌, filter, get_or, length}
use Rattle.std.specs.Prelude.{map, ℕ, suc, ℤ, Some}
use Rattle.std.specs.List.{AllByRecursion, flat_map}
use Rattle.serde_json.specs.Data.{Data, null, boolean, number, string, array, object}
use Rattle.serde_json.specs.Data.{Items, no_items, item, Members, no_members, member}
use Rattle.awk_types.specs.DataType.{DataType, DataTypes, unknown, leaf, var, reg, rec, tup}
use Rattle.awk_types.specs.DataType.{no_types, opt, type, uni}
use Rattle.awk_types.specs.IsType.{count}
use Rattle.awk_types.specs.Simple.{is_option}
use Rattle.awk_types.specs.Value as values
use Rattle.awk_types.specs.Value.{Value}
use Rattle.awk_lanes.specs.Numbers.{int_of}
use Rattle.awk_lanes.specs.declared.kind.Num.TheVariants.{Truth}
use Rattle.awk_columns.specs.Columns.{list_items}
use Rattle.awk_layout.specs.Layout.{Layout}
use Rattle.awk_layout.specs.Typing.{array_type, array_items}
use Rattle.awk_layout.specs.Valid.{AreNames}
use Rattle.awk_plain.specs.IsPlain.{IsPlain}
use Rattle.awk_plain.specs.Plain.{number_in}
use Rattle.awk_plain.specs.Suits.{own_value, suits}

-- ---- values as a list

abbrev pub data_list : Items → List Data
data_list no_items = []
data_list (item d ds) = d ∷ data_list ds

-- the items of a list
abbrev pub items_of : Data → List Data
items_of (array ds) = data_list ds
items_of d = []

-- the items of all lists, one list after another
abbrev pub joined_data : List Data → List Data
joined_data ds = flat_map items_of ds

abbrev pub member_list : Members → List Data
member_list no_members = []
member_list (member key d ms) = d ∷ member_list ms

-- the members of an object, without their names
abbrev pub members_of : Data → List Data
members_of (object ms) = member_list ms
members_of d = []

-- the members of all objects, one object after another
abbrev pub joined_members : List Data → List Data
joined_members ds = flat_map members_of ds

abbrev pub member_at : ℕ → Data → Data
member_at k d = get_or (members_of d) k null

-- the member at a place of each object
abbrev pub members_at : ℕ → List Data → List Data
members_at k ds = map (member_at k) ds

-- each object has this many members
abbrev pub AreWide : ℕ → List Data → Type 0
AreWide w ds = AllByRecursion (λ d. length (members_of d) ≡ w) ds

-- a value that is not null, nor a text
abbrev pub is_there : Data → Bool
is_there null = false
is_there (string s) = false
is_there d = true

-- those that are
abbrev pub there : List Data → List Data
there ds = filter is_there ds

-- each is of the type as it stands
abbrev pub Suits : DataType → Data → Type 0
Suits t d = IsPlain d × (suits t d ≡ true)

abbrev pub AllSuit : DataType → List Data → Type 0
AllSuit t ds = AllByRecursion (Suits t) ds

-- ---- columns

-- lists, options and records, at any depth, of leaves
abbrev mutual
  pub has_columns : DataType → Bool
  has_columns unknown = true
  has_columns (leaf p) = true
  has_columns (var t) = has_columns t
  has_columns (reg n t) = false
  has_columns (rec ns ts) = have_columns ts
  has_columns (tup ts) = false
  has_columns (opt t) = has_columns t
  has_columns (uni ts) = false

  pub have_columns : DataTypes → Bool
  have_columns no_types = true
  have_columns (type t ts) = has_columns t && have_columns ts

-- a simple type that has
abbrev mutual
  pub HasColumns : DataType → Type 0
  HasColumns unknown = Unit {0}
  HasColumns (leaf p) = Unit {0}
  HasColumns (var t) = HasColumns t
  HasColumns (reg n t) = ⊥
  HasColumns (rec ns ts) = AreNames (Some ns) (count ts) × HaveColumns ts
  HasColumns (tup ts) = ⊥
  HasColumns (opt t) = (is_option t ≡ false) × HasColumns t
  HasColumns (uni ts) = ⊥

  pub HaveColumns : DataTypes → Type 0
  HaveColumns no_types = Unit {0}
  HaveColumns (type t ts) = HasColumns t × HaveColumns ts

-- the number that a value of a leaf has in a lane
abbrev pub lane_number : Data → ℤ
lane_number (boolean b) = int_of (Truth b)
lane_number (number n) = number_in n
lane_number d = int_of (Truth false)

-- how many items list i of values has
abbrev pub length_at : List Value → ℕ → ℕ
length_at vs i = length (list_items (get_or vs i values.null))

-- a column of a type that has the values
pub record IsColumnOf (t : DataType) (ds : List Data) (x : Layout) : Type 0 where
  pub typ : array_type x ≡ t
  pub items : array_items x ≡ map own_value ds

-- a column of each of the first types, of the members from place k on, and the types that are left
abbrev pub AreColumnsOf : ℕ → List DataType → List Data → List Layout → List DataType → Type 0
AreColumnsOf k ts ds [] left = ts ≡ left
AreColumnsOf k [] ds (x ∷ xs) left = ⊥
AreColumnsOf k (t ∷ ts) ds (x ∷ xs) left =
    IsColumnOf t (members_at k ds) x × AreColumnsOf (suc k) ts ds xs left
