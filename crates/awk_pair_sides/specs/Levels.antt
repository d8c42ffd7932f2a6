-- The levels of a pairing, by the types of the operands' items.
use Rattle.std.specs.Prelude.{ℕ, ◌==◌, Bool, true, false, not, ◌&&◌, List, [], ◌∷◌, map}
use Rattle.std.specs.Prelude.{Some, None, if◌then◌else◌, nat_lt}
use Rattle.std.specs.List.{list_any, list_all, flat_map}
use Rattle.awk_types.specs.DataType.{DataType, unknown, var, reg}
use Rattle.awk_types.specs.Parts.{item_of}
use Rattle.awk_types.specs.Predicates.{is_list}
use Rattle.awk_types.specs.Simple.{is_option, present}
use Rattle.awk_columns.specs.ListClass.{Class}

-- whether there is a further level: some operand, its option dropped, is a list
abbrev pub opens : List DataType → Bool
opens ts = list_any is_list (map present ts)

-- whether there is one where at most d levels are left
abbrev pub goes_on : ℕ → List DataType → Bool
goes_on d ts = nat_lt 0 d && opens ts

-- whether a null may stand at the level
abbrev pub some_option : List DataType → Bool
some_option ts = list_any is_option ts

-- ---- what an operand gives to a level

pub data Role : Type 0 where
  -- the items of its lists, which are of a class
  listed : Class → Role
  -- the one item of its list, at every place
  stretched : Role
  -- its item, at every place
  repeated : Role

-- whether a type counts as lists that are not of size 1; unknown counts as lists of any length
abbrev pub is_longer : DataType → Bool
is_longer unknown = true
is_longer (var t) = true
is_longer (reg n t) = not (n == 1)
is_longer t = false

abbrev pub is_single : DataType → Bool
is_single (reg n t) = n == 1
is_single t = false

-- where lists of size 1 are stretched, or are not
abbrev pub role : Bool → DataType → Role
role s unknown = listed None
role s (var t) = listed None
role s (reg n t) = if s && n == 1 then stretched else listed (Some n)
role s t = repeated

abbrev pub unless : Bool → Bool → Bool
unless true s = false
unless false s = s

-- whether the operand at a place is the first, whose lists are kept
abbrev pub kept_at : ℕ → Bool → Bool
kept_at i keep = keep && i == 0

-- where no list of the first operand is stretched, or any may be
abbrev pub roles_by : Bool → Bool → List DataType → List Role
roles_by keep s [] = []
roles_by keep s (t ∷ ts) = role (unless keep s) t ∷ roles_by false s ts

-- lists of size 1 are stretched where some operand's are of another
abbrev pub stretches : List DataType → Bool
stretches ts = list_any is_longer ts

abbrev pub roles : Bool → List DataType → List Role
roles keep ts = roles_by keep (stretches (map present ts)) (map present ts)

abbrev pub item_types : List DataType → List DataType
item_types ts = map item_of (map present ts)

-- ---- the class of what is shared

abbrev pub role_class : Role → List Class
role_class (listed c) = c ∷ []
role_class stretched = []
role_class repeated = []

abbrev pub is_class : Class → Class → Bool
is_class (Some n) (Some m) = n == m
is_class c d = false

abbrev pub common_class : List Class → Class
common_class [] = None
common_class (c ∷ cs) = if list_all (is_class c) cs then c else None

-- of one length where all lists that are not stretched are of that length
abbrev pub level_class : Bool → List DataType → Class
level_class keep ts = common_class (flat_map role_class (roles keep ts))
