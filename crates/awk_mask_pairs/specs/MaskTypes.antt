-- Masks and what they are over, level by level: as deep as a mask has lists.
use Rattle.std.specs.Prelude.{◌≡◌, ℕ, zero, suc, ◌==◌, ◌||◌, Bool, true, false, List, [], ◌∷◌}
use Rattle.std.specs.Prelude.{length}
use Rattle.std.specs.Prelude.{Option, Some, None}
use Rattle.awk_types.specs.DataType.{DataType, unknown, leaf, var, reg, tup, opt, types_from}
use Rattle.awk_types.specs.Gives.{◌or◌}
use Rattle.awk_types.specs.ItemLimit.{too_many}
use Rattle.awk_types.specs.Parts.{item_of}
use Rattle.awk_types.specs.Simple.{present, option_if}
use Rattle.awk_types.specs.Value.{Value}
use Rattle.awk_types.specs.declared.fault.Fault.{Fault}
use Rattle.awk_types.specs.declared.primitive.Primitive.TheVariants.{Bool as Truths}
use Rattle.awk_columns.specs.Columns.{joined_items, part_at}
use Rattle.awk_columns.specs.ListClass.{Class, list_type}
use Rattle.awk_frames.specs.Shape.{Shape, leaves, items, missing}
use Rattle.awk_pair_sides.specs.Levels.{some_option}
use Rattle.awk_mask_pairs.specs.MaskValues.{masked_value}

-- truth values without nulls, or unknown
abbrev pub is_bare : DataType → Bool
is_bare unknown = true
is_bare (leaf Truths) = true
is_bare t = false

-- a mask that is not of lists: truth values, of which some may be null, or unknown
abbrev pub is_innermost : DataType → Bool
is_innermost t = is_bare (present t)

-- how many levels of lists a mask has
abbrev pub mask_levels : DataType → ℕ
mask_levels (var u) = suc (mask_levels u)
mask_levels (reg n u) = suc (mask_levels u)
mask_levels (opt u) = mask_levels u
mask_levels u = 0

-- the levels of a mask, whose lists of the result are counted
abbrev pub levels_refused : DataType → List Value → Option Fault
levels_refused (var u) vs = too_many (length vs) or levels_refused u (joined_items vs)
levels_refused (reg n u) vs = too_many (length vs) or levels_refused u (joined_items vs)
levels_refused (opt u) vs = levels_refused u vs
levels_refused u vs = too_many (length vs)

-- ---- lists of size 1, which a pairing would stretch

abbrev pub is_unit : Class → Bool
is_unit None = false
is_unit (Some n) = n == 1

-- whether lists of a mask are, at some level, of a type of size 1
abbrev pub has_ones : DataType → Bool
has_ones (var u) = has_ones u
has_ones (reg n u) = n == 1 || has_ones u
has_ones (opt u) = has_ones u
has_ones u = false

-- ---- what a mask and its items share

-- the type so many levels down, as it stands there
abbrev pub under : ℕ → DataType → DataType
under zero t = t
under (suc n) t = under n (item_of (present t))

abbrev pub class_of : DataType → Class
class_of (reg n t) = Some n
class_of t = None

-- items of type t paired with those of a mask of type u, through n levels of lists, which keep the
-- class of those of t
abbrev pub shared_type : ℕ → DataType → DataType → DataType
shared_type zero t u = tup (types_from (t ∷ u ∷ []))
shared_type (suc n) t u =
    option_if (some_option (t ∷ u ∷ []))
    (list_type (class_of (present t)) (shared_type n (item_of (present t)) (item_of (present u))))

-- a shape whose lists are of the classes of a type
abbrev pub classed : DataType → Shape → Shape
classed t (leaves n) = leaves n
classed t (missing j s) = missing j (classed t s)
classed t (items o c s) = items o (class_of (present t)) (classed (item_of (present t)) s)

-- a row of an item and what a mask has for it, masked
abbrev pub masked_row : Bool → DataType → Value → Value
masked_row keep u w = masked_value u keep (part_at 1 w) (part_at 0 w)

-- ---- a mask of some levels

-- lists of t, optional or not, under lists of u
pub record AreLists (a b : Bool) (c d : Class) (t t' u u' : DataType) : Type 0 where
  pub items : t ≡ option_if b (list_type d t')
  pub mask : u ≡ option_if a (list_type c u')
  pub sized : is_unit c ≡ false

-- u is a mask of n levels over t, none of whose lists are of a type of size 1
abbrev pub IsMasking : ℕ → DataType → DataType → Type 0
IsMasking zero t u = is_innermost u ≡ true
IsMasking (suc n) t u =
    (a : Bool) × (b : Bool) × (c : Class) × (d : Class) × (t' : DataType) × (u' : DataType)
    × AreLists a b c d t t' u u' × IsMasking n t' u'

-- ---- a mask whose lists are of any length

abbrev pub unsized : DataType → DataType
unsized (var u) = var (unsized u)
unsized (reg n u) = var (unsized u)
unsized (opt u) = opt (unsized u)
unsized u = u
