-- Which primitive an operand's leaves take beside those of another.
use Rattle.std.specs.Prelude.{Bool, true, false, not, ◌&&◌, ◌||◌, Option, Some, None}
use Rattle.std.specs.Prelude.{if◌then◌else◌}
use Rattle.awk_types.specs.declared.primitive.Primitive.{Primitive}
use Rattle.awk_types.specs.declared.primitive.Primitive.TheVariants.{I64}
use Rattle.awk_types.specs.declared.primitive.Primitive.TheVariants.{Bool as Truths}
use Rattle.awk_primitives.specs.Fits.{fits}
use Rattle.awk_primitives.specs.Promotion.{is_whole, promotion}
use Rattle.awk_leaves.specs.declared.leaf_type.LeafType.{LeafType}
use Rattle.awk_leaves.specs.declared.leaf_type.LeafType.TheVariants.{Of, Unknown, Literal}

-- a literal beside truth values is int64
abbrev pub whole_or_int64 : Primitive → Primitive
whole_or_int64 p = if is_whole p then p else I64

-- unknown takes the other's primitive, a literal takes it where it is of whole numbers, and each is
-- int64 where the other has none
abbrev pub type_beside : LeafType → LeafType → Primitive
type_beside (Of p) other = p
type_beside Unknown (Of q) = q
type_beside Unknown other = I64
type_beside (Literal z) (Of q) = whole_or_int64 q
type_beside (Literal z) other = I64

-- a literal that its primitive does not hold
abbrev pub overflows : LeafType → LeafType → Bool
overflows (Literal z) other = not (fits (type_beside (Literal z) other) z)
overflows a other = false

abbrev pub is_literal : LeafType → Bool
is_literal (Literal z) = true
is_literal a = false

-- truth values twice
abbrev pub are_truths : Primitive → Primitive → Bool
are_truths Truths Truths = true
are_truths p q = false

-- whole numbers twice, or truth values twice
abbrev pub are_alike : Primitive → Primitive → Bool
are_alike p q = are_truths p q || (is_whole p && is_whole q)

-- of a sum, a difference, a product, a quotient or a remainder
abbrev pub number_type : LeafType → LeafType → Option Primitive
number_type a b = promotion (type_beside a b) (type_beside b a)

-- of a choice between two
abbrev pub choice_type : LeafType → LeafType → Option Primitive
choice_type a b =
    if are_truths (type_beside a b) (type_beside b a) then Some Truths else number_type a b

-- of a comparison
abbrev pub comparison_type : LeafType → LeafType → Option Primitive
comparison_type a b = if are_alike (type_beside a b) (type_beside b a) then Some Truths else None

-- truth values, or unknown
abbrev pub truth_type : LeafType → Option Primitive
truth_type (Of Truths) = Some Truths
truth_type Unknown = Some Truths
truth_type a = None

-- whole numbers; unknown and a literal are int64
abbrev pub whole_type : LeafType → Option Primitive
whole_type (Of p) = if is_whole p then Some p else None
whole_type a = Some I64
