-- Promotion of all pairs of primitives, and what fits, as examples that are computed.
use Rattle.std.specs.Prelude.{◌≡◌, Bool as Truth, true, false, List, [], ◌∷◌, map, pos, negsuc}
use Rattle.std.specs.Prelude.{Option, Some, None, refl}
use Rattle.awk_types.specs.declared.primitive.Primitive.{Primitive}
use Rattle.awk_types.specs.declared.primitive.Primitive.TheVariants.{Bool, I8, I16, I32, I64, U8}
use Rattle.awk_types.specs.declared.primitive.Primitive.TheVariants.{U16, U32, U64}
use Rattle.awk_types.specs.DataType.{leaf, var}
use Rattle.awk_primitives.specs.Promotion.{promotion}
use Rattle.awk_primitives.specs.Fits.{fits, literal_fits}

abbrev primitives : List Primitive
primitives = Bool ∷ I8 ∷ I16 ∷ I32 ∷ I64 ∷ U8 ∷ U16 ∷ U32 ∷ U64 ∷ []

abbrev none : Option Primitive
none = None

abbrev to : Primitive → Option Primitive
to p = Some p

promotions : map (λ p. map (promotion p) primitives) primitives
    ≡ (none ∷ none ∷ none ∷ none ∷ none ∷ none ∷ none ∷ none ∷ none ∷ [])
    ∷ (none ∷ to I8 ∷ to I16 ∷ to I32 ∷ to I64 ∷ to I16 ∷ to I32 ∷ to I64 ∷ none ∷ [])
    ∷ (none ∷ to I16 ∷ to I16 ∷ to I32 ∷ to I64 ∷ to I16 ∷ to I32 ∷ to I64 ∷ none ∷ [])
    ∷ (none ∷ to I32 ∷ to I32 ∷ to I32 ∷ to I64 ∷ to I32 ∷ to I32 ∷ to I64 ∷ none ∷ [])
    ∷ (none ∷ to I64 ∷ to I64 ∷ to I64 ∷ to I64 ∷ to I64 ∷ to I64 ∷ to I64 ∷ none ∷ [])
    ∷ (none ∷ to I16 ∷ to I16 ∷ to I32 ∷ to I64 ∷ to U8 ∷ to U16 ∷ to U32 ∷ to U64 ∷ [])
    ∷ (none ∷ to I32 ∷ to I32 ∷ to I32 ∷ to I64 ∷ to U16 ∷ to U16 ∷ to U32 ∷ to U64 ∷ [])
    ∷ (none ∷ to I64 ∷ to I64 ∷ to I64 ∷ to I64 ∷ to U32 ∷ to U32 ∷ to U32 ∷ to U64 ∷ [])
    ∷ (none ∷ none ∷ none ∷ none ∷ none ∷ to U64 ∷ to U64 ∷ to U64 ∷ to U64 ∷ [])
    ∷ []
promotions = refl

abbrev no : Truth
no = false

abbrev yes : Truth
yes = true

fit : map (fits I8) (negsuc 128 ∷ negsuc 127 ∷ pos 127 ∷ pos 128 ∷ []) ≡ no ∷ yes ∷ yes ∷ no ∷ []
fit = refl

-- no number is a truth value
fit_truths : map (fits Bool) (negsuc 0 ∷ pos 0 ∷ pos 1 ∷ []) ≡ no ∷ no ∷ no ∷ []
fit_truths = refl

-- a literal beside truth values or lists is of int64
fit_literals : map (λ t. literal_fits t (pos 9223372036854775808))
    (leaf U64 ∷ leaf Bool ∷ var (leaf U64) ∷ []) ≡ yes ∷ no ∷ no ∷ []
fit_literals = refl
