-- Single values, literals and what fills nulls, each as what it must be.
use Rattle.std.specs.Prelude.{◌≡◌, ◌∷◌, [], pos, negsuc, true, false, refl}
use Rattle.awk_types.specs.DataType.{leaf, opt, unknown}
use Rattle.awk_types.specs.Datum.{one}
use Rattle.awk_types.specs.Value.{int, truth, null}
use Rattle.awk_types.specs.declared.primitive.Primitive.TheVariants as Primitives
use Rattle.awk_lanes.specs.declared.kind.Kind.TheVariants as Kinds
use Rattle.awk_layout.specs.Datum.{datum_of}
use Rattle.awk_layout.specs.Filler.{filler_of, is_filler}
use Rattle.awk_layout.specs.Layout.{Layout, empty, optional}
use Rattle.awk_layout.specs.Single.{only, literal_array}
use Rattle.awk_layout.specs.declared.datum.Datum.TheVariants.{Arr, One}
use Rattle.awk_layout.specs.declared.datum.Operand.TheVariants.{Of}

-- the greatest int64 is of int64, and the number after it of uint64
int64-literal : datum_of (One (literal_array (pos 9223372036854775807)))
    ≡ one (leaf Primitives.I64) (int (pos 9223372036854775807))
int64-literal = refl

uint64-literal : datum_of (One (literal_array (pos 9223372036854775808)))
    ≡ one (leaf Primitives.U64) (int (pos 9223372036854775808))
uint64-literal = refl

-- a truth value is 1 in its lane
single-truth : datum_of (One (only Kinds.Bool (pos 1))) ≡ one (leaf Primitives.Bool) (truth true)
single-truth = refl

-- a single null is optional, and fills no null; nor does an array
abbrev missing : Layout
missing = optional (record { kind = Kinds.I64; items = negsuc 0 ∷ [] }) empty

single-null : datum_of (One missing) ≡ one (opt unknown) null
single-null = refl

fillers : (is_filler (filler_of (Of (One missing))) ≡ false)
    × (is_filler (filler_of (Of (Arr (only Kinds.I8 (pos 7))))) ≡ false)
    × (is_filler (filler_of (Of (One (only Kinds.I8 (pos 7))))) ≡ true)
fillers = (refl, refl, refl)
