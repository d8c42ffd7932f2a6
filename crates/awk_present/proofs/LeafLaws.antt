-- Lanes of leaves, and which kinds of arrays have one.
use Rattle.std.proofs.Common.{◌≡◌, refl, sym, true≢false}
use Rattle.std.specs.Prelude.{ℤ, pos, true, false, Bool, if◌then◌else◌}
use Rattle.awk_types.specs.DataType.{DataType, unknown, leaf, var, reg, rec, tup, opt, uni}
use Rattle.awk_types.specs.Parts.{number_of}
use Rattle.awk_types.specs.Predicates.{is_leaf}
use Rattle.awk_types.specs.Simple.{present, is_option}
use Rattle.awk_types.specs.Value.{truth}
use Rattle.awk_lanes.specs.Numbers.{element, is_nonzero}
use Rattle.awk_lanes.specs.declared.kind.Kind.{Kind}
use Rattle.awk_lanes.specs.declared.kind.Kind.TheVariants as kind
use Rattle.awk_layout.specs.Item.{leaf_value}
use Rattle.awk_columns.specs.Columns.{is_present}
use Rattle.awk_present.specs.Numbers.{leaf_of}

-- without an option a leaf is what it is
pub present_leaf : (t : DataType) → is_option t ≡ false → is_leaf (present t) ≡ true
    → is_leaf t ≡ true
present_leaf unknown n h = refl
present_leaf (leaf p) n h = refl
present_leaf (var t) n h = h
present_leaf (reg n t) m h = h
present_leaf (rec ns ts) n h = h
present_leaf (tup ts) n h = h
present_leaf (opt t) n h = absurd (true≢false n)
present_leaf (uni ts) n h = h

-- the leaf of an option is that of its content
pub leaf_of-opt : (t : DataType) → is_leaf t ≡ true → leaf_of (opt t) ≡ leaf_of t
leaf_of-opt unknown h = refl
leaf_of-opt (leaf p) h = refl
leaf_of-opt (var t) h = refl
leaf_of-opt (reg n t) h = refl
leaf_of-opt (rec ns ts) h = refl
leaf_of-opt (tup ts) h = refl
leaf_of-opt (opt t) h = absurd (true≢false (sym h))
leaf_of-opt (uni ts) h = refl

-- ---- values of leaves

pub present-leaf_value : (k : Kind) (z : ℤ) → is_present (leaf_value k z) ≡ true
present-leaf_value kind.Bool z = refl
present-leaf_value kind.I8 z = refl
present-leaf_value kind.I16 z = refl
present-leaf_value kind.I32 z = refl
present-leaf_value kind.I64 z = refl
present-leaf_value kind.U8 z = refl
present-leaf_value kind.U16 z = refl
present-leaf_value kind.U32 z = refl
present-leaf_value kind.U64 z = refl

truth_number : (b : Bool)
    → number_of (truth (is_nonzero (pos (if b then 1 else 0)))) ≡ pos (if b then 1 else 0)
truth_number true = refl
truth_number false = refl

pub number_of-leaf_value : (k : Kind) (z : ℤ)
    → number_of (leaf_value k (element k z)) ≡ element k z
number_of-leaf_value kind.Bool z = truth_number (is_nonzero z)
number_of-leaf_value kind.I8 z = refl
number_of-leaf_value kind.I16 z = refl
number_of-leaf_value kind.I32 z = refl
number_of-leaf_value kind.I64 z = refl
number_of-leaf_value kind.U8 z = refl
number_of-leaf_value kind.U16 z = refl
number_of-leaf_value kind.U32 z = refl
number_of-leaf_value kind.U64 z = refl
