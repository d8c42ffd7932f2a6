-- Operands of a pairing to leaves: what their leaves are of, and what they give at each end.
use Rattle.std.specs.Prelude.{List, [], ◌∷◌, Result, Ok, Err, ℕ, ◌++◌}
use Rattle.awk_types.specs.DataType.{DataType, leaf, var, reg, opt}
use Rattle.awk_types.specs.Datum.{Datum, datum_type}
use Rattle.awk_types.specs.Value.{Value, int}
use Rattle.awk_types.specs.declared.fault.Fault.{Fault}
use Rattle.awk_types.specs.declared.primitive.Primitive.{Primitive}
use Rattle.awk_leaves.specs.declared.leaf_type.LeafType.{LeafType}
use Rattle.awk_leaves.specs.declared.leaf_type.LeafType.TheVariants.{Of, Unknown, Literal}
use Rattle.awk_columns.specs.Columns.{part_at}
use Rattle.awk_layout.specs.Filler.{Filler, literal, datum}

-- what the leaves of a type are of, through lists and options. A pairing to leaves is refused
-- where it ends at anything else.
abbrev pub leaf_in : DataType → LeafType
leaf_in (leaf p) = Of p
leaf_in (var t) = leaf_in t
leaf_in (reg n t) = leaf_in t
leaf_in (opt t) = leaf_in t
leaf_in t = Unknown

-- what is said in the primitive that types are judged to give
abbrev pub in_primitive : Result Primitive Fault → (Primitive → Result Datum Fault)
    → Result Datum Fault
in_primitive (Ok p) in_it = in_it p
in_primitive (Err f) in_it = Err f

-- ---- operands: a literal is no datum, and stands at each end of what the data share

abbrev pub data_in : Filler → List Datum
data_in (literal z) = []
data_in (datum d) = d ∷ []

abbrev pub leaf_of : Filler → LeafType
leaf_of (literal z) = Literal z
leaf_of (datum d) = leaf_in (datum_type d)

-- what an operand gives at an end, where it is the k-th of the data
abbrev pub at_end : Filler → ℕ → Value → Value
at_end (literal z) k = λ v. int z
at_end (datum d) k = part_at k

abbrev pub both_data : Filler → Filler → List Datum
both_data a b = data_in a ++ data_in b
