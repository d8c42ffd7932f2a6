-- The texts that stand for classes, primitives and kinds.
use Rattle.std.specs.Prelude.{ℕ, List, [], ◌∷◌, Option, Some, None, codes, if◌then◌else◌}
use Rattle.awk_types.specs.Names.{same_name}
use Rattle.awk_types.specs.declared.primitive.Primitive.{Primitive}
use Rattle.awk_types.specs.declared.primitive.Primitive.TheVariants as primitive
use Rattle.awk_form.specs.declared.class.Class.{Class}
use Rattle.awk_form.specs.declared.class.Class.TheVariants as class
use Rattle.awk_form.specs.declared.kind.IndexKind.{IndexKind}
use Rattle.awk_form.specs.declared.kind.IndexKind.TheVariants.{I32, U32, I64}

-- a text, and what it stands for
abbrev pub Table : Type 0 → Type 0
Table X = List (List ℕ × X)

abbrev pub meaning : {X : Type 0} → Table X → List ℕ → Option X
meaning [] text = None
meaning (r ∷ rs) text = if same_name r.0 text then Some r.1 else meaning rs text

abbrev pub classes : Table Class
classes =
    (codes "EmptyArray", class.Empty) ∷ (codes "NumpyArray", class.Numpy)
    ∷ (codes "RegularArray", class.Regular) ∷ (codes "ListArray", class.List)
    ∷ (codes "ListOffsetArray", class.ListOffset) ∷ (codes "RecordArray", class.Row)
    ∷ (codes "IndexedArray", class.Indexed)
    ∷ (codes "IndexedOptionArray", class.IndexedOption)
    ∷ (codes "ByteMaskedArray", class.ByteMasked) ∷ (codes "BitMaskedArray", class.BitMasked)
    ∷ (codes "UnmaskedArray", class.Unmasked) ∷ (codes "UnionArray", class.Union) ∷ []

abbrev pub primitives : Table Primitive
primitives =
    (codes "bool", primitive.Bool) ∷ (codes "int8", primitive.I8) ∷ (codes "int16", primitive.I16)
    ∷ (codes "int32", primitive.I32) ∷ (codes "int64", primitive.I64)
    ∷ (codes "uint8", primitive.U8) ∷ (codes "uint16", primitive.U16)
    ∷ (codes "uint32", primitive.U32) ∷ (codes "uint64", primitive.U64) ∷ []

-- the kinds of an index, of starts, stops and offsets; where a negative number means a null, it
-- must be signed
abbrev pub index_kinds : Table IndexKind
index_kinds = (codes "i32", I32) ∷ (codes "u32", U32) ∷ (codes "i64", I64) ∷ []

abbrev pub option_index_kinds : Table IndexKind
option_index_kinds = (codes "i32", I32) ∷ (codes "i64", I64) ∷ []

-- tags and masks of bytes, and masks of bits, have one kind each
abbrev pub byte_kinds : Table (Unit {0})
byte_kinds = (codes "i8", tt) ∷ []

abbrev pub bit_kinds : Table (Unit {0})
bit_kinds = (codes "u8", tt) ∷ []
