-- What is packed is read back, at worked values.
use Rattle.std.specs.Prelude.{◌≡◌, List, [], ◌∷◌, None, true, pos, negsuc, codes, refl}
use Rattle.std.specs.Fmt.{digits}
use Rattle.awk_types.specs.declared.primitive.Primitive.TheVariants as primitive
use Rattle.awk_types.specs.DataType.{DataType, leaf, var, reg, rec, opt, uni, no_types, type}
use Rattle.awk_types.specs.Datum.{arr}
use Rattle.awk_types.specs.Value.{Value, int, truth, null, list, row, alt, no_values, value}
use Rattle.awk_types.specs.Value.{values_from}
use Rattle.awk_pack.specs.Canon.{Pack, packed}
use Rattle.awk_text.specs.PackedText.{buffers}
use Rattle.awk_valid.specs.Container.{Container}
use Rattle.awk_valid.specs.Broken.{broken}
use Rattle.awk_valid.specs.Denote.{denote}
use Rattle.awk_readback.specs.ReadBack.{HasBuffers, holding}

abbrev container_of : Pack → Container
container_of p = holding (buffers p)

-- ---- lists

abbrev ints : List Value → Value
ints vs = list (values_from vs)

abbrev lists : List Value
lists = ints (int (pos 5) ∷ int (negsuc 0) ∷ []) ∷ ints [] ∷ ints (int (pos 7) ∷ []) ∷ []

abbrev packed_lists : Pack
packed_lists = packed (var (leaf primitive.I16)) lists

lists-held : HasBuffers (container_of packed_lists) (buffers packed_lists)
unfolding digits
lists-held = ((refl, refl), ((refl, refl), tt))

lists-valid : broken packed_lists.form packed_lists.length (container_of packed_lists) ≡ None
unfolding digits
lists-valid = refl

lists-denoted : denote packed_lists.form packed_lists.length (container_of packed_lists)
    ≡ arr (var (leaf primitive.I16)) lists
unfolding digits
lists-denoted = refl

-- ---- rows of an option and a union

abbrev row_type : DataType
row_type =
    rec (codes "a" ∷ codes "b" ∷ [])
    (type (opt (leaf primitive.I8))
    (type (uni (type (leaf primitive.Bool) (type (reg 2 (leaf primitive.U8)) no_types))) no_types))

abbrev row_of : Value → Value → Value
row_of a b = row (value a (value b no_values))

abbrev rows : List Value
rows =
    row_of null (alt 0 (truth true))
    ∷ row_of (int (pos 4)) (alt 1 (ints (int (pos 8) ∷ int (pos 9) ∷ [])))
    ∷ row_of (int (negsuc 2)) (alt 0 (truth true)) ∷ []

abbrev packed_rows : Pack
packed_rows = packed row_type rows

rows-held : HasBuffers (container_of packed_rows) (buffers packed_rows)
unfolding digits
rows-held = (
  (refl, refl),
  (
    (refl, refl),
    (
      (refl, refl),
      (
        (refl, refl),
        ((refl, refl), ((refl, refl), tt)),
      ),
    ),
  ),
)

rows-valid : broken packed_rows.form packed_rows.length (container_of packed_rows) ≡ None
unfolding digits
rows-valid = refl

rows-denoted : denote packed_rows.form packed_rows.length (container_of packed_rows)
    ≡ arr row_type rows
unfolding digits
rows-denoted = refl
