-- What a form, a length and a container denote: values, place by place, over the bytes of the
-- buffers, with no columns in between. A buffer without bytes counts as empty, and a number behind
-- the last byte is 0.
use Rattle.std.specs.Prelude.{ℕ, zero, suc, ◌+◌, ◌-◌, ◌*◌, Bool, List, [], ◌∷◌, map, codes, ℤ}
use Rattle.std.specs.Prelude.{if◌then◌else◌, Result}
use Rattle.std.specs.List.{range_with_len}
use Rattle.awk_types.specs.Gives.{refused_or}
use Rattle.awk_types.specs.Value.{Value, Values, int, truth, null, list, row, alt, no_values, value}
use Rattle.awk_types.specs.Datum.{Datum, arr}
use Rattle.awk_types.specs.Simple.{simple, simple_value}
use Rattle.awk_types.specs.declared.primitive.Primitive.{Primitive}
use Rattle.awk_types.specs.declared.primitive.Primitive.TheVariants as primitive
use Rattle.awk_lanes.specs.declared.kind.Kind.TheVariants as kind
use Rattle.awk_bits.specs.Bits.{bit}
use Rattle.awk_lanes.specs.Numbers.{is_nonzero, nat_of}
use Rattle.awk_lanes.specs.Places.{option_place}
use Rattle.awk_layout.specs.Item.{run, at_option, agrees}
use Rattle.awk_form.specs.FormTree.{FormTree, empty, numpy, regular, list as list_array}
use Rattle.awk_form.specs.FormTree.{list_offset, row as row_array, indexed, indexed_option}
use Rattle.awk_form.specs.FormTree.{byte_masked, bit_masked, unmasked, union, FormTrees, no_forms}
use Rattle.awk_form.specs.FormTree.{form}
use Rattle.awk_form.specs.FormType.{type_of}
use Rattle.awk_valid.specs.Container.{Container, bytes_at, num, index_num, int8_num}
use Rattle.awk_valid.specs.Broken.{Refusal}
use Rattle.awk_valid.specs.Loading.{refusal}

-- ---- numbers in bytes

-- the element of a primitive there, in the order of its bytes; of bool whether the byte is not 0
abbrev pub element : Bool → Primitive → List ℕ → ℕ → Value
element big primitive.Bool b i = truth (is_nonzero (num big kind.Bool b i))
element big primitive.I8 b i = int (num big kind.I8 b i)
element big primitive.I16 b i = int (num big kind.I16 b i)
element big primitive.I32 b i = int (num big kind.I32 b i)
element big primitive.I64 b i = int (num big kind.I64 b i)
element big primitive.U8 b i = int (num big kind.U8 b i)
element big primitive.U16 b i = int (num big kind.U16 b i)
element big primitive.U32 b i = int (num big kind.U32 b i)
element big primitive.U64 b i = int (num big kind.U64 b i)

-- ---- items

-- what f gives from place a up to place b - 1; no value where a and b are equal
abbrev pub between : (ℕ → Value) → ℤ → ℤ → Values
between f a b = run f (nat_of a) (nat_of b - nat_of a)

-- the item of an inner shape over numbers: a regular list of regular lists
abbrev pub shaped_item : List ℕ → (ℕ → Value) → ℕ → Value
shaped_item [] f i = f i
shaped_item (size ∷ sizes) f i = list (run (shaped_item sizes f) (i * size) size)

abbrev mutual
  -- the item at a place
  pub item : FormTree → Container → ℕ → Value
  item (empty key) c i = null
  item (numpy key prim inner) c i =
      shaped_item inner (element c.big prim (bytes_at c key (codes "data"))) i
  item (regular key size f) c i = list (run (item f c) (i * size) size)
  item (list_array key starts stops f) c i =
      list
      (between (item f c) (index_num c key (codes "starts") starts i)
      (index_num c key (codes "stops") stops i))
  item (list_offset key offsets f) c i =
      list
      (between (item f c) (index_num c key (codes "offsets") offsets i)
      (index_num c key (codes "offsets") offsets (i + 1)))
  item (row_array key names fs) c i = row (items_across fs c i)
  item (indexed key index f) c i = item f c (nat_of (index_num c key (codes "index") index i))
  item (indexed_option key index f) c i =
      at_option (option_place (index_num c key (codes "index") index i)) (item f c)
  item (byte_masked key valid_when f) c i =
      if agrees valid_when (is_nonzero (int8_num c key (codes "mask") i)) then item f c i else null
  item (bit_masked key valid_when lsb_order f) c i =
      if agrees valid_when (bit lsb_order (bytes_at c key (codes "mask")) i) then item f c i
      else null
  item (unmasked key f) c i = item f c i
  item (union key index fs) c i =
      alt (nat_of (int8_num c key (codes "tags") i))
      (item_of fs c (nat_of (int8_num c key (codes "tags") i))
      (nat_of (index_num c key (codes "index") index i)))

  -- the items of all contents at one place
  pub items_across : FormTrees → Container → ℕ → Values
  items_across no_forms c i = no_values
  items_across (form f fs) c i = value (item f c i) (items_across fs c i)

  -- the item of the k-th content
  pub item_of : FormTrees → Container → ℕ → ℕ → Value
  item_of no_forms c k i = null
  item_of (form f fs) c zero i = item f c i
  item_of (form f fs) c (suc k) i = item_of fs c k i

-- the array of a form of n items: its simple type, and the simple items at the places 0 to n - 1
abbrev pub denote : FormTree → ℕ → Container → Datum
denote f n c =
    arr (simple (type_of f)) (map (λ i. simple_value (type_of f) (item f c i)) (range_with_len 0 n))

-- what loading answers: the array that is denoted, or why not. The limits of the type come before
-- the walk
abbrev pub denoting : FormTree → ℕ → Container → Result Datum Refusal
denoting f n c = refused_or (refusal f n c) (denote f n c)
