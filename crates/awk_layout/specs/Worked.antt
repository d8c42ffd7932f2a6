-- The definitions on small layouts, each with the items and the type that it must have.
use Rattle.std.specs.Prelude.{◌≡◌, ℕ, zero, suc, ◌<◌, ◌≤◌, ◌≤ℤ◌, ◌<ℤ◌, List, [], ◌∷◌, Some, None}
use Rattle.std.specs.Prelude.{true, false, ℤ, pos, negsuc, refl}
use Rattle.std.proofs.Common.{arith}
use Rattle.std.proofs.lemmas.Int.{ints}
use Rattle.awk_types.specs.declared.primitive.Primitive.TheVariants as Primitives
use Rattle.awk_types.specs.DataType.{unknown, leaf, var, reg, rec, opt, uni, no_types, type}
use Rattle.awk_types.specs.Value.{Values, int, truth, null, list, alt, no_values, value}
use Rattle.awk_lanes.specs.declared.kind.Kind.TheVariants.{Bool as Truths, I8, I64}
use Rattle.awk_lanes.specs.Column.{Column}
use Rattle.awk_bits.specs.Bits.{bits}
use Rattle.awk_lanes.specs.Places.{at}
use Rattle.awk_layout.specs.Layout.{Layout, Layouts, contents_of, held, weight, weights, height}
use Rattle.awk_layout.specs.Layout.{heights, empty, flat, regular, lists, offset_lists, rows}
use Rattle.awk_layout.specs.Layout.{indexed, optional, byte_masked, bit_masked, union, no_layouts}
use Rattle.awk_layout.specs.Layout.{layout}
use Rattle.awk_layout.specs.Induction.{AllOf, by_contents, weight-contents, height-contents}
use Rattle.awk_layout.specs.Valid.{IsValid}
use Rattle.awk_layout.specs.Place.{case_of, span}
use Rattle.awk_layout.specs.Typing.{array_type, array_items}

abbrev int64s : List ℤ → Column
int64s zs = record { kind = I64; items = zs }

abbrev int8s : List ℤ → Column
int8s zs = record { kind = I8; items = zs }

abbrev int_values : List ℤ → Values
int_values [] = no_values
int_values (z ∷ zs) = value (int z) (int_values zs)

-- lists by offsets: an empty list may stand anywhere
abbrev jagged : Layout
jagged =
    offset_lists (int64s (pos 0 ∷ pos 2 ∷ pos 2 ∷ pos 3 ∷ []))
    (flat (int64s (pos 5 ∷ negsuc 0 ∷ pos 7 ∷ [])))

jagged-items : array_items jagged
    ≡ list (int_values (pos 5 ∷ negsuc 0 ∷ [])) ∷ list no_values ∷ list (int_values (pos 7 ∷ []))
    ∷ []
jagged-items = refl

jagged-type : array_type jagged ≡ var (leaf Primitives.I64)
jagged-type = refl

jagged-case : case_of jagged 1 ≡ span (flat (int64s (pos 5 ∷ negsuc 0 ∷ pos 7 ∷ []))) 0 0
jagged-case = refl

-- empty lists far outside their content
abbrev outside : Layout
outside = lists (int64s (pos 5 ∷ negsuc 2 ∷ [])) (int64s (pos 5 ∷ negsuc 2 ∷ [])) (flat (int64s []))

outside-items : array_items outside ≡ list no_values ∷ list no_values ∷ []
outside-items = refl

outside-valid : IsValid outside
outside-valid = (
  omega arith,
  record { start_kind = tt; stop_kind = tt; same_size = refl; ordered = ordered },
  omega arith,
)
  where
    ordered : (i : ℕ) → i < 2
        → (at (int64s (pos 5 ∷ negsuc 2 ∷ [])) i ≡ at (int64s (pos 5 ∷ negsuc 2 ∷ [])) i → ⊥)
        → (pos 0 ≤ℤ at (int64s (pos 5 ∷ negsuc 2 ∷ [])) i)
        × (at (int64s (pos 5 ∷ negsuc 2 ∷ [])) i ≤ℤ at (int64s (pos 5 ∷ negsuc 2 ∷ [])) i)
        × (at (int64s (pos 5 ∷ negsuc 2 ∷ [])) i ≤ℤ pos 0)
    ordered i h apart = absurd (apart refl)

-- two lists over the same items
abbrev overlapping : Layout
overlapping =
    lists (int64s (pos 0 ∷ pos 0 ∷ [])) (int64s (pos 3 ∷ pos 3 ∷ []))
    (flat (int64s (pos 1 ∷ pos 2 ∷ pos 3 ∷ [])))

overlapping-items : array_items overlapping
    ≡ list (int_values (pos 1 ∷ pos 2 ∷ pos 3 ∷ []))
    ∷ list (int_values (pos 1 ∷ pos 2 ∷ pos 3 ∷ [])) ∷ []
overlapping-items = refl

-- an option index over a byte mask: each negative index is null, and so is an item that the mask
-- hides
abbrev masked_twice : Layout
masked_twice =
    optional (int64s (negsuc 0 ∷ pos 0 ∷ negsuc 6 ∷ pos 1 ∷ []))
    (byte_masked (int8s (pos 0 ∷ pos 1 ∷ [])) true (flat (int64s (pos 8 ∷ pos 9 ∷ []))))

masked_twice-items : array_items masked_twice ≡ null ∷ null ∷ null ∷ int (pos 9) ∷ []
masked_twice-items = refl

masked_twice-type : array_type masked_twice ≡ opt (leaf Primitives.I64)
masked_twice-type = refl

masked_twice-valid : IsValid masked_twice
masked_twice-valid = (
  omega arith,
  record { kind = tt; below = below },
  (omega arith, record { kind = refl; reach = omega arith }, omega arith),
)
  where
    below : (i : ℕ) → i < 4 → at (int64s (negsuc 0 ∷ pos 0 ∷ negsuc 6 ∷ pos 1 ∷ [])) i <ℤ pos 2
    below zero h = omega (arith, ints)
    below (suc zero) h = omega (arith, ints)
    below (suc (suc zero)) h = omega (arith, ints)
    below (suc (suc (suc zero))) h = omega (arith, ints)
    below (suc (suc (suc (suc i)))) h = absurd (omega arith)

-- bits from the most significant of each byte: an item is there where its bit is 0
abbrev masked_by_bits : Layout
masked_by_bits =
    bit_masked (bits false (0x42 ∷ 0xA0 ∷ []) 0 11) false
    (flat (int8s
    (pos 0 ∷ pos 1 ∷ pos 2 ∷ pos 3 ∷ pos 4 ∷ pos 5 ∷ pos 6 ∷ pos 7 ∷ pos 8 ∷ pos 9 ∷ pos 10 ∷ [])))

masked_by_bits-items : array_items masked_by_bits
    ≡ int (pos 0) ∷ null ∷ int (pos 2) ∷ int (pos 3) ∷ int (pos 4) ∷ int (pos 5) ∷ null
    ∷ int (pos 7) ∷ null ∷ int (pos 9) ∷ null ∷ []
masked_by_bits-items = refl

masked_by_bits-type : array_type masked_by_bits ≡ opt (leaf Primitives.I8)
masked_by_bits-type = refl

-- a union in a union: its alternatives are spliced, and tags are numbered anew
abbrev mixed : Layout
mixed =
    union (int8s (pos 0 ∷ pos 1 ∷ pos 0 ∷ [])) (int64s (pos 0 ∷ pos 0 ∷ pos 1 ∷ []))
    (layout
    (union (int8s (pos 0 ∷ pos 1 ∷ [])) (int64s (pos 0 ∷ pos 0 ∷ []))
    (layout (flat (int64s (pos 7 ∷ [])))
    (layout (flat (record { kind = Truths; items = pos 1 ∷ [] })) no_layouts)))
    (layout (flat (int8s (pos 4 ∷ []))) no_layouts))

mixed-items : array_items mixed
    ≡ alt 0 (int (pos 7)) ∷ alt 2 (int (pos 4)) ∷ alt 1 (truth true) ∷ []
mixed-items = refl

mixed-type : array_type mixed
    ≡ uni
    (type (leaf Primitives.I64) (type (leaf Primitives.Bool) (type (leaf Primitives.I8) no_types)))
mixed-type = refl

-- lists of size 0 over no items
abbrev hollow : Layout
hollow = regular 0 2 empty

hollow-items : array_items hollow ≡ list no_values ∷ list no_values ∷ []
hollow-items = refl

hollow-type : array_type hollow ≡ reg 0 unknown
hollow-type = refl

hollow-valid : IsValid hollow
hollow-valid = (omega arith, omega arith, tt)

-- lists of 2 ^ 40 rows without fields: no lane has so many numbers, and the layout is valid
abbrev vast : Layout
vast = regular 1099511627776 3 (rows (Some []) 3298534883328 no_layouts)

vast-case : case_of vast 2
    ≡ span (rows (Some []) 3298534883328 no_layouts) 2199023255552 3298534883328
vast-case = refl

vast-type : array_type vast ≡ reg 1099511627776 (rec [] no_types)
vast-type = refl

vast-valid : IsValid vast
vast-valid = (omega arith, omega arith, (omega arith, (refl, tt), tt, tt))

-- an index directly over rows is not counted, and other indexes are
abbrev picked : Layout
picked =
    indexed (int64s [])
    (indexed (int64s []) (rows None 0 (layout (indexed (int64s []) empty) no_layouts)))

picked-counts : (weight picked ≡ 5) × (height picked ≡ 5) × (held picked ≡ 4)
picked-counts = (refl, refl, refl)

-- no path has more nodes than there are: one step for all classes
heights_within : (xs : Layouts) → AllOf (λ x. height x ≤ weight x) xs → heights xs ≤ weights xs
heights_within no_layouts h = omega arith
heights_within (layout x xs) h = omega (arith, h.0, heights_within xs h.1)

pub height-weight : (x : Layout) → height x ≤ weight x
height-weight =
    by_contents (λ x. height x ≤ weight x)
    (λ x h. omega (arith, weight-contents x, height-contents x, heights_within (contents_of x) h))
