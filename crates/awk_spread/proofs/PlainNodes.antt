-- Layouts that are their own only alternative.
use Rattle.std.proofs.Common.{◌≡◌, ℕ, ◌<◌, List, [], ◌∷◌, arith, refl}
use Rattle.std.specs.Prelude.{ℤ, pos, negsuc, ◌<ℤ◌, Option, Some, None}
use Rattle.std.proofs.lemmas.Int.{ints}
use Rattle.awk_types.specs.DataType.{DataTypes, Name, row_type}
use Rattle.awk_types.specs.Simple.{present_alternatives, value_after, simple}
use Rattle.awk_types.specs.Value.{alt}
use Rattle.awk_lanes.specs.declared.kind.Kind.{Kind}
use Rattle.awk_lanes.specs.declared.kind.Kind.TheVariants.{Bool as Truths, I8, I16, I32, I64, U8}
use Rattle.awk_lanes.specs.declared.kind.Kind.TheVariants.{U16, U32, U64}
use Rattle.awk_lanes.specs.Column.{Column}
use Rattle.awk_lanes.specs.Places.{at, size_of, option_place, IsOptionalIndex}
use Rattle.awk_layout.specs.Layout.{Layout, Layouts, empty, flat, regular, lists, offset_lists}
use Rattle.awk_layout.specs.Layout.{rows, indexed, optional, byte_masked, bit_masked, unmasked}
use Rattle.awk_layout.specs.Layout.{union}
use Rattle.awk_layout.specs.Valid.{len}
use Rattle.awk_layout.specs.Item.{at_option, leaf_value}
use Rattle.awk_layout.specs.Typing.{layout_types, array_type}
use Rattle.awk_gather.specs.Arrays.{array_item}
use Rattle.awk_lanes.specs.Made.{lane_of}
use Rattle.awk_spread.specs.Plain.{IsPlain}
use Rattle.awk_spread.specs.Spread.{spread_at, chosen, Fits, IsSpread}
use Rattle.awk_lanes.proofs.MadeLanes.{size-lane_of, at-lane_of}

rows_alternatives : (names : Option (List Name)) (ts : DataTypes)
    → simple (row_type names ts) ∷ [] ≡ present_alternatives (simple (row_type names ts))
rows_alternatives None ts = refl
rows_alternatives (Some names) ts = refl

pub plain_alternatives : (x : Layout) → IsPlain x
    → array_type x ∷ [] ≡ present_alternatives (array_type x)
plain_alternatives empty h = refl
plain_alternatives (flat c) h = refl
plain_alternatives (regular size n x) h = refl
plain_alternatives (lists s t x) h = refl
plain_alternatives (offset_lists o x) h = refl
plain_alternatives (rows names n xs) h = rows_alternatives names (layout_types xs)
plain_alternatives (indexed j x) h = absurd h
plain_alternatives (optional j x) h = absurd h
plain_alternatives (byte_masked m v x) h = absurd h
plain_alternatives (bit_masked m v x) h = absurd h
plain_alternatives (unmasked n x) h = absurd h
plain_alternatives (union t j xs) h = absurd h

leaf_after : (k : Kind) (z : ℤ) → alt 0 (leaf_value k z) ≡ value_after 0 (leaf_value k z)
leaf_after Truths z = refl
leaf_after I8 z = refl
leaf_after I16 z = refl
leaf_after I32 z = refl
leaf_after I64 z = refl
leaf_after U8 z = refl
leaf_after U16 z = refl
leaf_after U32 z = refl
leaf_after U64 z = refl

rows_after : (names : Option (List Name)) (n : ℕ) (xs : Layouts) (i : ℕ)
    → alt 0 (array_item (rows names n xs) i) ≡ spread_at (rows names n xs) i
rows_after None n xs i = refl
rows_after (Some names) n xs i = refl

pub plain_item : (x : Layout) (i : ℕ) → IsPlain x → i < len x
    → alt 0 (array_item x i) ≡ spread_at x i
plain_item empty i h l = absurd (omega arith)
plain_item (flat c) i h l = leaf_after c.kind (at c i)
plain_item (regular size n x) i h l = refl
plain_item (lists s t x) i h l = refl
plain_item (offset_lists o x) i h l = refl
plain_item (rows names n xs) i h l = rows_after names n xs i
plain_item (indexed j x) i h l = absurd h
plain_item (optional j x) i h l = absurd h
plain_item (byte_masked m v x) i h l = absurd h
plain_item (bit_masked m v x) i h l = absurd h
plain_item (unmasked n x) i h l = absurd h
plain_item (union t j xs) i h l = absurd h

fits_one : (x : Layout) (z : ℤ) → z <ℤ pos (len x) → Fits (x ∷ []) (pos 0) z
fits_one x (pos k) v h = (omega (arith, ints), omega arith, omega (arith, ints))
fits_one x (negsuc k) v h = absurd (omega (arith, ints))

one_item : (x : Layout) (z : ℤ) → IsPlain x → z <ℤ pos (len x)
    → chosen (x ∷ []) (pos 0) z ≡ at_option (option_place z) (spread_at x)
one_item x (pos k) b v = plain_item x k b (omega (arith, ints))
one_item x (negsuc k) b v = refl

-- one alternative
spread_one : (x : Layout) (i : Column) → IsPlain x → i.kind ≡ I64 → IsOptionalIndex i (len x)
    → IsSpread x i (lane_of I64 (size_of i) (λ j. pos 0)) i (x ∷ [])
spread_one x i b a v = record {
  chosen = record {
    tag_size = size-lane_of I64 (size_of i) (λ j. pos 0);
    index_size = refl;
    tag_kind = refl;
    index_kind = a;
    fits = λ j l. rw (at-lane_of I64 (size_of i) (λ j. pos 0) j l)
        (fits_one x (at i j) (v.below j l));
    items = λ j l. rw (at-lane_of I64 (size_of i) (λ j. pos 0) j l)
        (one_item x (at i j) b (v.below j l));
  };
  types = plain_alternatives x b;
  held_within = omega arith;
}

pub spread_kept : (x y : Layout) (i t : Column) (ys : List Layout) → IsPlain x → i.kind ≡ I64
    → IsOptionalIndex i (len x) → t ≡ lane_of I64 (size_of i) (λ j. pos 0) → y ≡ x → ys ≡ y ∷ []
    → IsSpread x i t i ys
spread_kept x y i t ys b a v e f g = rw (g, e, f) (spread_one x i b a v)
