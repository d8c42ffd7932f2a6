-- The first n items of a layout: their values, its type, its nodes, and that it is valid.
use Rattle.std.proofs.Common.{◌≡◌, ℕ, ◌+◌, ◌-◌, ◌<◌, ◌≤◌, false, List, length, drop, get_or}
use Rattle.std.proofs.Common.{if◌then◌else◌, refl, ap, ap₂, ◌∙◌, sym, arith, length-take}
use Rattle.std.proofs.Common.{length-drop, get_or-take, get_or-drop}
use Rattle.std.specs.Prelude.{slice_range, pos}
use Rattle.std.proofs.lemmas.Nat.{mul-le}
use Rattle.awk_types.specs.Value.{list, alt, null}
use Rattle.awk_lanes.specs.Column.{Column}
use Rattle.awk_lanes.specs.Cut.{cut_of}
use Rattle.awk_lanes.specs.Numbers.{element, nat_of, is_nonzero}
use Rattle.awk_lanes.specs.Places.{size_of, at, option_place, IsOffsets, AreSpans, IsOptionalIndex}
use Rattle.awk_lanes.specs.Places.{IsIndex}
use Rattle.awk_layout.specs.Layout.{Layout, Layouts, weight, height, empty, flat, regular, lists}
use Rattle.awk_layout.specs.Layout.{offset_lists, rows, indexed, optional, byte_masked, bit_masked}
use Rattle.awk_layout.specs.Layout.{unmasked, union}
use Rattle.awk_layout.specs.Valid.{len, IsValid, IsByteMask, IsUnion}
use Rattle.awk_layout.specs.Item.{item, item_of, run, at_option, leaf_value, agrees}
use Rattle.awk_layout.specs.Laws.{AllReach-le}
use Rattle.awk_layout.specs.Typing.{layout_type}
use Rattle.awk_view.specs.Layouts.{first_items}

-- ---- lanes

get_or_first : {X : Type 0} (xs : List X) (n i : ℕ) (d : X) → i < n
    → get_or (slice_range xs 0 n) i d ≡ get_or xs i d
get_or_first xs n i d h =
    let e : 0 + i ≡ i = omega arith in
    get_or-take (n - 0) (drop 0 xs) i d (omega arith) ∙ get_or-drop 0 xs i d ∙ ap
    (λ (j : ℕ). get_or xs j d) e

pub length_first : {X : Type 0} (xs : List X) (n : ℕ) → n ≤ length xs
    → length (slice_range xs 0 n) ≡ n
length_first xs n h = omega (arith, length-take (n - 0) (drop 0 xs), length-drop 0 xs)

at_first : (c : Column) (n i : ℕ) → i < n → at (cut_of c 0 n) i ≡ at c i
at_first c n i h = ap (element c.kind) (get_or_first c.items n i (pos 0) h)

pub size_first : (c : Column) (n : ℕ) → n ≤ size_of c → size_of (cut_of c 0 n) ≡ n
size_first c n h = length_first c.items n h

-- ---- what stays

pub len-first_items : (n : ℕ) (x : Layout) → n ≤ len x → len (first_items n x) ≡ n
len-first_items n empty h = omega arith
len-first_items n (flat c) h = size_first c n h
len-first_items n (regular size m x) h = refl
len-first_items n (lists s t x) h = size_first s n h
len-first_items n (offset_lists o x) h =
    omega (arith, length-take (n + 1 - 0) (drop 0 o.items), length-drop 0 o.items)
len-first_items n (rows names m xs) h = refl
len-first_items n (indexed j x) h = size_first j n h
len-first_items n (optional j x) h = size_first j n h
len-first_items n (byte_masked m v x) h = size_first m n h
len-first_items n (bit_masked m v x) h = length_first m n h
len-first_items n (unmasked m x) h = refl
len-first_items n (union t j xs) h = size_first t n h

pub item-first_items : (n : ℕ) (x : Layout) (i : ℕ) → i < n → item (first_items n x) i ≡ item x i
item-first_items n empty i h = refl
item-first_items n (flat c) i h = ap (leaf_value c.kind) (at_first c n i h)
item-first_items n (regular size m x) i h = refl
item-first_items n (lists s t x) i h =
    ap₂ (λ a b. list (run (item x) (nat_of a) (nat_of b - nat_of a))) (at_first s n i h)
    (at_first t n i h)
item-first_items n (offset_lists o x) i h =
    ap₂ (λ a b. list (run (item x) (nat_of a) (nat_of b - nat_of a)))
    (at_first o (n + 1) i (omega arith)) (at_first o (n + 1) (i + 1) (omega arith))
item-first_items n (rows names m xs) i h = refl
item-first_items n (indexed j x) i h = ap (λ a. item x (nat_of a)) (at_first j n i h)
item-first_items n (optional j x) i h =
    ap (λ a. at_option (option_place a) (item x)) (at_first j n i h)
item-first_items n (byte_masked m v x) i h =
    ap (λ a. if agrees v (is_nonzero a) then item x i else null) (at_first m n i h)
item-first_items n (bit_masked m v x) i h =
    ap (λ b. if agrees v b then item x i else null) (get_or_first m n i false h)
item-first_items n (unmasked m x) i h = refl
item-first_items n (union t j xs) i h =
    ap₂ (λ a b. alt (nat_of a) (item_of xs (nat_of a) (nat_of b))) (at_first t n i h)
    (at_first j n i h)

pub type-first_items : (n : ℕ) (x : Layout) → layout_type (first_items n x) ≡ layout_type x
type-first_items n empty = refl
type-first_items n (flat c) = refl
type-first_items n (regular size m x) = refl
type-first_items n (lists s t x) = refl
type-first_items n (offset_lists o x) = refl
type-first_items n (rows names m xs) = refl
type-first_items n (indexed j x) = refl
type-first_items n (optional j x) = refl
type-first_items n (byte_masked m v x) = refl
type-first_items n (bit_masked m v x) = refl
type-first_items n (unmasked m x) = refl
type-first_items n (union t j xs) = refl

pub weight-first_items : (n : ℕ) (x : Layout) → weight (first_items n x) ≡ weight x
weight-first_items n empty = refl
weight-first_items n (flat c) = refl
weight-first_items n (regular size m x) = refl
weight-first_items n (lists s t x) = refl
weight-first_items n (offset_lists o x) = refl
weight-first_items n (rows names m xs) = refl
weight-first_items n (indexed j x) = refl
weight-first_items n (optional j x) = refl
weight-first_items n (byte_masked m v x) = refl
weight-first_items n (bit_masked m v x) = refl
weight-first_items n (unmasked m x) = refl
weight-first_items n (union t j xs) = refl

pub height-first_items : (n : ℕ) (x : Layout) → height (first_items n x) ≡ height x
height-first_items n empty = refl
height-first_items n (flat c) = refl
height-first_items n (regular size m x) = refl
height-first_items n (lists s t x) = refl
height-first_items n (offset_lists o x) = refl
height-first_items n (rows names m xs) = refl
height-first_items n (indexed j x) = refl
height-first_items n (optional j x) = refl
height-first_items n (byte_masked m v x) = refl
height-first_items n (bit_masked m v x) = refl
height-first_items n (unmasked m x) = refl
height-first_items n (union t j xs) = refl

-- ---- validity

pub spans_first : (s t : Column) (n m : ℕ) → n ≤ size_of s → AreSpans s t m
    → AreSpans (cut_of s 0 n) (cut_of t 0 n) m
spans_first s t n m h v =
    let a = size_first s n h in
    let b = size_first t n (omega (arith, v.same_size)) in
    record {
      start_kind = v.start_kind;
      stop_kind = v.stop_kind;
      same_size = a ∙ sym b;
      ordered = λ i k.
          let l : i < n = omega (arith, a) in
          let e = at_first s n i l in
          let f = at_first t n i l in
          rw (e, f) (v.ordered i (omega arith));
    }

pub offsets_first : (o : Column) (n m : ℕ) → n + 1 ≤ size_of o → IsOffsets o m
    → IsOffsets (cut_of o 0 (n + 1)) m
offsets_first o n m h v =
    let a = size_first o (n + 1) h in
    record {
      kind = v.kind;
      some = omega (arith, a);
      ordered = λ i k.
          let l : i + 1 < n + 1 = omega (arith, a) in
          let e = at_first o (n + 1) i (omega arith) in
          let f = at_first o (n + 1) (i + 1) l in
          rw (e, f) (v.ordered i (omega arith));
    }

pub index_first : (j : Column) (n m : ℕ) → n ≤ size_of j → IsIndex j m → IsIndex (cut_of j 0 n) m
index_first j n m h v =
    let a = size_first j n h in
    record {
      kind = v.kind;
      places = λ i k.
          let e = at_first j n i (omega (arith, a)) in
          rw e (v.places i (omega (arith, a)));
    }

pub optional_first : (j : Column) (n m : ℕ) → n ≤ size_of j → IsOptionalIndex j m
    → IsOptionalIndex (cut_of j 0 n) m
optional_first j n m h v =
    let a = size_first j n h in
    record {
      kind = v.kind;
      below = λ i k.
          let e = at_first j n i (omega (arith, a)) in
          rw e (v.below i (omega (arith, a)));
    }

pub mask_first : (m : Column) (n k : ℕ) → n ≤ size_of m → IsByteMask m k
    → IsByteMask (cut_of m 0 n) k
mask_first m n k h v = record { kind = v.kind; reach = omega (arith, size_first m n h, v.reach) }

pub union_first : (t j : Column) (n : ℕ) (xs : Layouts) → n ≤ size_of t → IsUnion t j xs
    → IsUnion (cut_of t 0 n) (cut_of j 0 n) xs
union_first t j n xs h v =
    let a = size_first t n h in
    let b = size_first j n (omega (arith, v.same_size)) in
    record {
      some = v.some;
      tag_kind = v.tag_kind;
      index_kind = v.index_kind;
      same_size = a ∙ sym b;
      tags = λ i k.
          let l : i < n = omega (arith, a) in
          let e = at_first t n i l in
          rw e (v.tags i (omega arith));
      places = λ i k.
          let l : i < n = omega (arith, a) in
          let e = at_first t n i l in
          let f = at_first j n i l in
          rw (e, f) (v.places i (omega arith));
    }

pub first_valid : (n : ℕ) (x : Layout) → n ≤ len x → IsValid x → IsValid (first_items n x)
first_valid n empty h v = tt
first_valid n (flat c) h v = omega (arith, size_first c n h)
first_valid n (regular size m x) h v =
    (omega (arith, v.0), omega (arith, v.1, mul-le n size m size h (omega arith)), v.2)
first_valid n (lists s t x) h v =
    (omega (arith, v.0, size_first s n h), spans_first s t n (len x) h v.1, v.2)
first_valid n (offset_lists o x) h v =
    let l : n + 1 ≤ size_of o = omega (arith, v.1.some) in
    (omega (arith, v.0, size_first o (n + 1) l), offsets_first o n (len x) l v.1, v.2)
first_valid n (rows names m xs) h v = (omega (arith, v.0), v.1, AllReach-le n m xs v.2 h, v.3)
first_valid n (indexed j x) h v =
    (omega (arith, v.0, size_first j n h), index_first j n (len x) h v.1, v.2)
first_valid n (optional j x) h v =
    (omega (arith, v.0, size_first j n h), optional_first j n (len x) h v.1, v.2)
first_valid n (byte_masked m b x) h v =
    (omega (arith, v.0, size_first m n h), mask_first m n (len x) h v.1, v.2)
first_valid n (bit_masked m b x) h v =
    (omega (arith, v.0, length_first m n h), omega (arith, v.1, length_first m n h), v.2)
first_valid n (unmasked m x) h v = (omega (arith, v.0), omega (arith, v.1), v.2)
first_valid n (union t j xs) h v =
    (omega (arith, v.0, size_first t n h), union_first t j n xs h v.1, v.2)

pub ruleset firsts = (
  spans_first,
  offsets_first,
  index_first,
  optional_first,
  mask_first,
  union_first,
  size_first,
  length_first,
  AllReach-le,
)
