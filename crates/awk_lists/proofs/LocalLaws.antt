-- The places of the items of lists.
use Rattle.std.specs.Prelude.{◌≡◌, ℕ, ◌*◌, ◌<◌, ◌≤◌, ◌^◌, refl, List, length, map, sum}
use Rattle.std.specs.Prelude.{ℤ, pos, Some, None}
use Rattle.std.specs.List.{range_with_len}
use Rattle.std.proofs.Common.{arith, ap, sym, subst, ◌∙◌}
use Rattle.std.proofs.lemmas.Simd.{map-map}
use Rattle.std.proofs.lemmas.List.FromFn.{length-map-range_with_len}
use Rattle.awk_layout.proofs.Runs.{run-by}
use Rattle.awk_types.specs.DataType.{leaf}
use Rattle.awk_types.specs.ItemLimit.{item_limit}
use Rattle.awk_types.specs.Simple.{simple_value}
use Rattle.awk_types.specs.Value.{Value, int, value_list}
use Rattle.awk_types.specs.declared.primitive.Primitive.TheVariants.{I64}
use Rattle.awk_lanes.specs.declared.kind.Kind.TheVariants as kinds
use Rattle.awk_lanes.specs.Column.{Column}
use Rattle.awk_lanes.specs.Places.{size_of, place_at}
use Rattle.awk_layout.specs.Item.{run}
use Rattle.awk_layout.specs.Layout.{Layout, flat}
use Rattle.awk_layout.specs.Typing.{array_type}
use Rattle.awk_gather.specs.Arrays.{array_item}
use Rattle.awk_columns.specs.ListClass.{Class}
use Rattle.awk_columns.specs.Lists.{AreLists, AreOfClass, items_at, all_items_at, span_length}
use Rattle.awk_list_functions.specs.Made.{AreGiven, IsColumn, IsSized}
use Rattle.awk_list_functions.specs.Made.{even_offsets as sized_offsets}
use Rattle.awk_list_functions.specs.Spoils.{too_many}
use Rattle.awk_list_functions.specs.declared.causes.Spoil.TheVariants.{Size}
use Rattle.awk_lanes.specs.Counted.{before, offsets_by, items_lane}
use Rattle.awk_lanes.specs.Made.{lane_of}
use Rattle.awk_lanes.proofs.MadeLanes.{size-lane_of, at-lane_of}
use Rattle.awk_lanes.proofs.CountedLanes.{place-offsets, length-numbers, numbers-at}
use Rattle.awk_list_ends.proofs.TotalLaws.{offsets-sized, total-sized}
use Rattle.awk_lists.specs.LocalIndex.{local_index_function, local_lane}
use Rattle.awk_columns.proofs.OffsetLaws.{are_offsets, even_offsets, offset-length, items_at-length}
use Rattle.awk_columns.proofs.OffsetLaws.{count_given}
use Rattle.awk_list_functions.proofs.SpoilLimits.{over_limit, within_limit}

-- the lengths of lists as a column
pub lengths_column : (s t : Column) (y : Layout) → size_of s < 2 ^ 63
    → IsColumn (leaf I64) (λ i. int (pos (length (items_at s t y i)))) (size_of s)
    (flat (lane_of kinds.I64 (size_of s) (λ i. pos (span_length s t i))))
lengths_column s t y p =
    let f : ℕ → ℤ = λ i. pos (span_length s t i) in
    record {
      valid = rw (size-lane_of kinds.I64 (size_of s) f) p;
      size = size-lane_of kinds.I64 (size_of s) f;
      typ = refl;
      items = λ i q. ap int (at-lane_of kinds.I64 (size_of s) f i q
          ∙ ap pos (sym (items_at-length s t y i)));
    }

abbrev pub places : Column → Column → Column
places s t = items_lane kinds.I64 (span_length s t) (λ i k. pos k) (size_of s)

pub local-length : (s t : Column) → size_of (places s t) ≡ before (span_length s t) (size_of s)
local-length s t = length-numbers (span_length s t) (λ i k. pos k) (size_of s)

pub local_given : (class : Class) (s t : Column) (y : Layout) → AreLists class s t y
    → before (span_length s t) (size_of s) ≤ item_limit →
    AreGiven class (leaf I64) (λ vs. map (λ (i : ℕ). int (pos i)) (range_with_len 0 (length vs))) s
    t y (offsets_by (span_length s t) (size_of s)) (flat (places s t))
local_given class s t y h p = record {
  valid = omega (arith, local-length s t, p);
  offsets = rw (local-length s t) (are_offsets (span_length s t) (size_of s) h.fits);
  even = even_offsets class s t h.same_class;
  typ = refl;
  lists = λ i q.
      let m : ℕ → ℕ = span_length s t in
      let o : Column = offsets_by m (size_of s) in
      let f : ℕ → Value = λ j. int (pos j) in
      ap (λ z. value_list (run (array_item (flat (places s t))) (place_at o i) z))
      (offset-length m (size_of s) i q)
      ∙ ap (λ z. value_list (run (array_item (flat (places s t))) z (m i)))
      (place-offsets m (size_of s) i (omega (arith, q)))
      ∙ run-by (array_item (flat (places s t))) f (before m i) (m i)
      (λ j r. ap int (numbers-at m (λ i k. pos k) i j (size_of s) q r))
      ∙ ap (λ k. map f (range_with_len 0 k)) (sym (items_at-length s t y i))
      ∙ sym (map-map (simple_value (leaf I64)) f (range_with_len 0 (length (items_at s t y i))));
}

local_count : (s t : Column) (y : Layout)
    → sum (map (λ (l : List Value). length (map (λ (i : ℕ). int (pos i))
    (range_with_len 0 (length l)))) (all_items_at s t y)) ≡ before (span_length s t) (size_of s)
local_count s t y =
    count_given (λ l. map (λ (i : ℕ). int (pos i)) (range_with_len 0 (length l))) s t
    y (span_length s t)
    (λ i. length-map-range_with_len (λ (j : ℕ). int (pos j)) 0 (length (items_at s t y i))
    ∙ items_at-length s t y i)

pub local_spoilt : (s t : Column) (y : Layout) → item_limit < before (span_length s t) (size_of s)
    → local_index_function.spoil (array_type y) (all_items_at s t y) ≡ Some Size
local_spoilt s t y p = ap too_many (local_count s t y)
    ∙ over_limit (before (span_length s t) (size_of s)) p

pub local_fine : (s t : Column) (y : Layout) → before (span_length s t) (size_of s) ≤ item_limit
    → local_index_function.spoil (array_type y) (all_items_at s t y) ≡ None
local_fine s t y p = ap too_many (local_count s t y)
    ∙ within_limit (before (span_length s t) (size_of s)) p

-- ---- lists of one size

pub even_given : (class : Class) (size : ℕ) (s t : Column) (y : Layout) → AreLists class s t y
    → class ≡ Some size → before (span_length s t) (size_of s) ≤ item_limit →
    AreGiven class (leaf I64) (λ vs. map (λ (i : ℕ). int (pos i)) (range_with_len 0 (length vs))) s
    t y (sized_offsets class (size_of s)) (flat (places s t))
even_given class size s t y a e p =
    let c : AreOfClass (Some size) s t = subst (λ k. AreOfClass k s t) e a.same_class in
    let same : offsets_by (span_length s t) (size_of s) ≡ sized_offsets class (size_of s) =
    offsets-sized size s t c ∙ ap (λ k. sized_offsets k (size_of s)) (sym e) in
    subst (λ (o : Column). AreGiven class (leaf I64)
    (λ vs. map (λ (i : ℕ). int (pos i)) (range_with_len 0 (length vs))) s t y o
    (flat (places s t))) same (local_given class s t y a p)

pub even_sized : (class : Class) (size : ℕ) → class ≡ Some size → IsSized class
even_sized class size e = subst IsSized (sym e) tt

-- how many places there are
pub even_count : (class : Class) (size : ℕ) (s t : Column) (y : Layout) → AreLists class s t y
    → class ≡ Some size → before (span_length s t) (size_of s) ≡ size_of s * size
even_count class size s t y a e =
    total-sized size s t (subst (λ k. AreOfClass k s t) e a.same_class)

-- one list has the places below its length
pub local-one : (s t : Column) (n total : ℕ) → n ≡ 1 → total ≡ before (span_length s t) n
    → lane_of kinds.I64 total pos ≡ local_lane s t n
local-one s t n total e sum =
    let long : total ≡ span_length s t 0 =
    omega (arith, sum, ap (before (span_length s t)) e) in
    ap (λ m. lane_of kinds.I64 m pos) long ∙ ap (local_lane s t) (sym e)
