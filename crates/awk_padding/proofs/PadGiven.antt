-- Lists with nulls at their end, over the items that they have.
use Rattle.std.specs.Prelude.{◌≡◌, ℕ, zero, suc, ◌+◌, ◌-◌, ◌*◌, ◌<◌, ◌≤◌, ◌^◌, nat_lt, refl, true}
use Rattle.std.specs.Prelude.{false, Bool, List, length, map, get_or, sum, pos, negsuc, ◌<ℤ◌, Some}
use Rattle.std.specs.Prelude.{None, if◌then◌else◌}
use Rattle.std.specs.List.{range_with_len}
use Rattle.std.proofs.Common.{arith, ap, ap₂, sym, ◌∙◌, subst}
use Rattle.std.proofs.lemmas.Int.{ints}
use Rattle.std.proofs.lemmas.List.{get_or_past}
use Rattle.std.proofs.lemmas.List.FromFn.{length-map-range_with_len}
use Rattle.std.proofs.lemmas.Simd.{map-map}
use Rattle.awk_types.specs.DataType.{DataType, opt}
use Rattle.awk_types.specs.Simple.{simple_value}
use Rattle.awk_types.specs.Value.{Value, null, value_list}
use Rattle.awk_types.specs.ItemLimit.{item_limit}
use Rattle.awk_lanes.specs.Column.{Column}
use Rattle.awk_lanes.specs.Counted.{before, items_lane, offsets_by}
use Rattle.awk_lanes.specs.Made.{lane_of}
use Rattle.awk_lanes.specs.Runs.{run_at}
use Rattle.awk_lanes.specs.declared.kind.Kind.TheVariants.{I64}
use Rattle.awk_lanes.specs.Places.{size_of, at, place_at, option_place, IsOptionalIndex}
use Rattle.awk_lanes.proofs.CountedLanes.{before-next, before_mono, place-offsets, sum-before}
use Rattle.awk_lanes.proofs.CountedLanes.{length-numbers, numbers-at, numbers-below}
use Rattle.awk_lanes.proofs.PlaceLaws.{named-below}
use Rattle.awk_layout.specs.Layout.{Layout, optional}
use Rattle.awk_layout.specs.Item.{run, at_option}
use Rattle.awk_layout.specs.Typing.{array_type}
use Rattle.awk_layout.specs.Valid.{len, IsValid}
use Rattle.awk_layout.proofs.Runs.{length-run, get-run, run-by, run-same}
use Rattle.awk_gather.specs.Arrays.{array_item}
use Rattle.awk_gather.specs.Peeled.{IsPickedOpt}
use Rattle.awk_columns.specs.Joined.{AreOffsets}
use Rattle.awk_columns.specs.ListClass.{Class}
use Rattle.awk_columns.specs.ListNode.{AreEven}
use Rattle.awk_list_functions.specs.Made.{AreGiven}
use Rattle.awk_columns.specs.Lists.{AreLists, items_at, all_items_at, span_length}
use Rattle.awk_list_functions.specs.Spoils.{too_many}
use Rattle.awk_list_functions.specs.declared.causes.Spoil.TheVariants.{Size}
use Rattle.awk_padding.specs.PadNone.{padded, padded_length, padded_class, pad_none_function}
use Rattle.awk_padding.specs.Lanes.{padded_span, padded_place, padded_lane}
use Rattle.awk_list_ends.proofs.SpanLaws.{start_there}
use Rattle.awk_option_nodes.proofs.OptionNodes.{HasItems, optional_type-is, optional_item}
use Rattle.awk_option_nodes.proofs.OptionNodes.{picked_item}
use Rattle.awk_columns.proofs.OffsetLaws.{are_offsets, items_at-length}
use Rattle.awk_list_functions.proofs.SpoilLimits.{over_limit, within_limit}

-- lists of items that are picked, and null elsewhere
picked_lists : (class : Class) (t : DataType) (items : List Value → List Value)
    (s e : Column) (y w r : Layout) (o p : Column) → IsValid r → IsPickedOpt w p r
    → AreGiven class t items s e y o (optional p w) → AreGiven class t items s e y o r
picked_lists class t items s e y w r o p v h g = record {
  valid = v;
  offsets = subst (AreOffsets o (size_of s)) (sym h.size) g.offsets;
  even = g.even;
  typ = h.typ ∙ g.typ;
  lists = λ i q.
      let size : ℕ = place_at o (i + 1) - place_at o i in
      ap value_list (run-same (array_item r) (array_item (optional p w)) (place_at o i) size
      (λ k _ high. picked_item w r p h k (omega (arith, high, g.offsets.within i q))))
      ∙ g.lists i q;
}

-- one item of a list of n items, or null past its end
shown : (h : ℕ → Value) (start n k : ℕ) →
    at_option (option_place (if nat_lt k n then pos (start + k) else negsuc 0)) h
    ≡ get_or (value_list (run h start n)) k null
shown h start n k = go (nat_lt k n) refl
  where
    go : (b : Bool) → nat_lt k n ≡ b
        → at_option (option_place (if b then pos (start + k) else negsuc 0)) h
        ≡ get_or (value_list (run h start n)) k null
    go true e =
        let p : k < n = grind (arith, e) in
        sym (get-run h start n k p)
    go false e =
        let p : n ≤ k = grind (arith, e) in
        sym (get_or_past (value_list (run h start n)) k null
        (omega (arith, length-run h start n, p)))

below_end : (start n k b : ℕ) → (0 < n → start + n ≤ b)
    → (if nat_lt k n then pos (start + k) else negsuc 0) <ℤ pos b
below_end start n k b h = go (nat_lt k n) refl
  where
    go : (c : Bool) → nat_lt k n ≡ c → (if c then pos (start + k) else negsuc 0) <ℤ pos b
    go true e =
        let p : k < n = grind (arith, e) in
        let q = h (omega (arith, p)) in
        omega (arith, ints, p, q)
    go false e = omega (arith, ints)

pub even_lists : (n : ℕ) (clip : Bool) (s t : Column) (k : ℕ)
    → AreEven (padded_class n clip) (offsets_by (padded_span n clip s t) k) k
even_lists n false s t k = tt
even_lists n true s t k = λ i p. place-offsets (padded_span n true s t) k i p ∙ go i
  where
    go : (i : ℕ) → before (padded_span n true s t) i ≡ i * n
    go zero = omega arith
    go (suc i) =
        let next : suc i * n ≡ i * n + n = grind arith in
        omega (arith, go i, next)

module _ (n : ℕ) (clip : Bool) (class : Class) (s t : Column) (y : Layout)
    (a : AreLists class s t y) where
  abbrev m : ℕ → ℕ
  m = padded_span n clip s t

  abbrev lane : Column
  lane = padded_lane n clip s t

  abbrev whole : ℕ
  whole = before (padded_span n clip s t) (size_of s)

  size-lane : size_of lane ≡ whole
  size-lane = length-numbers m (padded_place s t) (size_of s)

  pub padded_index : IsOptionalIndex lane (len y)
  padded_index = record {
    kind = tt;
    below = λ i p. numbers-below m (padded_place s t) (pos (len y)) (size_of s)
        (λ j k q _. below_end (place_at s j) (span_length s t j) k (len y)
        (λ r. (start_there (len y) (at s j) (at t j) (a.spans.ordered j q) r).1)) i p;
  }

  padded_fits : whole ≤ item_limit → size_of lane < 2 ^ 63
  padded_fits p = omega (arith, size-lane, p)

  item_is : HasItems y → (i k : ℕ) → i < size_of s → k < m i
      → array_item (optional lane y) (before m i + k)
      ≡ simple_value (opt (array_type y)) (get_or (items_at s t y i) k null)
  item_is has i k p q =
      let z : at lane (before m i + k) ≡ padded_place s t i k =
      numbers-at m (padded_place s t) i k (size_of s) p q in
      let up = before_mono m (i + 1) (size_of s) (omega (arith, p)) in
      let inside : before m i + k < size_of lane =
      omega (arith, size-lane, up, before-next m i, q) in
      optional_item lane y (before m i + k) has
      (λ j e. named-below (at lane (before m i + k)) (len y) j
      (padded_index.below (before m i + k) inside) e)
      ∙ ap (simple_value (opt (array_type y)))
      (ap (λ w. at_option (option_place w) (array_item y)) z
      ∙ shown (array_item y) (place_at s i) (span_length s t i) k)

  padded_given : HasItems y → whole ≤ item_limit
      → AreGiven (padded_class n clip) (opt (array_type y)) (λ vs. padded n clip vs) s t y
      (offsets_by (padded_span n clip s t) (size_of s)) (optional lane y)
  padded_given has few = record {
    valid = (padded_fits few, padded_index, a.valid);
    offsets = rw size-lane (are_offsets m (size_of s) a.fits);
    even = even_lists n clip s t (size_of s);
    typ = optional_type-is lane y;
    lists = λ i p.
        let o : Column = offsets_by m (size_of s) in
        let first : place_at o i ≡ before m i = place-offsets m (size_of s) i (omega (arith, p)) in
        let next : place_at o (i + 1) ≡ before m i + m i =
        place-offsets m (size_of s) (i + 1) (omega (arith, p)) ∙ before-next m i in
        let size : place_at o (i + 1) - place_at o i ≡ m i = omega (arith, first, next) in
        let f : ℕ → Value = λ k. get_or (items_at s t y i) k null in
        ap (λ k. value_list (run (array_item (optional lane y)) (place_at o i) k)) size
        ∙ ap (λ k. value_list (run (array_item (optional lane y)) k (m i))) first
        ∙ run-by (array_item (optional lane y)) (λ k. simple_value (opt (array_type y)) (f k))
        (before m i) (m i) (λ k q. item_is has i k p q)
        ∙ sym (map-map (simple_value (opt (array_type y))) f (range_with_len 0 (m i)))
        ∙ ap (λ k. map (simple_value (opt (array_type y)))
        (map f (range_with_len 0 (padded_length n clip k)))) (sym (items_at-length s t y i));
  }

  -- the same of the node that the index is composed with
  pub padded_over : HasItems y → whole ≤ item_limit → (r : Layout) → IsValid r
      → IsPickedOpt y lane r
      → AreGiven (padded_class n clip) (opt (array_type y)) (λ vs. padded n clip vs) s t y
      (offsets_by (padded_span n clip s t) (size_of s)) r
  padded_over h few r v p =
      picked_lists (padded_class n clip) (opt (array_type y)) (λ vs. padded n clip vs) s t y y r
      (offsets_by (padded_span n clip s t) (size_of s)) lane v p (padded_given h few)

  length-padded : (i : ℕ) → length (padded n clip (items_at s t y i)) ≡ m i
  length-padded i =
      length-map-range_with_len (λ k. get_or (items_at s t y i) k null) 0
      (padded_length n clip (length (items_at s t y i)))
      ∙ ap (padded_length n clip) (items_at-length s t y i)

  count_is : sum (map (λ l. length (padded n clip l)) (all_items_at s t y)) ≡ whole
  count_is =
      ap sum (map-map (λ (l : List Value). length (padded n clip l)) (items_at s t y)
      (range_with_len 0 (size_of s)))
      ∙ sum-before m (λ i. length (padded n clip (items_at s t y i))) length-padded (size_of s)

  pub padded_spoilt : item_limit < whole
      → (pad_none_function n clip).spoil (array_type y) (all_items_at s t y) ≡ Some Size
  padded_spoilt p = ap too_many count_is ∙ over_limit whole p

  pub padded_fine : whole ≤ item_limit
      → (pad_none_function n clip).spoil (array_type y) (all_items_at s t y) ≡ None
  padded_fine p = ap too_many count_is ∙ within_limit whole p

-- one list has its places in order, and -1 past its end
pub padded-one : (n : ℕ) (clip : Bool) (s t : Column) (total start length : ℕ) → size_of s ≡ 1
    → total ≡ before (padded_span n clip s t) (size_of s) → start ≡ place_at s 0
    → length ≡ span_length s t 0
    → lane_of I64 total (run_at start length) ≡ padded_lane n clip s t
padded-one n clip s t total start length e sum first size =
    let long : total ≡ padded_span n clip s t 0 =
    omega (arith, sum, ap (before (padded_span n clip s t)) e) in
    ap (λ k. lane_of I64 k (run_at start length)) long
    ∙ ap₂ (λ a b. lane_of I64 (padded_span n clip s t 0) (run_at a b)) first size
    ∙ ap (items_lane I64 (padded_span n clip s t) (padded_place s t)) (sym e)
