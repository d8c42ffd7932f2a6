-- Lists that fill an option: their offsets among the items that are present.
use Rattle.std.specs.Prelude.{◌≡◌, ℕ, zero, suc, ◌+◌, ◌-◌, ◌<◌, ◌≤◌, refl, List, map, length}
use Rattle.std.specs.Prelude.{[], take, sum, get_or, ℤ, pos, Some, None}
use Rattle.std.specs.List.{range_with_len}
use Rattle.std.proofs.Common.{arith, ap, ap₂, sym, ◌∙◌, subst}
use Rattle.std.proofs.lemmas.List.{length-map, take_all}
use Rattle.std.proofs.lemmas.Simd.{map-map}
use Rattle.awk_base.proofs.Ranges.{map-same}
use Rattle.awk_types.specs.DataType.{DataType}
use Rattle.awk_types.specs.ItemLimit.{item_limit}
use Rattle.awk_types.specs.Simple.{present, simple, simple_value}
use Rattle.awk_types.specs.Value.{Value, value_list}
use Rattle.awk_types.proofs.SimpleLaws.{simple_twice}
use Rattle.awk_lanes.specs.Column.{Column}
use Rattle.awk_lanes.specs.Counted.{before, offsets_by}
use Rattle.awk_lanes.specs.Making.{Making, with_item}
use Rattle.awk_lanes.specs.Numbers.{nat_of}
use Rattle.awk_lanes.specs.Places.{size_of, place_at}
use Rattle.awk_lanes.specs.declared.kind.Kind.TheVariants.{I64}
use Rattle.awk_lanes.specs.declared.counted.Offsets.{Offsets}
use Rattle.awk_lanes.proofs.CountedLanes.{before-next, before_mono, place-offsets, sum-before}
use Rattle.awk_lanes.proofs.MadeLanes.{IsSoFar, so_far_pushed}
use Rattle.awk_layout.specs.Layout.{Layout, flat}
use Rattle.awk_layout.specs.Item.{run}
use Rattle.awk_layout.specs.Typing.{layout_type, array_type, array_items}
use Rattle.awk_layout.specs.Valid.{len}
use Rattle.awk_layout.proofs.ArrayItems.{length-array_items}
use Rattle.awk_layout.proofs.Runs.{length-run}
use Rattle.awk_counts.specs.Counted.{first_of, present_at, numbers_at}
use Rattle.awk_counts.proofs.FirstPlaces.{first_of-mono, present-few}
use Rattle.awk_gather.specs.Arrays.{array_item}
use Rattle.awk_columns.specs.Columns.{is_present, present_values}
use Rattle.awk_columns.specs.Joined.{AreOffsets}
use Rattle.awk_columns.specs.ListClass.{Class}
use Rattle.awk_columns.specs.Lists.{span_length, AreLists, items_at, all_items_at}
use Rattle.awk_columns.proofs.OffsetLaws.{are_offsets, offset-length}
use Rattle.awk_list_functions.specs.DropNone.{drop_none_function}
use Rattle.awk_list_functions.specs.Made.{AreGiven}
use Rattle.awk_list_functions.specs.Spoils.{too_many}
use Rattle.awk_list_functions.specs.declared.causes.Spoil.TheVariants.{Size}
use Rattle.awk_list_functions.proofs.SpoilLimits.{over_limit, within_limit}
use Rattle.awk_open.specs.Opened.{IsOpened}
use Rattle.awk_open.specs.declared.opening.Opened.TheVariants.{Option as Optional}
use Rattle.awk_list_ends.specs.Kept.{KeepsItems}
use Rattle.awk_list_ends.proofs.FillingLaws.{full_more, run_from}
use Rattle.awk_list_ends.proofs.KeptItems.{kept_run}
use Rattle.awk_counts.specs.Present.{present_lane}
use Rattle.awk_option_nodes.proofs.OptionNodes.{HasItems, run_stays}
use Rattle.awk_nulls.specs.Lanes.{present_before, row_count, AreRowOffsets}
use Rattle.awk_nulls.specs.Lanes.{HasPresent}
use Rattle.awk_nulls.proofs.EndCounts.{at-present, lane_made}
use Rattle.awk_nulls.proofs.PresentLaws.{keeps_present, moved_present, option_size}

-- ---- counts of lists one after another

-- those of the first i lists are the items that are present before the next
pub counted_before : (j s t : Column) (i : ℕ)
    → before (row_count j s t) i ≡ present_before j (before (span_length s t) i)
counted_before j s t zero = refl
counted_before j s t (suc i) =
    let e : i + 1 ≡ suc i = omega arith in
    let more : present_before j (before (span_length s t) i)
    ≤ present_before j (before (span_length s t) (i + 1)) =
    first_of-mono (present_at j) (before (span_length s t) i) (before (span_length s t) (i + 1))
    (before_mono (span_length s t) i (i + 1) (omega arith)) in
    subst (λ k. before (row_count j s t) k ≡ present_before j (before (span_length s t) k)) e
    (omega (arith, counted_before j s t i, before-next (row_count j s t) i, more))

-- how many are present together
pub row_total : (j s t : Column) (o : Offsets) → AreRowOffsets j s t o
    → o.total ≡ present_before j (size_of j)
row_total j s t o r =
    r.offsets.0 ∙ counted_before j s t (size_of s) ∙ ap (present_before j) r.full.whole

-- ---- while they are made

pub record IsRowSoFar (j s t : Column) (place many i : ℕ) (m : Making) : Type 0 where
  pub here : place ≡ before (span_length s t) i
  pub within : place ≤ size_of j
  pub count : many ≡ present_before j place
  pub lists : (k : ℕ) → k < i → 0 < span_length s t k → place_at s k ≡ before (span_length s t) k
  pub lane : IsSoFar I64 (size_of s + 1) (λ k. pos (before (row_count j s t) k)) (i + 1) m

-- none yet
pub row_begun : (j s t : Column) (n : ℕ) (z : ℤ) (old new : Making) → n ≡ size_of s
    → new ≡ with_item old z → z ≡ pos 0
    → old ≡ record { kind = I64; room = n + 1; items = [] } → IsRowSoFar j s t 0 0 0 new
row_begun j s t n z old new size e f g = record {
  here = refl;
  within = omega arith;
  count = refl;
  lists = λ k l q. absurd (omega (arith, l));
  lane = so_far_pushed I64 (size_of s + 1) (λ k. pos (before (row_count j s t) k)) 0 z old new e
      f (record {
        kind = ap (λ (m : Making). m.kind) g;
        room = ap (λ (m : Making). m.room) g ∙ ap (λ k. k + 1) size;
        items = ap (λ (m : Making). m.items) g;
      });
}

-- one list more
pub row_more : (j s t : Column) (place many i n more : ℕ) (z : ℤ) (old new : Making)
    → IsRowSoFar j s t place many i old → n ≡ span_length s t i
    → (0 < span_length s t i → place ≡ place_at s i) → place + n ≤ size_of j
    → present_before j place + more ≡ present_before j (place + n)
    → new ≡ with_item old z → z ≡ pos (many + more)
    → IsRowSoFar j s t (place + n) (many + more) (i + 1) new
row_more j s t place many i n more z old new h long begins within counted e f =
    let here : place + n ≡ before (span_length s t) (i + 1) =
    omega (arith, h.here, long, before-next (span_length s t) i) in
    let all : many + more ≡ present_before j (place + n) = omega (arith, h.count, counted) in
    record {
      here = here;
      within = within;
      count = all;
      lists = full_more s t i place h.lists h.here begins;
      lane = so_far_pushed I64 (size_of s + 1) (λ k. pos (before (row_count j s t) k)) (i + 1) z
          old new e (f ∙ ap pos (all ∙ ap (present_before j) here
          ∙ sym (counted_before j s t (i + 1)))) h.lane;
    }

-- all lists, up to the last item
pub row_done : (j s t : Column) (place many i : ℕ) (m : Making) (c : Column)
    → IsRowSoFar j s t place many i m → i ≡ size_of s → size_of j ≤ place
    → c ≡ record { kind = I64; items = m.items }
    → AreRowOffsets j s t (record { lane = c; total = many })
row_done j s t place many i m c h done last e =
    let there : place ≡ size_of j = omega (arith, h.within, last) in
    let whole : before (span_length s t) (size_of s) ≡ size_of j =
    ap (before (span_length s t)) (sym done) ∙ sym h.here ∙ there in
    record {
      full = record {
        places = λ k l. h.lists k (omega (arith, l, done));
        whole = whole;
      };
      offsets = (
        h.count ∙ ap (present_before j) (there ∙ sym whole)
            ∙ sym (counted_before j s t (size_of s)),
        lane_made (λ k. pos (before (row_count j s t) k)) (size_of s + 1) (i + 1) m c h.lane
            (omega (arith, done)) e,
      );
    }

module _ (class : Class) (s t : Column) (y : Layout) (a : AreLists class s t y)
    (j : Column) (z : Layout) (h : HasPresent y j z) (o : Offsets) (r : AreRowOffsets j s t o)
  where
    abbrev long : ℕ → ℕ
    long = span_length s t

    abbrev count : ℕ → ℕ
    count = row_count j s t

    abbrev offsets : Column
    offsets = offsets_by (row_count j s t) (size_of s)

    abbrev counts : Column
    counts = present_lane j

    kept : KeepsItems is_present y (present_lane j) z
    kept = keeps_present y (present_lane j) z h.present

    count_at : (k : ℕ) → k ≤ size_of j → place_at (present_lane j) k ≡ present_before j k
    count_at k p = ap nat_of (at-present j k p)

    -- list i lies within
    below : (i : ℕ) → i ≤ size_of s → before (span_length s t) i ≤ size_of j
    below i p =
        let up = before_mono (span_length s t) i (size_of s) p in omega (arith, up, r.full.whole)

    place_is : (i : ℕ) → i ≤ size_of s
        → place_at offsets i ≡ place_at (present_lane j) (before (span_length s t) i)
    place_is i p =
        place-offsets (row_count j s t) (size_of s) i p ∙ counted_before j s t i
        ∙ sym (count_at (before (span_length s t) i) (below i p))

    list_made : (i : ℕ) → i < size_of s
        → value_list (run (array_item z) (place_at offsets i)
        (place_at offsets (i + 1) - place_at offsets i))
        ≡ present_values (items_at s t y i)
    list_made i p =
        let first : ℕ = before (span_length s t) i in
        let n : ℕ = span_length s t i in
        let next = before-next (span_length s t) i in
        let low = place_is i (omega (arith, p)) in
        let high : place_at offsets (i + 1) ≡ place_at (present_lane j) (first + n) =
        place_is (i + 1) (omega (arith, p)) ∙ ap (place_at (present_lane j)) next in
        let inside = below (i + 1) (omega (arith, p)) in
        ap₂ (λ k l. value_list (run (array_item z) k (l - k))) low high
        ∙ kept_run is_present y (present_lane j) z kept first n
        (omega (arith, inside, next, option_size y j z h))
        ∙ ap present_values (sym (run_from (array_item y) (place_at s i) first n
        (r.full.places i p)))

    len_is : before (row_count j s t) (size_of s) ≡ len z
    len_is =
        let all : present_before j (size_of j) ≡ length (present_values (take (size_of j)
        (array_items y))) =
        ap nat_of (sym (at-present j (size_of j) (omega arith))
        ∙ h.present.counts (size_of j) (omega (arith, option_size y j z h))) in
        counted_before j s t (size_of s) ∙ ap (present_before j) r.full.whole ∙ all
        ∙ ap (λ vs. length (present_values vs)) (take_all (size_of j) (array_items y)
        (omega (arith, option_size y j z h, length-array_items y)))
        ∙ ap length (sym h.present.column) ∙ length-array_items z

    -- ---- how many there are

    length_made : (i : ℕ) → i < size_of s
        → length (present_values (items_at s t y i)) ≡ row_count j s t i
    length_made i p =
        ap length (sym (list_made i p))
        ∙ length-run (array_item z) (place_at offsets i)
        (place_at offsets (i + 1) - place_at offsets i)
        ∙ offset-length (row_count j s t) (size_of s) i p

    count_is : sum (map (λ l. length (present_values l)) (all_items_at s t y)) ≡ o.total
    count_is =
        ap sum (map-map (λ (l : List Value). length (present_values l)) (items_at s t y)
        (range_with_len 0 (size_of s))
        ∙ map-same (λ i. length (present_values (items_at s t y i))) (row_count j s t) 0
        (size_of s) (λ i _ q. length_made i (omega (arith, q))))
        ∙ sum-before (row_count j s t) (row_count j s t) (λ i. refl) (size_of s)
        ∙ sym r.offsets.0

    pub rows_spoilt : item_limit < o.total
        → drop_none_function.spoil (array_type y) (all_items_at s t y) ≡ Some Size
    rows_spoilt q = ap too_many count_is ∙ over_limit o.total q

    pub rows_fine : o.total ≤ item_limit
        → drop_none_function.spoil (array_type y) (all_items_at s t y) ≡ None
    rows_fine q = ap too_many count_is ∙ within_limit o.total q

    -- ---- what is given

    abbrev typ : DataType
    typ = present (array_type y)

    rows_offsets : HasItems z
        → AreGiven None (present (array_type y)) (λ vs. present_values vs) s t y offsets z
    rows_offsets has = record {
      valid = h.present.valid;
      offsets = subst (AreOffsets offsets (size_of s)) len_is
          (are_offsets (row_count j s t) (size_of s) a.fits);
      even = tt;
      typ = sym (simple_twice (layout_type z)) ∙ ap simple h.present.typ;
      lists = λ i p.
          let within = (subst (AreOffsets offsets (size_of s)) len_is
          (are_offsets (row_count j s t) (size_of s) a.fits)).within i p in
          list_made i p
          ∙ sym (ap (λ u. map (simple_value u) (present_values (items_at s t y i)))
          (sym h.present.typ)
          ∙ ap (map (simple_value (array_type z))) (sym (list_made i p))
          ∙ run_stays z has (place_at offsets i)
          (place_at offsets (i + 1) - place_at offsets i) within
          ∙ list_made i p);
    }

    pub rows_given : HasItems z
        → AreGiven None (present (array_type y)) (λ vs. present_values vs) s t y o.lane z
    rows_given has =
        subst (λ c. AreGiven None (present (array_type y)) (λ vs. present_values vs) s t y c z)
        (sym r.offsets.1) (rows_offsets has)

-- ---- what an index over numbers names

-- the numbers alone are what is present
pub named_present : (j c : Column) (y : Layout) → IsOpened y (Optional j (flat c))
    → HasPresent y j (flat (numbers_at c (first_of (present_at j) (size_of j))))
named_present j c y op =
    let ks : List ℕ = first_of (present_at j) (size_of j) in
    moved_present j c (flat c) y (flat (numbers_at c ks)) op refl refl
    (omega (
      arith,
      length-map ks (λ k. get_or c.items k (pos 0)),
      present-few j (size_of j),
      op.valid.0,
    ))

pub named_spoilt : (class : Class) (s t : Column) (y : Layout) → AreLists class s t y
    → (j c : Column) → IsOpened y (Optional j (flat c)) → (o : Offsets) → AreRowOffsets j s t o
    → item_limit < o.total
    → drop_none_function.spoil (array_type y) (all_items_at s t y) ≡ Some Size
named_spoilt class s t y a j c op o r q =
    rows_spoilt class s t y a j (flat (numbers_at c (first_of (present_at j) (size_of j))))
    (named_present j c y op) o r q
