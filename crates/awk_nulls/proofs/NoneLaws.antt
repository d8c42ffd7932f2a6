-- Truth values for the items of lists of a type that is no option: all are false, and no item is
-- looked at.
use Rattle.std.specs.Prelude.{◌≡◌, ℕ, ◌+◌, ◌-◌, ◌<◌, ◌≤◌, refl, false, map, sum}
use Rattle.std.specs.Prelude.{length, pos, Some, None}
use Rattle.std.specs.List.{range_with_len}
use Rattle.std.proofs.Common.{arith, ap, sym, ◌∙◌}
use Rattle.std.proofs.lemmas.List.{length-map}
use Rattle.std.proofs.lemmas.Simd.{map-map}
use Rattle.awk_types.specs.DataType.{leaf}
use Rattle.awk_types.specs.Predicates.{is_null}
use Rattle.awk_types.specs.Simple.{is_option, simple_value}
use Rattle.awk_types.specs.Value.{Value, truth, value_list}
use Rattle.awk_types.specs.ItemLimit.{item_limit}
use Rattle.awk_types.specs.declared.primitive.Primitive.TheVariants.{Bool as Truths}
use Rattle.awk_lanes.specs.declared.kind.Kind.TheVariants as kinds
use Rattle.awk_lanes.specs.Column.{Column}
use Rattle.awk_lanes.specs.Counted.{before, offsets_by}
use Rattle.awk_lanes.specs.Numbers.{is_nonzero}
use Rattle.awk_lanes.specs.Places.{size_of, at, place_at}
use Rattle.awk_lanes.proofs.CountedLanes.{before-next, before_mono, place-offsets, sum-before}
use Rattle.awk_lanes.proofs.MadeLanes.{size-lane_of, at-lane_of}
use Rattle.awk_layout.specs.Item.{run}
use Rattle.awk_layout.specs.Layout.{Layout, flat}
use Rattle.awk_layout.specs.Typing.{array_type}
use Rattle.awk_layout.specs.Valid.{len}
use Rattle.awk_layout.proofs.Runs.{run-moved}
use Rattle.awk_gather.specs.Arrays.{array_item}
use Rattle.awk_columns.specs.ListClass.{Class}
use Rattle.awk_columns.specs.Lists.{AreLists, items_at, all_items_at}
use Rattle.awk_columns.proofs.ArrayLaws.{run_map}
use Rattle.awk_list_functions.specs.Made.{AreGiven}
use Rattle.awk_list_functions.specs.Spoils.{too_many}
use Rattle.awk_list_functions.specs.declared.causes.Spoil.TheVariants.{Size}
use Rattle.awk_nulls.specs.IsNone.{nulls, is_none_function}
use Rattle.awk_nulls.specs.Lanes.{span_length, falses_lane}
use Rattle.awk_list_ends.proofs.SpanLaws.{start_there}
use Rattle.awk_nulls.proofs.NullLaws.{no_null}
use Rattle.awk_columns.proofs.OffsetLaws.{are_offsets, items_at-length, even_offsets}
use Rattle.awk_list_functions.proofs.SpoilLimits.{over_limit, within_limit}

module _ (class : Class) (s t : Column) (y : Layout) (a : AreLists class s t y)
    (plain : is_option (array_type y) ≡ false) where
  abbrev m : ℕ → ℕ
  m = span_length s t

  abbrev all : ℕ
  all = before m (size_of s)

  abbrev o : Column
  o = offsets_by m (size_of s)

  abbrev test : Value → Value
  test v = truth (is_null v)

  long : (i : ℕ) → i < size_of s → place_at o (i + 1) - place_at o i ≡ m i
  long i p =
      let b = place-offsets m (size_of s) i (omega (arith, p)) in
      let c = place-offsets m (size_of s) (i + 1) (omega (arith, p)) in
      omega (arith, b, c, before-next m i)

  shown : (i : ℕ) → i < size_of s → (k : ℕ) → k < m i
      → array_item (flat (falses_lane all)) (place_at o i + k)
      ≡ test (array_item y (place_at s i + k))
  shown i p k q =
      let b = start_there (len y) (at s i) (at t i) (a.spans.ordered i p) (omega (arith, q)) in
      let first = place-offsets m (size_of s) i (omega (arith, p)) in
      let up = before_mono m (i + 1) (size_of s) (omega (arith, p)) in
      let within : place_at o i + k < all = omega (arith, first, up, before-next m i, q) in
      ap (λ z. truth (is_nonzero z))
      (at-lane_of kinds.Bool all (λ j. pos 0) (place_at o i + k) within)
      ∙ ap truth (sym (no_null y (place_at s i + k) a.valid plain (omega (arith, q, b.1))))

  pub none_given : all ≤ item_limit
      → AreGiven class (leaf Truths) (λ vs. nulls vs) s t y o (flat (falses_lane all))
  none_given h = record {
    valid = omega (arith, h, size-lane_of kinds.Bool all (λ j. pos 0));
    offsets = rw (size-lane_of kinds.Bool all (λ j. pos 0)) (are_offsets m (size_of s) a.fits);
    even = even_offsets class s t a.same_class;
    typ = refl;
    lists = λ i p.
        ap (λ z. value_list (run (array_item (flat (falses_lane all))) (place_at o i) z)) (long i p)
        ∙ ap value_list (run-moved (array_item (flat (falses_lane all)))
        (λ k. test (array_item y k)) (place_at o i) (place_at s i) (m i) (λ k q. shown i p k q))
        ∙ sym (run_map test (array_item y) (place_at s i) (m i))
        ∙ sym (map-map (simple_value (leaf Truths)) test (items_at s t y i));
  }

  counted_is : sum (map (λ l. length (nulls l)) (all_items_at s t y)) ≡ all
  counted_is =
      ap sum (map-map (λ l. length (nulls l)) (items_at s t y) (range_with_len 0 (size_of s)))
      ∙ sum-before m (λ i. length (nulls (items_at s t y i)))
      (λ i. length-map (items_at s t y i) test ∙ items_at-length s t y i) (size_of s)

  pub none_spoilt : item_limit < all
      → is_none_function.spoil (array_type y) (all_items_at s t y) ≡ Some Size
  none_spoilt q = ap too_many counted_is ∙ over_limit all q

  pub none_fine : all ≤ item_limit
      → is_none_function.spoil (array_type y) (all_items_at s t y) ≡ None
  none_fine q = ap too_many counted_is ∙ within_limit all q
