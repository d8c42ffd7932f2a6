-- Lists of which none is padded and none is cut.
use Rattle.std.specs.Prelude.{◌≡◌, ℕ, ◌+◌, ◌-◌, ◌<◌, ◌≤◌, refl, Bool, List, length}
use Rattle.std.specs.Prelude.{map, get_or, Some}
use Rattle.std.specs.List.{range_with_len}
use Rattle.std.proofs.Common.{arith, ap, ap₂, sym, ◌∙◌, subst, ◌⊎◌, inl, inr}
use Rattle.std.proofs.lemmas.Bool.{cases_lt}
use Rattle.std.proofs.lemmas.List.FromFn.{fill_by_all}
use Rattle.awk_types.specs.DataType.{opt}
use Rattle.awk_types.specs.Simple.{simple_value, option_of}
use Rattle.awk_types.specs.Value.{Value, null, value_list}
use Rattle.awk_types.proofs.SimpleLaws.{simple_twice}
use Rattle.awk_lanes.specs.Column.{Column}
use Rattle.awk_lanes.specs.Counted.{before, offsets_by}
use Rattle.awk_lanes.specs.Places.{size_of, place_at}
use Rattle.awk_lanes.proofs.CountedLanes.{before-next, before-same, place-offsets}
use Rattle.awk_layout.specs.Laws.{len-fits}
use Rattle.awk_layout.specs.Layout.{Layout, unmasked}
use Rattle.awk_layout.specs.Item.{run}
use Rattle.awk_layout.specs.Typing.{layout_type, array_type}
use Rattle.awk_layout.specs.Valid.{len}
use Rattle.awk_layout.proofs.Runs.{run-same}
use Rattle.awk_gather.specs.Arrays.{array_item}
use Rattle.awk_gather.proofs.OptionItems.{item-unmasked}
use Rattle.awk_columns.specs.Joined.{AreOffsets}
use Rattle.awk_columns.specs.ListClass.{Class}
use Rattle.awk_columns.specs.Lists.{span_length, AreLists, items_at}
use Rattle.awk_columns.proofs.ArrayLaws.{run_map}
use Rattle.awk_columns.proofs.OffsetLaws.{are_offsets, offset-length, items_at-length}
use Rattle.awk_list_ends.proofs.FillingLaws.{full_more, run_from}
use Rattle.awk_option_nodes.proofs.OptionNodes.{HasItems, option_stays}
use Rattle.awk_padding.specs.Lanes.{padded_span, ArePadded, AreUnpadded}
use Rattle.awk_padding.specs.PadNone.{padded, padded_length}
use Rattle.awk_padding.proofs.PadGiven.{even_lists}

-- ---- lists of which none is padded

-- a list that is not padded stays
padded_same : (n : ℕ) (clip : Bool) (vs : List Value) → padded_length n clip (length vs) ≡ length vs
    → padded n clip vs ≡ vs
padded_same n clip vs e =
    ap (λ k. map (λ i. get_or vs i null) (range_with_len 0 k)) e
    ∙ sym (fill_by_all (λ i. get_or vs i null) vs (length vs) null refl (λ k p. refl))

-- items of an array stay as optional ones
run_optional : (y : Layout) → HasItems y → (a n : ℕ) → a + n ≤ len y
    → map (simple_value (opt (array_type y))) (value_list (run (array_item y) a n))
    ≡ value_list (run (array_item y) a n)
run_optional y h a n p =
    run_map (simple_value (opt (array_type y))) (array_item y) a n
    ∙ ap value_list (run-same (λ k. simple_value (opt (array_type y)) (array_item y k))
    (array_item y) a n
    (λ k _ q. option_stays y h (Some k)
    (λ j e. subst (λ m. m < len y) (some_is k j e) (omega (arith, q, p)))))
  where
    some_is : (k j : ℕ) → Some k ≡ Some j → k ≡ j
    some_is k j e = cc

module _ (n : ℕ) (clip : Bool) (class : Class) (s t : Column) (y : Layout)
    (a : AreLists class s t y) (u : AreUnpadded n clip s t (len y)) where
  abbrev m : ℕ → ℕ
  m = padded_span n clip s t

  abbrev offsets : Column
  offsets = offsets_by (padded_span n clip s t) (size_of s)

  before_is : (i : ℕ) → i ≤ size_of s
      → before (padded_span n clip s t) i ≡ before (span_length s t) i
  before_is i p =
      before-same (padded_span n clip s t) (span_length s t) i
      (λ k q. u.lengths k (omega (arith, p, q)))

  whole_offsets : AreOffsets offsets (size_of s) (len y)
  whole_offsets =
      subst (AreOffsets offsets (size_of s))
      (before_is (size_of s) (omega arith) ∙ u.full.whole)
      (are_offsets (padded_span n clip s t) (size_of s) a.fits)

  list_is : (i : ℕ) → i < size_of s
      → value_list (run (array_item y) (place_at offsets i)
      (place_at offsets (i + 1) - place_at offsets i)) ≡ items_at s t y i
  list_is i p =
      let first : place_at offsets i ≡ before (span_length s t) i =
      place-offsets (padded_span n clip s t) (size_of s) i (omega (arith, p))
      ∙ before_is i (omega (arith, p)) in
      let size : place_at offsets (i + 1) - place_at offsets i ≡ span_length s t i =
      offset-length (padded_span n clip s t) (size_of s) i p ∙ u.lengths i p in
      ap₂ (λ k l. value_list (run (array_item y) k l)) first size
      ∙ sym (run_from (array_item y) (place_at s i) (before (span_length s t) i)
      (span_length s t i) (u.full.places i p))

  pub unpadded_given : HasItems y → ArePadded n clip s t y (unmasked (len y) y)
  unpadded_given has = record {
    valid = (omega (arith, len-fits y a.valid), omega arith, a.valid);
    offsets = whole_offsets;
    even = even_lists n clip s t (size_of s);
    typ = ap option_of (sym (simple_twice (layout_type y)));
    lists = λ i p.
        let first : ℕ = place_at offsets i in
        let size : ℕ = place_at offsets (i + 1) - place_at offsets i in
        let within = whole_offsets.within i p in
        let same : padded n clip (items_at s t y i) ≡ items_at s t y i =
        padded_same n clip (items_at s t y i)
        (ap (padded_length n clip) (items_at-length s t y i) ∙ u.lengths i p
        ∙ sym (items_at-length s t y i)) in
        ap value_list (run-same (array_item (unmasked (len y) y)) (array_item y) first size
        (λ k _ _. item-unmasked (len y) y k))
        ∙ sym (run_optional y has first size within)
        ∙ ap (map (simple_value (opt (array_type y)))) (list_is i p ∙ sym same);
  }

-- ---- while lists are looked at

pub record IsUnpaddedSoFar (n : ℕ) (clip : Bool) (s t : Column) (whole place i : ℕ) : Type 0 where
  pub here : place ≡ before (span_length s t) i
  pub within : place ≤ whole
  pub lists : (k : ℕ) → k < i → 0 < span_length s t k → place_at s k ≡ before (span_length s t) k
  pub lengths : (k : ℕ) → k < i → padded_span n clip s t k ≡ span_length s t k

-- one list more
pub unpadded_more : (n : ℕ) (clip : Bool) (s t : Column) (whole place i long : ℕ)
    → IsUnpaddedSoFar n clip s t whole place i → long ≡ span_length s t i
    → (0 < span_length s t i → place ≡ place_at s i) → place + long ≤ whole
    → padded_length n clip long ≡ long
    → IsUnpaddedSoFar n clip s t whole (place + long) (i + 1)
unpadded_more n clip s t whole place i long h e begins within stays = record {
  here = omega (arith, h.here, e, before-next (span_length s t) i);
  within = within;
  lists = full_more s t i place h.lists h.here begins;
  lengths = λ k l. earlier_or_last k l (cases_lt k i);
}
  where
    earlier_or_last : (k : ℕ) → k < i + 1 → (k < i) ⊎ (i ≤ k)
        → padded_span n clip s t k ≡ span_length s t k
    earlier_or_last k l (inl p) = h.lengths k p
    earlier_or_last k l (inr p) =
        let same : i ≡ k = omega (arith, l, p) in
        subst (λ m. padded_span n clip s t m ≡ span_length s t m) same
        (subst (λ m. padded_length n clip m ≡ m) e stays)

-- all lists, up to the last item
pub unpadded_done : (n : ℕ) (clip : Bool) (s t : Column) (whole place i : ℕ)
    → IsUnpaddedSoFar n clip s t whole place i → i ≡ size_of s → place ≡ whole
    → AreUnpadded n clip s t whole
unpadded_done n clip s t whole place i h done last = record {
  full = record {
    places = λ k l. h.lists k (omega (arith, l, done));
    whole = ap (before (span_length s t)) (sym done) ∙ sym h.here ∙ last;
  };
  lengths = λ k l. h.lengths k (omega (arith, l, done));
}
