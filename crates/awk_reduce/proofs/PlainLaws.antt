-- Lists none of whose items is null: the numbers of their items as these lie.
use Rattle.std.proofs.Common.{◌≡◌, ◌≢◌, ℕ, zero, suc, ◌+◌, ◌-◌, ◌<◌, ◌≤◌, List, [], ◌∷◌, length}
use Rattle.std.proofs.Common.{take, drop, refl, ap, ap₂, sym, ◌∙◌, subst, arith, ltb-true}
use Rattle.std.specs.Prelude.{ℤ, pos, negsuc, ◌≤ℤ◌, nat_lt, Bool, true, false, position}
use Rattle.std.specs.Prelude.{Some}
use Rattle.std.specs.List.{slice_range}
use Rattle.std.specs.Ordering.{int_eq}
use Rattle.std.proofs.lemmas.Bool.{ltb-false}
use Rattle.std.proofs.lemmas.Int.{ints}
use Rattle.std.proofs.lemmas.List.{length-map}
use Rattle.awk_base.proofs.Ranges.{part-range}
use Rattle.awk_types.specs.ItemLimit.{item_limit}
use Rattle.awk_types.specs.Value.{Value, value_list}
use Rattle.awk_lanes.specs.Column.{Column}
use Rattle.awk_lanes.specs.Counted.{before}
use Rattle.awk_lanes.specs.Numbers.{element, nat_of}
use Rattle.awk_lanes.specs.Places.{size_of, at, place_at, IsSpan, AreSpans}
use Rattle.awk_lanes.specs.declared.kind.Kind.TheVariants.{I64}
use Rattle.awk_layout.specs.Item.{run}
use Rattle.awk_layout.specs.Layout.{Layout}
use Rattle.awk_layout.specs.Typing.{array_items}
use Rattle.awk_layout.specs.Valid.{len}
use Rattle.awk_layout.proofs.Runs.{value_list-run}
use Rattle.awk_layout.proofs.ArrayItems.{length-array_items}
use Rattle.awk_gather.specs.Arrays.{array_item}
use Rattle.awk_columns.specs.Lists.{Listed, AreLists}
use Rattle.awk_columns.proofs.ArrayLaws.{array_items-at}
use Rattle.awk_numbers.specs.Folds.{lane_numbers}
use Rattle.awk_parts.specs.Parts.{AreRising}
use Rattle.awk_parts.specs.Spans.{span_count, span_size, span_part, AreEnds}
use Rattle.awk_present.specs.Numbers.{numbers, number_place}
use Rattle.awk_present.specs.Present.{AreLeaves}
use Rattle.awk_present.proofs.PresentLaws.{leaves-count, plain_present}
use Rattle.awk_reduce.specs.Lists.{list_in, AreReady}
use Rattle.awk_reduce.specs.declared.ready.ReadyLists.{ReadyLists}
use Rattle.awk_reduce.proofs.SpanLaws.{start-is, stop-is, ends_spanned}

-- two offsets
abbrev two : ℕ → ℕ → Column
two a b = record { kind = I64; items = pos a ∷ pos b ∷ [] }

two_rise : (a b m : ℕ) → a ≤ b → b ≤ m → AreRising (two a b) 1 m
two_rise a b m p q = record {
  kind = tt;
  size = refl;
  positive = positive;
  ordered = ordered;
  within = within;
}
  where
    positive : (i : ℕ) → i ≤ 1 → pos 0 ≤ℤ at (two a b) i
    positive zero l = omega (arith, ints)
    positive (suc zero) l = omega (arith, ints)
    positive (suc (suc i)) l = absurd (omega (arith, l))

    ordered : (i : ℕ) → i < 1 → place_at (two a b) i ≤ place_at (two a b) (i + 1)
    ordered zero l = p
    ordered (suc i) l = absurd (omega (arith, l))

    within : (i : ℕ) → i ≤ 1 → place_at (two a b) i ≤ m
    within zero l = omega (arith, p, q)
    within (suc zero) l = q
    within (suc (suc i)) l = absurd (omega (arith, l))

nat-below : (b : ℤ) (n : ℕ) → b ≤ℤ pos n → nat_of b ≤ n
nat-below (pos k) n l = omega (arith, ints, l)
nat-below (negsuc k) n l = omega arith

-- numbers are those of values, and stand where these do
abbrev IsPlain : List ℤ → List Value → Type 0
IsPlain zs vs =
    (zs ≡ numbers vs)
    × ((q : ℕ) (z : ℤ) → position (int_eq z) zs ≡ Some q → number_place vs z ≡ Some q)

-- a part of leaves
module _ (y : Layout) (c : Column) (h : AreLeaves y c) (a b : ℤ)
    (span : IsSpan (size_of c) a b) where
  abbrev first : ℕ
  first = nat_of a

  abbrev last : ℕ
  last = nat_of b

  abbrev zs : List ℤ
  zs = slice_range (lane_numbers c) first last

  abbrev vs : List Value
  vs = value_list (run (array_item y) first (last - first))

  some_part : first < last → IsPlain zs vs
  some_part less =
      let apart : a ≢ b =
      λ e. let g : first ≡ last = ap nat_of e in omega (arith, g, less) in
      let within : last ≤ size_of c = nat-below b (size_of c) (span apart).2 in
      let count = leaves-count c y h in
      let p = plain_present c y h (two first last) 1
      (two_rise first last (length (array_items y)) (omega (arith, less))
      (omega (arith, within, count))) in
      let items : slice_range (array_items y) first last ≡ vs =
      ap (λ ws. slice_range ws first last) (array_items-at y)
      ∙ part-range (array_item y) (len y) first last (omega (arith, less))
      (omega (arith, within, count, length-array_items y))
      ∙ sym (value_list-run (array_item y) first (last - first)) in (
        p.parts 0 (omega arith) ∙ ap numbers items,
        λ q z e. ap (λ ws. number_place ws z) (sym items) ∙ p.places 0 q z (omega arith) e,
      )

  no_part : last ≤ first → IsPlain zs vs
  no_part l =
      let none : last - first ≡ 0 = omega (arith, l) in
      let no_numbers : zs ≡ [] = ap (λ k. take k (drop first (lane_numbers c))) none in
      let no_values : vs ≡ [] = ap (λ k. value_list (run (array_item y) first k)) none in (
        no_numbers ∙ sym (ap numbers no_values),
        λ q z e.
            let w : position (int_eq z) [] ≡ Some q =
            sym (ap (position (int_eq z)) no_numbers) ∙ e in
            cc,
      )

  pub plain_part : IsPlain zs vs
  plain_part = go (nat_lt first last) refl
    where
      go : (t : Bool) → nat_lt first last ≡ t → IsPlain zs vs
      go true e = some_part (ltb-true first last e)
      go false e = no_part (ltb-false first last e)

-- lists of which no item is null
module _ (x : ReadyLists)
    (lists : AreLists x.lists.now.class x.lists.now.starts x.lists.now.stops x.lists.now.content)
    (leaves : AreLeaves x.lists.now.content x.lane.now)
    (ends : AreEnds (size_of x.lists.now.starts) (at x.lists.now.starts) (at x.lists.now.stops)
    x.spans.now)
    (few : before (span_size x.spans.now) (span_count x.spans.now) ≤ item_limit) where
  abbrev c : Column
  c = x.lane.now

  abbrev l : Listed
  l = x.lists.now

  long : len l.content ≡ size_of c
  long = sym (length-array_items l.content) ∙ leaves-count c l.content leaves

  numbers-count : length (lane_numbers c) ≡ size_of c
  numbers-count = length-map c.items (element c.kind)

  plain : (i : ℕ) → i < size_of l.starts
      → IsPlain (slice_range (lane_numbers c) (place_at l.starts i) (place_at l.stops i))
      (list_in l i)
  plain i k =
      plain_part l.content c leaves (at l.starts i) (at l.stops i)
      (subst (λ n. IsSpan n (at l.starts i) (at l.stops i)) long (lists.spans.ordered i k))

  part : (i : ℕ) → i < size_of l.starts → span_part (lane_numbers c) x.spans.now i
      ≡ slice_range (lane_numbers c) (place_at l.starts i) (place_at l.stops i)
  part i k =
      ap₂ (slice_range (lane_numbers c)) (start-is l.starts l.stops x.spans.now ends i k)
      (stop-is l.starts l.stops x.spans.now ends i k)

  pub plain_ready : AreReady x
  plain_ready = record {
    kind = leaves.kind;
    spans = ends_spanned l.starts l.stops x.spans.now ends (lane_numbers c)
        (subst (AreSpans l.starts l.stops) (long ∙ sym numbers-count) lists.spans) few;
    fits = omega (arith, ends.starts, lists.fits);
    parts = λ i k.
        let k' : i < size_of l.starts = omega (arith, k, ends.starts) in
        part i k' ∙ (plain i k').0;
    places = λ i q z k e.
        let k' : i < size_of l.starts = omega (arith, k, ends.starts) in
        (plain i k').1 q z (sym (ap (position (int_eq z)) (part i k')) ∙ e);
  }
