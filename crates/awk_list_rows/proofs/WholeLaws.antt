-- Lanes that have the same bytes, and lists whose items lie in a row.
use Rattle.std.proofs.Common.{◌≡◌, ◌≢◌, ℕ, zero, suc, ◌+◌, ◌-◌, ◌<◌, ◌≤◌, Bool, true, false, refl}
use Rattle.std.proofs.Common.{ap, arith, sym, subst, ◌∙◌}
use Rattle.std.specs.Prelude.{List, length, slice_range, nat_lt, ℤ, pos, negsuc, ◌≤ℤ◌, Option}
use Rattle.std.specs.Prelude.{IfSome}
use Rattle.std.specs.List.{range_with_len}
use Rattle.std.proofs.lemmas.Int.{ints}
use Rattle.std.proofs.lemmas.List.FromFn.{length-range_with_len}
use Rattle.awk_lanes.specs.Column.{Column}
use Rattle.awk_lanes.specs.Counted.{before}
use Rattle.awk_lanes.specs.Cut.{cut_of}
use Rattle.awk_lanes.specs.Numbers.{nat_of}
use Rattle.awk_lanes.specs.Places.{size_of, at, place_at, option_place, IsSpan, AreSpans}
use Rattle.awk_lanes.proofs.PlaceLaws.{pos-nat_of}
use Rattle.awk_lanes.proofs.CutLaws.{at-cut}
use Rattle.awk_layout.specs.Layout.{Layout}
use Rattle.awk_layout.specs.Typing.{array_type, array_items}
use Rattle.awk_layout.specs.Valid.{len}
use Rattle.awk_counts.specs.Counted.{first_of, span_at, spans}
use Rattle.awk_counts.proofs.FirstPlaces.{length-first_of}
use Rattle.awk_columns.specs.Lists.{Listed, AreLists, length_of}
use Rattle.awk_columns.specs.Reached.{IsReached}
use Rattle.awk_columns.proofs.JoinedLists.{row_reached}
use Rattle.awk_columns.proofs.SpanPlaces.{row_more, span-count}
use Rattle.awk_list_rows.specs.InRow.{LieInRow}

-- ---- lists in a row

pos-up : (n a b : ℕ) (c : Bool) → nat_lt b a ≡ c → IsSpan n (pos a) (pos b) → a ≤ b
pos-up n a b true e h =
    let l : b < a = grind (arith, e) in
    let d : pos a ≢ pos b = λ f. let g : a ≡ b = ap nat_of f in omega (arith, g, l) in
    absurd (omega (arith, ints, l, (h d).1))
pos-up n a b false e h = grind (arith, e)

-- a span that begins at a place ends at one
pub span-up : (n : ℕ) (a b : ℤ) → IsSpan n a b → pos 0 ≤ℤ a
    → (pos 0 ≤ℤ b) × (nat_of a ≤ nat_of b)
span-up n (pos a) (pos b) h p = (omega (arith, ints), pos-up n a b (nat_lt b a) refl h)
span-up n (pos a) (negsuc b) h p =
    let d : pos a ≢ negsuc b = λ e. cc in absurd (omega (arith, ints, (h d).1))
span-up n (negsuc a) b h p = absurd (omega (arith, ints, p))

module _ (s t : Column) (n first : ℕ) (h : AreSpans s t n) where
  abbrev Begins : ℕ → Type 0
  Begins i = at s i ≡ pos (first + length (first_of (span_at s t) i))

  abbrev InRow : ℕ → Type 0
  InRow i =
      first_of (span_at s t) i ≡ range_with_len first (length (first_of (span_at s t) i))

  row-next : (i : ℕ) → Begins i → InRow i → InRow (i + 1)
  row-next i b r =
      row_more s t i first (first + length (first_of (span_at s t) i)) (place_at s i)
      (place_at t i - place_at s i) refl refl (λ l. ap nat_of b) r

  begins-next : (i : ℕ) → i < size_of s → at s (i + 1) ≡ at t i → Begins i → Begins (i + 1)
  begins-next i l e b =
      let z : pos 0 ≤ℤ at s i = subst (λ a. pos 0 ≤ℤ a) (sym b) (omega (arith, ints)) in
      let u : (pos 0 ≤ℤ at t i) × (place_at s i ≤ place_at t i) =
      span-up n (at s i) (at t i) (h.ordered i l) z in
      let c : place_at s i ≡ first + length (first_of (span_at s t) i) = ap nat_of b in
      let q : place_at t i ≡ first + length (first_of (span_at s t) (i + 1)) =
      omega (arith, c, u.1, span-count s t i (place_at s i) (place_at t i - place_at s i) refl) in
      e ∙ pos-nat_of (at t i) u.0 ∙ ap (λ k. pos k) q

  row-from : at s 0 ≡ pos first → ((i : ℕ) → i + 1 < size_of s → at s (i + 1) ≡ at t i) → (i : ℕ)
      → i < size_of s → Begins i × InRow i
  row-from b e zero l =
      let f : first ≡ first + 0 = omega arith in (b ∙ ap (λ k. pos k) f, refl)
  row-from b e (suc i) l =
      let g : suc i ≡ i + 1 = omega arith in
      let p : Begins i × InRow i = row-from b e i (omega (arith, l)) in
      subst (λ j. Begins j × InRow j) (sym g)
      (begins-next i (omega (arith, l)) (e i (omega (arith, l))) p.0, row-next i p.0 p.1)

  row-all : at s 0 ≡ pos first → ((i : ℕ) → i + 1 < size_of s → at s (i + 1) ≡ at t i) → (k : ℕ)
      → size_of s ≡ suc k → LieInRow s t first
  row-all b e k g =
      let p : Begins k × InRow k = row-from b e k (omega (arith, g)) in
      let w : k + 1 ≡ size_of s = omega (arith, g) in
      subst (λ j. first_of (span_at s t) j
      ≡ range_with_len first (length (first_of (span_at s t) j))) w (row-next k p.0 p.1)

pred-of : (n : ℕ) → 0 < n → n ≡ suc (n - 1)
pred-of n h = omega (arith, h)

-- each list begins where the one before ends
pub lie_in_row : (s t : Column) (m n first : ℕ) → AreSpans s t m → n ≡ size_of s → 0 < n
    → cut_of s 1 n ≡ cut_of t 0 (n - 1) → at s 0 ≡ pos first → LieInRow s t first
lie_in_row s t m n first h e l f b =
    row-all s t m first h b
    (λ i q.
    let w : 1 + i ≡ i + 1 = omega arith in
    let v : 0 + i ≡ i = omega arith in
    ap (at s) (sym w) ∙ sym (at-cut s 1 n i (omega (arith, e, q)))
    ∙ ap (λ c. at c i) f ∙ at-cut t 0 (n - 1) i (omega (arith, e, q))
    ∙ ap (at t) v)
    (size_of s - 1) (pred-of (size_of s) (omega (arith, e, l)))

row-place : (s t : Column) (z : ℤ) → ((first : ℕ) → z ≡ pos first → LieInRow s t first)
    → IfSome (option_place z) (LieInRow s t)
row-place s t (pos k) h = h k refl
row-place s t (negsuc k) h = tt

-- where the first list begins, if it is a place
pub row_found : (s t : Column) (m n : ℕ) (r : Option ℕ) → AreSpans s t m → n ≡ size_of s → 0 < n
    → cut_of s 1 n ≡ cut_of t 0 (n - 1) → r ≡ option_place (at s 0) → IfSome r (LieInRow s t)
row_found s t m n r h e l f g =
    subst (λ o. IfSome o (LieInRow s t)) (sym g)
    (row-place s t (at s 0) (λ first b. lie_in_row s t m n first h e l f b))

-- ---- their items

-- how many items the first lists have together
pub spans-before : (l : Listed) (i : ℕ)
    → length (first_of (span_at l.starts l.stops) i) ≡ before (length_of l) i
spans-before l zero = refl
spans-before l (suc i) =
    let e : i + 1 ≡ suc i = omega arith in
    let f : ℕ → List ℕ = span_at l.starts l.stops in
    ap (λ n. length (first_of f n)) (sym e)
    ∙ omega (
      arith,
      length-first_of f i,
      spans-before l i,
      length-range_with_len (place_at l.starts i) (length_of l i),
    )

pub row_items : (l : Listed) (r : Layout) (first n : ℕ)
    → AreLists l.class l.starts l.stops l.content → LieInRow l.starts l.stops first
    → n ≡ before (length_of l) (size_of l.starts) → first ≤ len l.content
    → n ≤ len l.content - first → array_type r ≡ array_type l.content
    → array_items r ≡ slice_range (array_items l.content) first (first + n)
    → IsReached l.content (spans l.starts l.stops) r
row_items l r first n h p e a b t i =
    let k : n ≡ length (spans l.starts l.stops) =
    e ∙ sym (spans-before l (size_of l.starts)) in
    row_reached l.starts l.stops l.content r first n h.spans
    (record { within = omega (arith, a, b, k); places = p }) k t i
