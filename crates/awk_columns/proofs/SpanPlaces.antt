-- The places of the items of lists, one list after another.
use Rattle.std.proofs.Common.{◌≡◌, ℕ, suc, zero, ◌+◌, ◌<◌, ◌≤◌, [], ◌∷◌, ◌++◌, length, get_or}
use Rattle.std.proofs.Common.{arith, refl, ap, ap₂, sym, ◌∙◌, subst}
use Rattle.std.specs.Prelude.{ℤ, pos}
use Rattle.std.specs.List.{range_with_len}
use Rattle.std.proofs.lemmas.List.{append_assoc, append-nil, length-append, length-map}
use Rattle.std.proofs.lemmas.List.FromFn.{length-range_with_len, get_or-range_with_len}
use Rattle.awk_base.proofs.Ranges.{range-append}
use Rattle.awk_lanes.specs.Column.{Column}
use Rattle.awk_lanes.specs.Making.{Making, with_item}
use Rattle.awk_lanes.specs.Numbers.{nat_of}
use Rattle.awk_lanes.specs.Places.{size_of}
use Rattle.awk_counts.specs.Counted.{first_of, span_at, spans, places_lane, IsRow, IsRun}
use Rattle.awk_counts.proofs.FirstPlaces.{first_of-more, length-first_of, first_of-room}
use Rattle.awk_counts.proofs.PlaceLanes.{ArePlaces, places_pushed, places_room}
use Rattle.awk_columns.proofs.ReachedContents.{at-places_lane}

pub range-more : (a k : ℕ) → range_with_len a (k + 1) ≡ range_with_len a k ++ (a + k) ∷ []
range-more a k = range-append a k 1

-- one list more, of m items from a on
pub span-count : (s t : Column) (i a m : ℕ) → range_with_len a m ≡ span_at s t i
    → length (first_of (span_at s t) (i + 1)) ≡ length (first_of (span_at s t) i) + m
span-count s t i a m e =
    let w : length (span_at s t i) ≡ m = ap length (sym e) ∙ length-range_with_len a m in
    omega (arith, length-first_of (span_at s t) i, w)

pub span-room : (s t : Column) (i a m : ℕ) → range_with_len a m ≡ span_at s t i → i < size_of s
    → length (first_of (span_at s t) i) + m ≤ length (spans s t)
span-room s t i a m e l =
    let w : length (span_at s t i) ≡ m = ap length (sym e) ∙ length-range_with_len a m in
    omega (arith, first_of-room (span_at s t) i (size_of s) l, w)

-- ---- lists in a row

row_part : (first l a m : ℕ) → (0 < m → a ≡ first + l)
    → range_with_len a m ≡ range_with_len (first + l) m
row_part first l a zero h = refl
row_part first l a (suc m) h = ap (λ b. range_with_len b (suc m)) (h (omega arith))

pub row_more : (s t : Column) (i first end a m : ℕ) → range_with_len a m ≡ span_at s t i
    → end ≡ first + length (first_of (span_at s t) i) → (0 < m → a ≡ end)
    → first_of (span_at s t) i ≡ range_with_len first (length (first_of (span_at s t) i))
    → first_of (span_at s t) (i + 1) ≡ range_with_len first
    (length (first_of (span_at s t) (i + 1)))
row_more s t i first end a m e f g h =
    let l = length (first_of (span_at s t) i) in
    first_of-more (span_at s t) i
    ∙ ap₂ (λ ks ls. ks ++ ls) h (sym e ∙ row_part first l a m (λ p. g p ∙ f))
    ∙ sym (range-append first l m)
    ∙ ap (range_with_len first) (sym (span-count s t i a m e))

-- the places of lists in a row are a run
pub row_run : (s t : Column) (n first : ℕ) → IsRow s t n first
    → IsRun (places_lane (spans s t)) n first
row_run s t n first h = record {
  within = omega (arith, h.within, length-map (spans s t) (λ k. pos k));
  places = λ i l.
      let l' : i < length (spans s t) = omega (arith, length-map (spans s t) (λ k. pos k)) in
      ap nat_of (at-places_lane (spans s t) i l') ∙ ap (λ ks. get_or ks i 0) h.places ∙
      get_or-range_with_len first (length (spans s t)) i 0 l';
}

-- ---- while the places are made

pub spans_begun : (s t : Column) (n i a : ℕ) (m : Making)
    → ArePlaces n (first_of (span_at s t) i) m
    → ArePlaces n (first_of (span_at s t) i ++ range_with_len a 0) m
spans_begun s t n i a m h =
    subst (λ ks. ArePlaces n ks m) (sym (append-nil (first_of (span_at s t) i))) h

pub spans_pushed : (s t : Column) (n i a k : ℕ) (z : ℤ) (old new : Making) → new ≡ with_item old z
    → z ≡ pos (a + k) → ArePlaces n (first_of (span_at s t) i ++ range_with_len a k) old
    → ArePlaces n (first_of (span_at s t) i ++ range_with_len a (k + 1)) new
spans_pushed s t n i a k z old new e g h =
    subst (λ ks. ArePlaces n ks new) (append_assoc (first_of (span_at s t) i) (range_with_len a k)
    ((a + k) ∷ []) ∙ ap (λ ks. first_of (span_at s t) i ++ ks) (sym (range-more a k)))
    (places_pushed n (first_of (span_at s t) i ++ range_with_len a k) (a + k) z old new e g h)

pub spans_next : (s t : Column) (n i a k m : ℕ) (made : Making)
    → range_with_len a m ≡ span_at s t i → k ≡ m
    → ArePlaces n (first_of (span_at s t) i ++ range_with_len a k) made
    → ArePlaces n (first_of (span_at s t) (i + 1)) made
spans_next s t n i a k m made e f h =
    subst (λ ks. ArePlaces n ks made) (ap (λ w. first_of (span_at s t) i ++ range_with_len a w) f ∙
    ap (λ ks. first_of (span_at s t) i ++ ks) e ∙ sym (first_of-more (span_at s t) i)) h

pub spans_room : (s t : Column) (n i a k m : ℕ) (made : Making) → n ≡ length (spans s t)
    → range_with_len a m ≡ span_at s t i → i < size_of s → k < m
    → ArePlaces n (first_of (span_at s t) i ++ range_with_len a k) made
    → length made.items < made.room
spans_room s t n i a k m made g e l q h =
    places_room n (first_of (span_at s t) i ++ range_with_len a k) made
    (omega (
      arith,
      length-append (first_of (span_at s t) i) (range_with_len a k),
      length-range_with_len a k,
      span-room s t i a m e l,
    )) h
