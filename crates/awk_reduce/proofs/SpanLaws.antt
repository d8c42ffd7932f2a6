-- Parts of numbers by starts and stops.
use Rattle.std.proofs.Common.{◌≡◌, ℕ, ◌-◌, ◌<◌, ◌≤◌, List, length, ap, ap₂, sym, ◌∙◌, subst, arith}
use Rattle.std.proofs.Common.{refl, ltb-true}
use Rattle.std.specs.Prelude.{ℤ, pos, negsuc, Bool, true, false, nat_lt}
use Rattle.std.proofs.lemmas.Bool.{ltb-false}
use Rattle.std.proofs.lemmas.Int.{ints}
use Rattle.awk_types.specs.ItemLimit.{item_limit}
use Rattle.awk_lanes.specs.Column.{Column}
use Rattle.awk_lanes.specs.Counted.{before}
use Rattle.awk_lanes.specs.Numbers.{nat_of}
use Rattle.awk_lanes.specs.Places.{size_of, at, place_at, IsSpan, AreSpans}
use Rattle.awk_lanes.proofs.CountedLanes.{before-same, one_within}
use Rattle.awk_lanes.proofs.PlaceLaws.{span-wider}
use Rattle.awk_columns.specs.Lists.{span_length}
use Rattle.awk_parts.specs.Spans.{end_at, start_of, stop_of, span_count, span_size}
use Rattle.awk_parts.specs.Spans.{AreEnds, AreOrdered, AreSpanned}
use Rattle.awk_parts.specs.declared.parts.Spans.{Spans}

-- ---- by starts and stops

-- of the same lanes
pub ends_same : (s t u v : Column) (p : Spans) → s ≡ u → t ≡ v
    → AreEnds (size_of s) (at s) (at t) p → AreEnds (size_of u) (at u) (at v) p
ends_same s t u v p e f h =
    subst (λ c. AreEnds (size_of u) (at u) (at c) p) f
    (subst (λ c. AreEnds (size_of c) (at c) (at t) p) e h)

module _ (s t : Column) (p : Spans) (ends : AreEnds (size_of s) (at s) (at t) p) where
  pub start-is : (i : ℕ) → i < size_of s → start_of p i ≡ place_at s i
  start-is i l = ap nat_of (ends.start i l)

  pub stop-is : (i : ℕ) → i < size_of s → stop_of p i ≡ place_at t i
  stop-is i l = ap nat_of (ends.stop i l)

  pub size-is : (i : ℕ) → i < size_of s → span_size p i ≡ span_length s t i
  size-is i l = ap₂ (λ a b. a - b) (stop-is i l) (start-is i l)

  pub before-is : before (span_size p) (span_count p) ≡ before (span_length s t) (size_of s)
  before-is =
      ap (before (span_size p)) ends.starts
      ∙ before-same (span_size p) (span_length s t) (size_of s) size-is

  pub ends_ordered : (n m : ℕ) → AreSpans s t n → n ≤ m → AreOrdered m p
  ends_ordered n m spans l = record {
    same = ends.stops ∙ sym ends.starts;
    spans = λ i k.
        let k' : i < size_of s = omega (arith, k, ends.starts) in
        subst (λ a. IsSpan m a (end_at p.stops.now i)) (sym (ends.start i k'))
        (subst (λ b. IsSpan m (at s i) b) (sym (ends.stop i k'))
        (span-wider n m (at s i) (at t i) l (spans.ordered i k')));
  }

  pub ends_spanned : (zs : List ℤ) → AreSpans s t (length zs)
      → before (span_size p) (span_count p) ≤ item_limit → AreSpanned zs p
  ends_spanned zs spans few = record {
    ordered = ends_ordered (length zs) (length zs) spans (omega arith);
    few = λ i l. omega (arith, one_within (span_size p) (span_count p) i l, few);
  }

-- ---- within a content

-- a list has no more items than its content
pub span-size : (n : ℕ) (a b : ℤ) → IsSpan n a b → nat_of b - nat_of a ≤ n
span-size n (pos a) (pos b) h = by (nat_lt a b) refl
  where
    by : (t : Bool) → nat_lt a b ≡ t → b - a ≤ n
    by true e =
        let l : a < b = ltb-true a b e in
        let f = h (λ e. let g : a ≡ b = ap nat_of e in omega (arith, g, l)) in
        omega (arith, ints, f.2)
    by false e = omega (arith, ltb-false a b e)
span-size n (pos a) (negsuc b) h = omega arith
span-size n (negsuc a) (pos b) h =
    let f = h (λ e. cc) in
    omega (arith, ints, f.2)
span-size n (negsuc a) (negsuc b) h = omega arith

module _ (n : ℕ) (p : Spans) (h : AreOrdered n p) where
  pub ordered_wider : (m : ℕ) → n ≤ m → AreOrdered m p
  ordered_wider m l = record {
    same = h.same;
    spans = λ i k. span-wider n m (end_at p.starts.now i) (end_at p.stops.now i) l (h.spans i k);
  }

  pub ordered_short : (i : ℕ) → i < span_count p → span_size p i ≤ n
  ordered_short i l = span-size n (end_at p.starts.now i) (end_at p.stops.now i) (h.spans i l)

pub lists_short : (s t : Column) (n : ℕ) → AreSpans s t n
    → (i : ℕ) → i < size_of s → span_length s t i ≤ n
lists_short s t n h i l = span-size n (at s i) (at t i) (h.ordered i l)
