-- How many items lists in a row have together.
use Rattle.std.specs.Prelude.{◌≡◌, ◌≢◌, ℕ, zero, suc, ◌+◌, ◌-◌, ◌<◌, ◌≤◌, ℤ, pos, negsuc}
use Rattle.std.proofs.Common.{arith, ap, inl, inr, ◌∙◌}
use Rattle.std.proofs.lemmas.Int.{ints}
use Rattle.std.proofs.lemmas.Bool.{cases_lt}
use Rattle.awk_lanes.specs.Column.{Column}
use Rattle.awk_lanes.specs.Counted.{before}
use Rattle.awk_lanes.specs.Numbers.{nat_of}
use Rattle.awk_lanes.specs.Places.{size_of, place_at, AreSpans, IsSpan}
use Rattle.awk_columns.specs.Lists.{span_length, AreInRow}

pos_rises : (n k l : ℕ) → IsSpan n (pos k) (pos l) → k ≤ l
pos_rises n k l h = elim (cases_lt l k) as (λ _. k ≤ l) [
  | inl p ↦
      let d : pos k ≢ pos l = λ e. let f : k ≡ l = ap nat_of e in omega (arith, f, p) in
      omega (arith, ints, (h d).1)
  | inr p ↦ p
]

-- no list ends before it begins
pub span_rises : (n : ℕ) (a b : ℤ) → IsSpan n a b → nat_of a ≤ nat_of b
span_rises n (pos k) (pos l) h = pos_rises n k l h
span_rises n (pos k) (negsuc l) h =
    let d : pos k ≢ negsuc l = λ e. cc in
    absurd (omega (arith, ints, (h d).1))
span_rises n (negsuc k) b h = omega arith

module _ (s t : Column) (n : ℕ) (h : AreSpans s t n) (r : AreInRow s t) where
  rises : (i : ℕ) → i < size_of s → place_at s i ≤ place_at t i
  rises i l = span_rises n _ _ (h.ordered i l)

  ahead : (k : ℕ) → suc k ≡ k + 1
  ahead k = omega arith

  -- what the first lists have together reaches from where they begin to where they end
  row_reach : (k : ℕ) → k < size_of s
      → place_at s 0 + before (span_length s t) (suc k) ≡ place_at t k
  row_reach zero l = let a = rises 0 l in omega (arith, a)
  row_reach (suc k) l =
      let so_far = row_reach k (omega (arith, l)) in
      let meet : place_at s (suc k) ≡ place_at t k =
      ap (λ i. place_at s i) (ahead k) ∙ ap nat_of (r k (omega (arith, l))) in
      let a = rises (suc k) l in
      omega (arith, so_far, meet, a)

  pub row_total : (m : ℕ) → m ≡ size_of s → 0 < m
      → place_at s 0 + before (span_length s t) m ≡ place_at t (m - 1)
  row_total zero e l = omega (arith, l)
  row_total (suc k) e l =
      let last : k ≡ suc k - 1 = omega arith in
      row_reach k (omega (arith, e)) ∙ ap (λ i. place_at t i) last
