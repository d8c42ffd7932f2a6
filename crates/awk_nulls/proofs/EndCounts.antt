-- Where lists begin and end among the items that are present, while these are counted.
use Rattle.std.proofs.Common.{◌≡◌, ℕ, zero, suc, ◌+◌, ◌<◌, ◌≤◌, map, arith, refl, ap}
use Rattle.std.proofs.Common.{sym, ◌∙◌}
use Rattle.std.specs.Prelude.{ℤ, pos}
use Rattle.std.specs.List.{range_with_len}
use Rattle.awk_lanes.specs.Column.{Column}
use Rattle.awk_lanes.specs.Made.{lane_of}
use Rattle.awk_lanes.specs.Making.{Making}
use Rattle.awk_lanes.specs.Places.{size_of, at, place_at}
use Rattle.awk_lanes.specs.declared.kind.Kind.TheVariants.{I64}
use Rattle.awk_lanes.proofs.MadeLanes.{IsSoFar, at-lane_of}
use Rattle.awk_layout.specs.Layout.{Layout}
use Rattle.awk_layout.specs.Valid.{len}
use Rattle.awk_columns.specs.ListClass.{Class}
use Rattle.awk_columns.specs.Lists.{span_length, AreLists}
use Rattle.awk_counts.specs.Present.{present_lane}
use Rattle.awk_list_ends.proofs.EndLaws.{end_number}
use Rattle.awk_list_ends.proofs.SpanLaws.{stop_there}
use Rattle.awk_nulls.specs.Lanes.{present_before}

-- the numbers at the starts and at the stops of lists
abbrev pub start_number : Column → Column → Column → ℕ → ℤ
start_number j s t i = end_number (span_length s t i) (at (present_lane j) (place_at s i))

abbrev pub stop_number : Column → Column → Column → ℕ → ℤ
stop_number j s t i = end_number (span_length s t i) (at (present_lane j) (place_at t i))

pub at-present : (j : Column) (k : ℕ) → k ≤ size_of j
    → at (present_lane j) k ≡ pos (present_before j k)
at-present j k l =
    at-lane_of I64 (size_of j + 1) (λ i. pos (present_before j i)) k (omega (arith, l))

-- the count at a place is the number there
count_at : (j : Column) (n a b count : ℕ) → (0 < n → a ≡ b) → a ≤ size_of j
    → count ≡ present_before j a
    → end_number n (pos count) ≡ end_number n (at (present_lane j) b)
count_at j zero a b count h l e = refl
count_at j (suc n) a b count h l e =
    ap (λ k. end_number (suc n) (pos k)) e
    ∙ ap (end_number (suc n)) (sym (at-present j a l))
    ∙ ap (λ k. end_number (suc n) (at (present_lane j) k)) (h (omega arith))

-- the same at an end of a list of a length that is known
pub end_is : (j : Column) (n m a b count : ℕ) (z : ℤ) → n ≡ m → (0 < m → a ≡ b) → a ≤ size_of j
    → count ≡ present_before j a → z ≡ end_number n (pos count)
    → z ≡ end_number m (at (present_lane j) b)
end_is j n m a b count z e h l c f =
    f ∙ ap (λ k. end_number k (pos count)) e ∙ count_at j m a b count h l c

-- where a list stops, from where it begins
pub stop_is : (class : Class) (s t : Column) (y : Layout) (i start : ℕ) → AreLists class s t y
    → i < size_of s → (0 < span_length s t i → start ≡ place_at s i)
    → 0 < span_length s t i → start + span_length s t i ≡ place_at t i
stop_is class s t y i start a l h q =
    omega (arith, h q, (stop_there (len y) (at s i) (at t i) (a.spans.ordered i l) q).1)

-- the numbers that are made so far
pub record AreSoFar (j s t : Column) (reached many i : ℕ) (firsts lasts : Making) : Type 0 where
  pub place : reached ≤ size_of j
  pub count : many ≡ present_before j reached
  pub starts : IsSoFar I64 (size_of s) (start_number j s t) i firsts
  pub stops : IsSoFar I64 (size_of s) (stop_number j s t) i lasts

-- all numbers of a lane
pub lane_made : (f : ℕ → ℤ) (n i : ℕ) (m : Making) (c : Column) → IsSoFar I64 n f i m → i ≡ n
    → c ≡ record { kind = I64; items = m.items } → c ≡ lane_of I64 n f
lane_made f n i m c h e g =
    g ∙ ap (λ zs. record { kind = I64; items = zs })
    (h.items ∙ ap (λ k. map f (range_with_len 0 k)) e)
