-- Items of lists by their starts and stops.
use Rattle.std.specs.Prelude.{◌≡◌, ℕ, ◌+◌, ◌-◌, ◌<◌, length, map, ℤ, pos, negsuc, ◌≤ℤ◌}
use Rattle.std.specs.List.{range_with_len}
use Rattle.std.proofs.Common.{arith, ap, ◌∙◌}
use Rattle.std.proofs.lemmas.Int.{ints}
use Rattle.std.proofs.lemmas.List.FromFn.{length-map-range_with_len}
use Rattle.awk_base.proofs.Ranges.{map_from}
use Rattle.awk_lanes.specs.Numbers.{nat_of}
use Rattle.awk_lanes.specs.Places.{size_of, at, place_at, IsSpan, AreSpans}
use Rattle.awk_layout.proofs.Runs.{value_list-run}
use Rattle.awk_layout.specs.Valid.{len}
use Rattle.awk_gather.specs.Arrays.{array_item}
use Rattle.awk_columns.specs.Lists.{Listed, length_of}
use Rattle.awk_jagged_rows.specs.Levels.{row_at}
use Rattle.awk_jagged_rows.specs.Rows.{lists_by, place_by}

-- an item of a span lies within
pub span_item : (n : ℕ) (a b : ℤ) (k : ℕ) → IsSpan n a b → k < nat_of b - nat_of a
    → (pos 0 ≤ℤ a) × (nat_of a + k < n)
span_item n (pos a) (pos b) k h l =
    let q : _ = h (λ e. omega (arith, ints, e, l)) in
    (q.0, omega (arith, ints, q.1, q.2, l))
span_item n (pos a) (negsuc b) k h l = absurd (omega (arith, l))
span_item n (negsuc a) (pos b) k h l =
    absurd (omega (arith, ints, (h (λ e. omega (arith, ints, e))).0))
span_item n (negsuc a) (negsuc b) k h l = absurd (omega (arith, l))

pub item_in : (l : Listed) (i k : ℕ) → AreSpans l.starts l.stops (len l.content)
    → i < size_of l.starts → k < length_of l i
    → (pos 0 ≤ℤ at l.starts i) × (place_by l i k < len l.content)
item_in l i k s p q =
    span_item (len l.content) (at l.starts i) (at l.stops i) k (s.ordered i p) q

-- the items of a list by their places in it
pub list-items : (l : Listed) (i : ℕ)
    → lists_by l i ≡ map (row_at l i) (range_with_len 0 (length_of l i))
list-items l i =
    value_list-run (array_item l.content) (place_at l.starts i) (length_of l i)
    ∙ map_from (array_item l.content) (place_at l.starts i) (length_of l i)

pub length-list : (l : Listed) (i : ℕ) → length (lists_by l i) ≡ length_of l i
length-list l i =
    ap length (list-items l i) ∙ length-map-range_with_len (row_at l i) 0 (length_of l i)
