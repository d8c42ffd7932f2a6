-- How many numbers lie in each interval between edges, below the first edge, and from the last on.
use Rattle.std.specs.Prelude.{◌≡◌, ℕ, ◌-◌, ℤ, pos, int_le, int_lt}
use Rattle.std.specs.Prelude.{List, length, map}
use Rattle.std.specs.List.{count_by, range_with_len}
use Rattle.awk_lanes.specs.Counted.{items_lane}
use Rattle.awk_lanes.specs.Made.{lane_of}
use Rattle.awk_lanes.specs.declared.kind.Kind.TheVariants.{I64}
use Rattle.awk_bins.specs.Edges.{edge_at, lies_in}
use Rattle.awk_bins.specs.declared.bins.Binned.{Binned}

-- how many intervals lie between edges
abbrev pub intervals : List ℤ → ℕ
intervals es = length es - 1

abbrev pub count_in : List ℤ → List ℤ → ℕ → ℕ
count_in es zs i = count_by (lies_in es i) zs

-- for each interval
abbrev pub interval_counts : List ℤ → List ℤ → List ℕ
interval_counts es zs = map (count_in es zs) (range_with_len 0 (intervals es))

-- below the first edge
abbrev pub count_under : List ℤ → List ℤ → ℕ
count_under es zs = count_by (λ z. int_lt z (edge_at es 0)) zs

-- from the last edge on
abbrev pub count_over : List ℤ → List ℤ → ℕ
count_over es zs = count_by (λ z. int_le (edge_at es (intervals es)) z) zs

-- the counts of n parts as lanes: as many for each part as there are intervals, and one below and
-- one from the last edge on
pub record AreBinned (es : List ℤ) (part : ℕ → List ℤ) (n : ℕ) (b : Binned) : Type 0 where
  pub counts : b.counts
      ≡ items_lane I64 (λ i. intervals es) (λ i k. pos (count_in es (part i) k)) n
  pub under : b.under ≡ lane_of I64 n (λ i. pos (count_under es (part i)))
  pub over : b.over ≡ lane_of I64 n (λ i. pos (count_over es (part i)))
