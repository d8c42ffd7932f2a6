-- Runs of the numbers of a lane, list by list.
use Rattle.std.specs.Prelude.{◌≡◌, ℕ, ◌+◌, ◌-◌, ◌<◌, ◌≤◌, List, length, map, pos, ◌≤ℤ◌}
use Rattle.awk_types.specs.Value.{Value, value_list}
use Rattle.awk_lanes.specs.Column.{Column}
use Rattle.awk_lanes.specs.Places.{size_of, at, place_at, IsIndexKind}
use Rattle.awk_lanes.specs.declared.kind.Kind.TheVariants.{I64}
use Rattle.awk_layout.specs.Item.{leaf_value, run}
use Rattle.awk_counts.specs.Counted.{first_of}
use Rattle.awk_lanes.specs.Made.{lane_of}
use Rattle.awk_lists.specs.RunLengths.{runs}

-- the values from a start below a stop
abbrev pub values_between : Column → ℕ → ℕ → List Value
values_between c start stop =
    value_list (run (λ i. leaf_value c.kind (at c i)) start (stop - start))

abbrev pub runs_between : Column → ℕ → ℕ → List ℕ
runs_between c start stop = runs (values_between c start stop)

-- the runs of list i
abbrev pub runs_at : Column → Column → ℕ → List ℕ
runs_at c o i = runs_between c (place_at o i) (place_at o (i + 1))

-- how many runs the first i lists have together
abbrev pub runs_before : Column → Column → ℕ → ℕ
runs_before c o i = length (first_of (runs_at c o) i)

-- offsets of n lists of runs, one after another
abbrev pub run_offsets : Column → Column → ℕ → Column
run_offsets c o n = lane_of I64 (n + 1) (λ i. pos (runs_before c o i))

-- the runs of n lists
abbrev pub run_lane : Column → Column → ℕ → Column
run_lane c o n = record { kind = I64; items = map (λ k. pos k) (first_of (runs_at c o) n) }

-- offsets of n lists, one after another, in m items
pub record AreRising (o : Column) (n m : ℕ) : Type 0 where
  pub kind : IsIndexKind o.kind
  pub size : size_of o ≡ n + 1
  pub positive : (i : ℕ) → i ≤ n → pos 0 ≤ℤ at o i
  pub ordered : (i : ℕ) → i < n → place_at o i ≤ place_at o (i + 1)
  pub within : (i : ℕ) → i ≤ n → place_at o i ≤ m
