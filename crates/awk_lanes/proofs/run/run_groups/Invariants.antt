use Rattle.std.proofs.Common.{◌≡◌}
use Rattle.std.specs.Prelude.{vec_len, vec_capacity}
use Rattle.awk_lanes.specs.Runs.{run_at}
use Rattle.awk_lanes.specs.Words.{low_groups}
use Rattle.awk_lanes.proofs.run.run_groups.Given as goal

abbrev pub invariant-loop-i : goal.invariant-loop-i
invariant-loop-i l = record {
  count : vec_len l.groups ≡ l.i;
  room : vec_capacity l.groups ≡ l.n;
  items : l.groups.items ≡ low_groups 8 l.i (run_at l.first l.count);
}
