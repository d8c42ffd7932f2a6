use Rattle.std.proofs.Common.{◌≡◌, map}
use Rattle.std.specs.List.{range_with_len}
use Rattle.std.specs.Prelude.{vec_len, vec_capacity}
use Rattle.awk_lanes.specs.Numbers.{nat_of}
use Rattle.awk_lanes.specs.Runs.{run_at}
use Rattle.awk_lanes.proofs.run.run_nats.Given as goal

abbrev pub invariant-loop-i : goal.invariant-loop-i
invariant-loop-i l = record {
  count : vec_len l.nats ≡ l.i;
  room : vec_capacity l.nats ≡ l.n;
  items : l.nats.items ≡ map (λ i. nat_of (run_at l.first l.count i)) (range_with_len 0 l.i);
}
