use Rattle.std.specs.Prelude.{◌≡◌, ◌+◌, ◌-◌, ◌≤◌, length}
use Rattle.awk_lists.specs.Runs.{runs_between}
use Rattle.awk_lists.proofs.runs.count_runs.Given as goal

abbrev pub invariant-loop-next : goal.invariant-loop-next
invariant-loop-next g l = record {
  order : l.next ≤ l.stop;
  count : l.count + length (runs_between l.items l.next l.stop)
      ≡ length (runs_between l.items l.start l.stop);
}

abbrev pub decreases-loop-next : goal.decreases-loop-next
decreases-loop-next g l = l.stop - l.next
