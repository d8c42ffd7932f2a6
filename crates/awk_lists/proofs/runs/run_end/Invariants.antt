use Rattle.std.specs.Prelude.{◌<◌}
use Rattle.awk_lists.proofs.RunLaws.{IsRunSoFar}
use Rattle.awk_lists.proofs.runs.run_end.Given as goal

abbrev pub invariant-loop-i : goal.invariant-loop-i
invariant-loop-i g l = record {
  after : l.start < l.i;
  run : IsRunSoFar l.items l.start l.stop l.i;
}
