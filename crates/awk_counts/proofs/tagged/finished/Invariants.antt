use Rattle.std.proofs.Common.{◌≡◌, ◌++◌, map}
use Rattle.awk_counts.specs.Counted.{lane_made}
use Rattle.awk_counts.proofs.tagged.finished.Given as goal

abbrev pub invariant-loop-maker : goal.invariant-loop-maker
invariant-loop-maker l =
    l.lanes ++ map lane_made l.maker-iterator.rest.items ≡ map lane_made l.fn.makers.items
