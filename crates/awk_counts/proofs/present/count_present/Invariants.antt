use Rattle.std.proofs.Common.{◌≡◌, length}
use Rattle.awk_counts.specs.Counted.{first_of, present_at}
use Rattle.awk_counts.proofs.present.count_present.Given as goal

abbrev pub invariant-loop-i : goal.invariant-loop-i
invariant-loop-i g l =
    l.count ≡ length (first_of (present_at (g.P.OptionIndex.lane l.index)) l.i)
