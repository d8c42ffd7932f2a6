use Rattle.std.specs.Prelude.{◌≡◌, ◌+◌, length}
use Rattle.awk_counts.specs.Counted.{first_of, present_at}
use Rattle.awk_nulls.proofs.ends.count_between.Given as goal

abbrev pub invariant-loop-i : goal.invariant-loop-i
invariant-loop-i g l =
    length (first_of (present_at (g.P.OptionIndex.lane l.index)) l.start) + l.count
    ≡ length (first_of (present_at (g.P.OptionIndex.lane l.index)) l.i)
