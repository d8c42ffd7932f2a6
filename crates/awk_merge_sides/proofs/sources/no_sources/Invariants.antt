use Rattle.std.proofs.Common.{◌≡◌, None, map}
use Rattle.std.specs.List.{range_with_len}
use Rattle.awk_merge_sides.proofs.sources.no_sources.Given as goal

abbrev pub invariant-loop-j : goal.invariant-loop-j
invariant-loop-j l = l.sources.items ≡ map (λ j. None) (range_with_len 0 l._j)
