use Rattle.std.proofs.Common.{◌≡◌, Some, map}
use Rattle.std.specs.List.{range_with_len}
use Rattle.awk_merge_sides.proofs.sources.own_sources.Given as goal

abbrev pub invariant-loop-j : goal.invariant-loop-j
invariant-loop-j l = l.sources.items ≡ map (λ j. Some j) (range_with_len 0 l.j)
