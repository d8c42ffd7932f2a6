-- The greatest stop of the lists so far.
use Rattle.std.proofs.Common.{◌≡◌, get_or, pos}
use Rattle.awk_valid.specs.Needs.{lists_length}
use Rattle.awk_valid.proofs.lengths.spans_length.Given as goal

abbrev pub invariant-loop-place : goal.invariant-loop-place
invariant-loop-place l =
    l.most ≡ lists_length l.place (λ i. get_or l.starts i (pos 0)) (λ i. get_or l.stops i (pos 0))
