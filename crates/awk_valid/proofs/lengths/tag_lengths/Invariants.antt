-- Each alternative has the length that the tags so far need.
use Rattle.std.proofs.Common.{◌≡◌, ◌<◌, ℕ, length, get_or, pos}
use Rattle.awk_valid.specs.Needs.{tag_length}
use Rattle.awk_valid.proofs.lengths.tag_lengths.Given as goal

abbrev pub invariant-loop-place : goal.invariant-loop-place
invariant-loop-place l = record {
  each : length l.lengths.items ≡ l.alternatives;
  needed : (k : ℕ) → k < l.alternatives
      → get_or l.lengths.items k 0
      ≡ tag_length l.place (λ i. get_or l.tags i (pos 0)) (λ i. get_or l.index i (pos 0)) k;
}
