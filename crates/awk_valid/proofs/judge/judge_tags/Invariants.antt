-- No place before this one breaks its rule.
use Rattle.std.proofs.Common.{◌≡◌, ◌<◌, ℕ, None}
use Rattle.awk_valid.specs.Rules.{tag_rules}
use Rattle.awk_valid.proofs.judge.judge_tags.Given as goal

abbrev pub invariant-loop-place : goal.invariant-loop-place
invariant-loop-place l = (k : ℕ) → k < l.place → tag_rules l.alternatives l.tags l.index k ≡ None
