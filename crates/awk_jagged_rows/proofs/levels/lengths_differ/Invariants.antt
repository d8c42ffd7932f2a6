use Rattle.std.specs.Prelude.{◌≡◌, ℕ, ◌<◌}
use Rattle.awk_columns.specs.Lists.{length_of}
use Rattle.awk_jagged_rows.proofs.levels.lengths_differ.Given as goal

-- the lists before this place are as long
abbrev pub invariant-loop-i : goal.invariant-loop-i
invariant-loop-i g l = (k : ℕ) → k < l.i → length_of l.xs k ≡ length_of l.ws k
