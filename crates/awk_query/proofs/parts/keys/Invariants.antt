use Rattle.std.proofs.Common.{◌≡◌, ◌++◌, drop}
use Rattle.awk_query.specs.Line.{keys_of}
use Rattle.awk_query.proofs.parts.keys.Given as goal

-- the keys so far, and those of the rest
abbrev pub invariant-loop-i : goal.invariant-loop-i
invariant-loop-i l = keys_of l.parts ≡ l.names ++ keys_of (drop l.i l.parts)
