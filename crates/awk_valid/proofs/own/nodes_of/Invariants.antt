use Rattle.std.proofs.Common.{◌≡◌, ◌++◌}
use Rattle.awk_valid.proofs.own.nodes_of.Given as goal

-- the nodes so far, and those that are left
abbrev pub invariant-loop-content : goal.invariant-loop-content
invariant-loop-content l = l.nodes ++ l.content-iterator.rest.items ≡ l.fn.contents.items
