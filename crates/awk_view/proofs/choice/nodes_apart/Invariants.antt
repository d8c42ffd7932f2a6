use Rattle.std.proofs.Common.{◌≡◌, ◌++◌, drop}
use Rattle.awk_view.specs.Choice.{apart_from}
use Rattle.awk_view.proofs.choice.nodes_apart.Given as goal

abbrev pub invariant-loop-i : goal.invariant-loop-i
invariant-loop-i l =
    l.made ++ apart_from l.name (drop l.i l.names) (drop l.i l.contents) ≡ apart_from l.name l.names
    l.contents
