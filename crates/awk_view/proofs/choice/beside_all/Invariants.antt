use Rattle.std.proofs.Common.{◌≡◌, map, take}
use Rattle.awk_layout.specs.Layout.{empty}
use Rattle.awk_view.specs.Choice.{beside}
use Rattle.awk_view.proofs.choice.beside_all.Given as goal

abbrev pub invariant-loop-i : goal.invariant-loop-i
invariant-loop-i l = l.made ≡ map (λ k. beside empty k l.names l.contents) (take l.i l.wanted)
