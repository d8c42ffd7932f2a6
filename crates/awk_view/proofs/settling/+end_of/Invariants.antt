-- A walk goes down.
use Rattle.awk_layout.specs.Layout.{height}
use Rattle.awk_view.proofs.settling.+end_of.Given as goal

abbrev pub decreases-end_of : goal.decreases-end_of
decreases-end_of g l = height l.x.now
