use Rattle.std.proofs.Common.{subst}
use Rattle.awk_jagged_rows.specs.Levels.{AreCompared}
use Rattle.awk_jagged.proofs.PickLaws.{unlike-masks}
use Rattle.awk_jagged.proofs.leaves.masked.Goals as goal

pub returns-then-lengths_differ : goal.returns-then-lengths_differ
returns-then-lengths_differ g c =
    unlike-masks c.args.xs.now c.args.ws.now c.requires.leaf c.requires.mask
    (subst (AreCompared c.args.xs.now c.args.ws.now) c.if-lengths_differ.true
    c.lengths_differ.ensures)
