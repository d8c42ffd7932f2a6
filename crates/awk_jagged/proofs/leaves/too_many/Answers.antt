use Rattle.std.proofs.Common.{subst}
use Rattle.awk_jagged_places.specs.Leaves.{AreTested}
use Rattle.awk_jagged.proofs.BesideLaws.{takes-too_many}
use Rattle.awk_jagged.proofs.PickLaws.{outside-told}
use Rattle.awk_jagged.proofs.leaves.too_many.Goals as goal

pub returns-then-has_outside : goal.returns-then-has_outside
returns-then-has_outside g c =
    outside-told c.args.source.now.xs.now c.args.source.now.ws.now c.requires.leaf c.requires.mask
    (subst (AreTested c.args.source.now.xs.now c.args.source.now.ws.now) c.if-has_outside.true
    c.has_outside.ensures)

pub returns : goal.returns
returns g c =
    takes-too_many c.args.source.now.xs.now c.args.source.now.ws.now c.requires.leaves.pairs
    c.content.ensures.lists.spans c.requires.leaf c.requires.mask
    (subst (AreTested c.args.source.now.xs.now c.args.source.now.ws.now) c.if-has_outside.false
    c.has_outside.ensures) c.requires.many
