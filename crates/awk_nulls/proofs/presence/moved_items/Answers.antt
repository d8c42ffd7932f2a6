use Rattle.std.proofs.Common.{◌≡◌, sym, ap, subst, ◌∙◌}
use Rattle.awk_lanes.specs.Column.{Column}
use Rattle.awk_lanes.specs.Places.{IsOptionalIndex}
use Rattle.awk_layout.specs.Layout.{flat}
use Rattle.awk_layout.specs.Valid.{len}
use Rattle.awk_nulls.specs.Lanes.{HasPresent}
use Rattle.awk_nulls.proofs.PresentLaws.{moved_present}
use Rattle.awk_nulls.proofs.presence.moved_items.Goals as goal

pub indexed_numbers-requires-clause-index : goal.indexed_numbers-requires-clause-index
indexed_numbers-requires-clause-index g c =
    let y : c.args.content.now ≡ flat c.in-Numpy.lane.now =
    sym (c.in-Numpy.ensures.class ∙ c.node.ensures) in
    subst (IsOptionalIndex c.args.index.now) (ap len y) c.requires.opened.valid.1

pub indexed_numbers-requires-clause-small : goal.indexed_numbers-requires-clause-small
indexed_numbers-requires-clause-small g c = c.requires.opened.valid.0

pub returns-in_ok-numbers-in-Numpy : goal.returns-in_ok-numbers-in-Numpy
returns-in_ok-numbers-in-Numpy g c =
    let y : c.args.content.now ≡ flat c.in-Numpy.lane.now =
    sym (c.in-Numpy.ensures.class ∙ c.node.ensures) in
    subst (λ (j : Column). HasPresent c.args.x.now j c.in_ok-numbers-in-Numpy.numbers)
    (sym c.copy.ensures)
    (moved_present c.args.index.now c.in-Numpy.lane.now c.args.content.now c.args.x.now
    c.in_ok-numbers-in-Numpy.numbers c.requires.opened y c.in_ok-numbers-in-Numpy.ensures
    c.len.ensures.valid)
