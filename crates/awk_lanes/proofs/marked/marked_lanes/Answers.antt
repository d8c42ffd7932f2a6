-- The bytes are read as the numbers, and the marks as those of the mask.
use Rattle.std.proofs.Common.{◌∙◌, ap, subst}
use Rattle.awk_lanes.specs.Numbers.{numbers}
use Rattle.awk_lanes.specs.Words.{column, AreOf}
use Rattle.awk_lanes.specs.declared.kind.Kind.TheVariants.{I8}
use Rattle.awk_lanes.proofs.RowLaws.{numbers-low_row}
use Rattle.awk_lanes.proofs.marked.marked_lanes.Goals as goal

pub returns-clause-numbers : goal.returns-clause-numbers
returns-clause-numbers g c =
    let at = g.S.MarkedNumbers.at c.args.source.now in
    c.whole.ensures
    ∙ ap (column c.args.kind) (ap (numbers c.args.kind c.args.n) c.in_ok-bytes.ensures.bytes
    ∙ numbers-low_row c.args.kind c.args.n at
    (subst (λ k. AreOf k c.args.n at) c.requires.kind c.in_ok-bytes.ensures.numbers))

pub returns-clause-mask : goal.returns-clause-mask
returns-clause-mask g c =
    let mark = g.S.MarkedNumbers.mark c.args.source.now in
    c.whole-2.ensures
    ∙ ap (column I8) (ap (numbers I8 c.args.n) c.in_ok-bytes.ensures.marks
    ∙ numbers-low_row I8 c.args.n mark c.in_ok-bytes.ensures.bits)
