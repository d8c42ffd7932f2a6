use Rattle.std.proofs.Common.{ap, sym, ◌∙◌}
use Rattle.awk_numbers.specs.Folds.{tallied}
use Rattle.awk_numbers.proofs.PartLaws.{slice_range-map}
use Rattle.awk_parts.proofs.rules.told_of.Goals as goal

pub returns-clause-number : goal.returns-clause-number
returns-clause-number g c =
    let same =
    slice_range-map g.C.Cell.number c.args.groups.now c.args.span.start c.args.span.stop in
    c.told.ensures.number ∙ ap (tallied g.R.Rule.how) (sym same)
