use Rattle.std.proofs.Common.{ap, sym, ◌∙◌}
use Rattle.awk_numbers.specs.Folds.{first_extreme}
use Rattle.awk_numbers.proofs.PartLaws.{slice_range-map}
use Rattle.awk_parts.proofs.wide.short_cell_place.Goals as goal

pub returns-clause-place : goal.returns-clause-place
returns-clause-place g c =
    c.short_place.ensures.place
    ∙ ap (first_extreme c.args.how)
    (sym
    (slice_range-map g.C.Cell.number c.args.groups.now c.args.span.start c.args.span.stop))
