use Rattle.std.proofs.Common.{ap, ◌∙◌}
use Rattle.awk_numbers.specs.Folds.{first_extreme}
use Rattle.awk_parts.proofs.places.place_at.Goals as goal

pub returns-clause-place : goal.returns-clause-place
returns-clause-place c =
    c.first_place.ensures.place ∙ ap (first_extreme c.args.how) c.span_of-span.ensures.part
