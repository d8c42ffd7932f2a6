use Rattle.std.proofs.Common.{◌≡◌, sym, ◌∙◌, subst, rules}
use Rattle.std.specs.Prelude.{FitsSigned}
use Rattle.std.specs.Int.{w32}
use Rattle.std.proofs.lemmas.Int.{to_z-of_z}
use Rattle.awk_numbers.specs.Folds.{first_extreme}
use Rattle.awk_numbers.proofs.PartLaws.{slice_range-map}
use Rattle.awk_cells.specs.Extremes.{number_or_zero}
use Rattle.awk_parts.proofs.short.short_extreme.Goals as goal

pub returns : goal.returns
returns g c =
    let how = c.args.how in
    let span = c.args.span in
    let z = c.short_of.result in
    let fits : FitsSigned w32 z = search rules in
    to_z-of_z w32 z fits
    ∙ subst (λ zs. z ≡ number_or_zero zs (first_extreme how zs))
    (sym (slice_range-map g.C.Cell.number c.args.groups.now span.start span.stop))
    c.short_of.ensures
