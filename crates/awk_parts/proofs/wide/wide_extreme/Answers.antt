use Rattle.std.proofs.Common.{◌≡◌, sym, ◌∙◌, subst, rules}
use Rattle.std.specs.Prelude.{FitsSigned}
use Rattle.std.specs.Int.{w64}
use Rattle.std.specs.List.{slice_range}
use Rattle.std.proofs.lemmas.Int.{to_z-of_z}
use Rattle.awk_lanes.specs.Numbers.{number}
use Rattle.awk_lanes.specs.declared.kind.Kind.TheVariants as Kind
use Rattle.awk_numbers.specs.Folds.{first_extreme}
use Rattle.awk_numbers.proofs.PartLaws.{slice_range-map}
use Rattle.awk_cells.specs.Extremes.{number_or_zero}
use Rattle.awk_cells.proofs.ExtremeLaws.{best_read}
use Rattle.awk_parts.proofs.wide.wide_extreme.Goals as goal

pub returns : goal.returns
returns c =
    let how = c.args.how in
    let gs = c.args.groups.now in
    let z = c.best_of.result.number in
    let part = slice_range gs c.args.span.start c.args.span.stop in
    let f : FitsSigned w64 z = search rules in
    to_z-of_z w64 z f
    ∙ subst (λ zs. z ≡ number_or_zero zs (first_extreme how zs))
    (sym (slice_range-map (number Kind.I64) gs c.args.span.start c.args.span.stop))
    (best_read how (number Kind.I64) part c.best_of.result c.best_of.ensures)
