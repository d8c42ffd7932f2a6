use Rattle.std.proofs.Common.{◌≡◌, sym, subst}
use Rattle.std.specs.Prelude.{pos}
use Rattle.awk_lanes.specs.Numbers.{number}
use Rattle.awk_lanes.specs.declared.kind.Kind.TheVariants as Kinds
use Rattle.awk_numbers.specs.Folds.{first_extreme}
use Rattle.awk_numbers.proofs.PartLaws.{slice_range-map}
use Rattle.awk_cells.specs.Extremes.{number_or_zero}
use Rattle.awk_parts.proofs.naturals.natural_extreme.Goals as goal

pub returns : goal.returns
returns c =
    let how = c.args.how in
    let span = c.args.span in
    let z = pos c.natural_of.result in
    subst (λ zs. z ≡ number_or_zero zs (first_extreme how zs))
    (sym (slice_range-map (number Kinds.U64) c.args.groups.now span.start span.stop))
    c.natural_of.ensures
