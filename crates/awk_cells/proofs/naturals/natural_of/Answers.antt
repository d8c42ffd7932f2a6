use Rattle.std.proofs.Common.{◌≡◌, map, sym, subst}
use Rattle.std.specs.Prelude.{pos}
use Rattle.awk_lanes.specs.Numbers.{number}
use Rattle.awk_lanes.specs.declared.kind.Kind.TheVariants as Kind
use Rattle.awk_numbers.specs.Folds.{first_extreme}
use Rattle.awk_numbers.specs.declared.extremes.Extreme.TheVariants.{Least, Greatest}
use Rattle.awk_cells.specs.Extremes.{number_or_zero}
use Rattle.awk_cells.proofs.ExtremeParts.{extreme_found}
use Rattle.awk_cells.proofs.naturals.natural_of.Goals as goal

pub returns-in-Least : goal.returns-in-Least
returns-in-Least c =
    let zs = map (number Kind.U64) c.args.groups.now in
    let z = pos c.natural_in.result in
    subst (λ how. z ≡ number_or_zero zs (first_extreme how zs)) (sym c.in-Least.is)
    (extreme_found Least zs z c.natural_in.ensures)

pub returns-in-Greatest : goal.returns-in-Greatest
returns-in-Greatest c =
    let zs = map (number Kind.U64) c.args.groups.now in
    let z = pos c.natural_in-in-Greatest.result in
    subst (λ how. z ≡ number_or_zero zs (first_extreme how zs)) (sym c.in-Greatest.is)
    (extreme_found Greatest zs z c.natural_in-in-Greatest.ensures)
