use Rattle.std.proofs.Common.{ap, ap₂, ◌∙◌, rules, w64}
use Rattle.std.specs.Prelude.{pos, Bool, FitsSigned}
use Rattle.std.specs.Int.{from_bool}
use Rattle.std.proofs.lemmas.Int.{to_z-of_z}
use Rattle.awk_lane_pairs.specs.Comparisons.{flag}
use Rattle.awk_lane_pairs.proofs.ComparisonLaws.{one_by}
use Rattle.awk_lane_pairs.proofs.comparison.TestsNumbers.number.Goals as goal

pub returns-clause-number : goal.returns-clause-number
returns-clause-number g c =
    let x = c.number-x.result in
    let y = c.number-y.result in
    let fits_x : FitsSigned w64 x = search rules in
    let fits_y : FitsSigned w64 y = search rules in
    one_by c.said.result
    ∙ ap (λ (b : Bool). pos (from_bool b)) (c.said.ensures
    ∙ ap₂ (flag c.args.self.now.flags) (to_z-of_z w64 x fits_x ∙ c.number-x.ensures)
    (to_z-of_z w64 y fits_y ∙ c.number-y.ensures))
