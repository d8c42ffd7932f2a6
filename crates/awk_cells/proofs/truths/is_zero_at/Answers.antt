use Rattle.std.proofs.Common.{ap, ◌∙◌, rules}
use Rattle.std.specs.Prelude.{FitsSigned, not}
use Rattle.std.specs.Int.{w64}
use Rattle.std.proofs.lemmas.Int.{to_z-of_z}
use Rattle.awk_lanes.specs.Numbers.{is_nonzero}
use Rattle.awk_cells.proofs.truths.is_zero_at.Goals as goal

pub returns : goal.returns
returns g c =
    let y = c.number_at.result in
    let f : FitsSigned w64 y = search rules in
    c.is_zero.ensures
    ∙ ap (λ z. not (is_nonzero z)) (to_z-of_z w64 y f)
    ∙ ap (λ z. not (is_nonzero z)) c.number_at.ensures
