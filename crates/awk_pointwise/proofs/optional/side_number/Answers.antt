use Rattle.std.proofs.Common.{ap, sym, subst, ◌∙◌, rules}
use Rattle.std.specs.Int.{w128}
use Rattle.std.specs.Prelude.{FitsSigned, Some}
use Rattle.std.proofs.lemmas.Int.{to_z-of_z}
use Rattle.awk_types.specs.Parts.{option_number}
use Rattle.awk_pointwise.specs.Optional.{side_at, HasSidePlace}
use Rattle.awk_pointwise.proofs.ChoiceLaws.{shown_one}
use Rattle.awk_pointwise.proofs.optional.side_number.Goals as goal

pub returns-in-Number : goal.returns-in-Number
returns-in-Number g c =
    let z = c.in-Number.z in
    let fits : FitsSigned w128 z = search rules in
    ap (λ z. Some z) (to_z-of_z w128 z fits)
    ∙ shown_one c.in-Number.field-0 z (subst (HasSidePlace c.args.i) c.in-Number.is c.requires)
    ∙ ap (λ s. option_number (side_at c.args.i s)) (sym c.in-Number.is)
