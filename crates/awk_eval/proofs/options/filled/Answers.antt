use Rattle.std.proofs.Common.{ap, ◌∙◌, rules, subst}
use Rattle.std.specs.Prelude.{FitsSigned}
use Rattle.std.specs.Int.{w64}
use Rattle.std.proofs.lemmas.Int.{to_z-of_z}
use Rattle.awk_types.specs.Faults.{fault_told}
use Rattle.awk_types.specs.Gives.{Gives}
use Rattle.awk_layout.specs.Datum.{datum_of}
use Rattle.awk_layout.specs.Filler.{filler_of}
use Rattle.awk_fill.specs.FillNone.{fill_none_of}
use Rattle.awk_arguments.specs.Axes.{axis_in}
use Rattle.awk_eval.proofs.options.filled.Goals as goal

pub returns-clause-answer : goal.returns-clause-answer
returns-clause-answer g c =
    let x = datum_of c.first.result.0.now in
    let given : FitsSigned w64 c.place.result = search rules in
    let fits : FitsSigned w64 c.axis_in.result = search rules in
    let axis =
    to_z-of_z w64 c.axis_in.result fits ∙ c.axis_in.ensures
    ∙ ap (axis_in x) (to_z-of_z w64 c.place.result given) in
    rw (c.place.ensures, c.first.ensures.first)
    (subst (λ said. Gives datum_of fault_told c.fill_none.result said)
    (ap (fill_none_of x (filler_of c.first.result.1.now)) axis)
    c.fill_none.ensures.answer)
