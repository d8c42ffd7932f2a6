use Rattle.std.proofs.Common.{ap, ◌∙◌, subst}
use Rattle.std.specs.Prelude.{FitsSigned, pos, ◌-◌}
use Rattle.awk_lanes.specs.Numbers.{nat_of}
use Rattle.std.specs.Int.{w64}
use Rattle.std.proofs.Common.{rules}
use Rattle.std.proofs.lemmas.Int.{to_z-of_z}
use Rattle.awk_types.specs.Faults.{fault_told}
use Rattle.awk_types.specs.Gives.{Gives}
use Rattle.awk_layout.specs.Datum.{datum_of}
use Rattle.awk_list_functions.specs.Lifting.{lift}
use Rattle.awk_lists.specs.Flatten.{flatten_function}
use Rattle.awk_lists.proofs.Flattened.{flatten_at}
use Rattle.awk_lists.proofs.joining.flatten.Goals as goal

pub returns-clause-answer : goal.returns-clause-answer
returns-clause-answer g c =
    let fits : FitsSigned w64 c.axis_before-before.result = search rules in
    subst (λ said. Gives datum_of fault_told c.lift_at.result said)
    (ap (λ z. lift flatten_function z (datum_of c.args.x.now))
    (to_z-of_z w64 c.axis_before-before.result fits ∙ c.axis_before-before.ensures)
    ∙ ap (λ z. lift flatten_function (pos (nat_of z - 1)) (datum_of c.args.x.now))
    (to_z-of_z w64 c.args.axis c.ranges.axis)
    ∙ flatten_at c.args.axis (datum_of c.args.x.now) (search rules))
    c.lift_at.ensures.answer
