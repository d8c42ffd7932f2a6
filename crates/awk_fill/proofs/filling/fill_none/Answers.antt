use Rattle.std.proofs.Common.{sym, subst, ◌∙◌, w64}
use Rattle.std.proofs.lemmas.Int.{to_z-of_z}
use Rattle.awk_types.specs.Faults.{fault_told}
use Rattle.awk_types.specs.Gives.{Gives}
use Rattle.awk_layout.specs.Datum.{datum_of}
use Rattle.awk_layout.specs.Filler.{filler_of}
use Rattle.awk_list_functions.specs.Lifting.{lift}
use Rattle.awk_fill.specs.FillNone.{fill_none_function}
use Rattle.awk_fill.proofs.FillLaws.{answer_filled, answer_refused}
use Rattle.awk_fill.proofs.filling.fill_none.Goals as goal

pub returns-then-is_filler-clause-answer : goal.returns-then-is_filler-clause-answer
returns-then-is_filler-clause-answer g c =
    let d = datum_of c.args.x.now in
    let f = fill_none_function (filler_of c.in_ok-own.own) in
    answer_filled c.lift_at-answer.result d (filler_of c.args.value.now)
    (filler_of c.in_ok-own.own) c.args.axis c.in_ok-own.ensures.filler
    (sym c.is_filler.ensures ∙ c.if-is_filler.true)
    (subst (λ i. Gives datum_of fault_told c.lift_at-answer.result (lift f i d))
    (to_z-of_z w64 c.args.axis c.ranges.axis) c.lift_at-answer.ensures.answer)

pub returns-clause-answer : goal.returns-clause-answer
returns-clause-answer g c =
    let d = datum_of c.args.x.now in
    let f = fill_none_function (filler_of c.in_ok-own.own) in
    answer_refused c.lift_at-answer.result c.refused.result d (filler_of c.args.value.now)
    (filler_of c.in_ok-own.own) c.args.axis c.in_ok-own.ensures.filler
    (sym c.is_filler.ensures ∙ c.if-is_filler.false)
    (subst (λ i. Gives datum_of fault_told c.lift_at-answer.result (lift f i d))
    (to_z-of_z w64 c.args.axis c.ranges.axis) c.lift_at-answer.ensures.answer) c.refused.ensures
