use Rattle.std.proofs.Common.{◌≡◌, Some, None, Ok, Err, ap, ◌∙◌, sym}
use Rattle.awk_types.specs.declared.fault.Fault.TheVariants.{Unbound}
use Rattle.awk_layout.specs.Datum.{datum_of}
use Rattle.awk_eval.proofs.Evaluations.{found-denoted, Takes-variable}
use Rattle.awk_eval.proofs.HeightLaws.{bound_no_higher}
use Rattle.awk_eval.proofs.ViewSteps.{IfOk-IsErr}
use Rattle.awk_eval.proofs.evaluation.variable.Goals as goal

pub returns-in_ok-shared_datum-in-Some-clause-answer :
    goal.returns-in_ok-shared_datum-in-Some-clause-answer
returns-in_ok-shared_datum-in-Some-clause-answer g c =
    found-denoted c.args.name.now c.args.env.now (Some c.in-Some.x.now) c.in-Some.ensures.found
    ∙ ap (λ d. Ok (datum_of d)) (sym c.in_ok-shared_datum-in-Some.ensures.same)

pub returns-in_ok-new-in-None-clause-answer : goal.returns-in_ok-new-in-None-clause-answer
returns-in_ok-new-in-None-clause-answer g c =
    found-denoted c.args.name.now c.args.env.now None c.in-None.ensures.found
    ∙ ap (λ n. Err (Unbound n)) (sym c.in_ok-new-in-None.ensures)

pub returns-in_err-shared_datum-in-Some-clause-cost :
    goal.returns-in_err-shared_datum-in-Some-clause-cost
returns-in_err-shared_datum-in-Some-clause-cost g c array =
    Takes-variable c.args.name.now c.args.env.now c.in-Some.x.now c.args.steps.now
    c.shared_datum.new.steps c.from_residual.result c.in-Some.ensures.found
    (IfOk-IsErr (λ made. made ≡ c.in-Some.x.now) c.from_residual.result c.from_residual.ensures.0)
    c.in_err-shared_datum-in-Some.ensures.cost array

pub returns-in_ok-shared_datum-in-Some-clause-cost :
    goal.returns-in_ok-shared_datum-in-Some-clause-cost
returns-in_ok-shared_datum-in-Some-clause-cost g c array =
    Takes-variable c.args.name.now c.args.env.now c.in-Some.x.now c.args.steps.now
    c.shared_datum.new.steps (Ok c.in_ok-shared_datum-in-Some.field-0) c.in-Some.ensures.found
    c.in_ok-shared_datum-in-Some.ensures.same c.in_ok-shared_datum-in-Some.ensures.cost array

pub returns-in_ok-shared_datum-in-Some-clause-height :
    goal.returns-in_ok-shared_datum-in-Some-clause-height
returns-in_ok-shared_datum-in-Some-clause-height g c =
    bound_no_higher c.args.name.now c.args.env.now c.in-Some.x.now
    c.in_ok-shared_datum-in-Some.field-0 c.in-Some.ensures.found
    c.in_ok-shared_datum-in-Some.ensures.same
