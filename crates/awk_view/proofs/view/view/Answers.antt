use Rattle.std.proofs.Common.{◌≤◌, Err, Ok, refl, ap, sym, ◌∙◌, subst, arith}
use Rattle.awk_types.specs.declared.fault.Fault.TheVariants.{NoField}
use Rattle.awk_layout.specs.Layout.{weight, height}
use Rattle.awk_layout.specs.Typing.{layout_type}
use Rattle.awk_layout.specs.Valid.{IsValid}
use Rattle.awk_layout.specs.Numbered.{IsNumbered}
use Rattle.awk_view.specs.Asked.{choice_of}
use Rattle.awk_view.specs.Choice.{absent}
use Rattle.awk_view.specs.Layouts.{layout_of_choice}
use Rattle.awk_view.proofs.ChosenNodes.{weight-layout_of_choice, height-layout_of_choice}
use Rattle.awk_view.proofs.FoundSteps.{found}
use Rattle.awk_view.proofs.ViewLaws.{absent_told, refusal_told, chosen_told}
use Rattle.awk_view.proofs.view.view.Goals as goal

pub returns-in-Some-clause-answer : goal.returns-in-Some-clause-answer
returns-in-Some-clause-answer g c =
    let a = sym c.in-Some.is ∙ c.in_ok-name.ensures ∙ ap
    (λ x. absent (choice_of c.args.asked.now) (layout_type x)) c.node-node.ensures in
    absent_told (choice_of c.args.asked.now) c.args.x.now c.in-Some.name
    (Err (NoField c.in-Some.name)) refl a

pub chosen-requires-clause-found : goal.chosen-requires-clause-found
chosen-requires-clause-found g c =
    found (choice_of c.args.asked.now) (layout_type c.node-node.result.now)
    (sym c.in_ok-name.ensures ∙ c.in_default.is)

pub returns-in_err-new-clause-answer : goal.returns-in_err-new-clause-answer
returns-in_err-new-clause-answer g c =
    let none = ap (λ x. absent (choice_of c.args.asked.now) (layout_type x))
    (sym c.node-node.ensures) ∙ sym c.in_ok-name.ensures ∙ c.in_default.is in
    let made = c.in_ok-made.ensures.node ∙ ap (layout_of_choice (choice_of c.args.asked.now))
    c.node-node.ensures in
    refusal_told (choice_of c.args.asked.now) c.args.x.now c.in_ok-made.made c.in_err-new.field-0.0
    c.from_residual-in_err-new.result
    c.from_residual-in_err-new.ensures.1 made none c.in_err-new.ensures.gives

pub returns-clause-answer : goal.returns-clause-answer
returns-clause-answer g c =
    let none = ap (λ x. absent (choice_of c.args.asked.now) (layout_type x))
    (sym c.node-node.ensures) ∙ sym c.in_ok-name.ensures ∙ c.in_default.is in
    let made = c.in_ok-made.ensures.node ∙ ap (layout_of_choice (choice_of c.args.asked.now))
    c.node-node.ensures in
    chosen_told (choice_of c.args.asked.now) c.args.x.now c.in_ok-made.made c.in_ok-new.field-0
    (Ok c.in_ok-new.field-0) refl made none
    (subst IsValid c.node-node.ensures c.len.ensures.valid)
    (subst IsNumbered c.node-node.ensures c.len.ensures.numbered)
    (found (choice_of c.args.asked.now) (layout_type c.args.x.now) none) c.in_ok-new.ensures.gives

pub returns-clause-nodes : goal.returns-clause-nodes
returns-clause-nodes g c =
    let x = c.node-node.result.now in
    let f = found (choice_of c.args.asked.now) (layout_type x)
    (sym c.in_ok-name.ensures ∙ c.in_default.is) in
    let h : weight (layout_of_choice (choice_of c.args.asked.now) x) ≤ weight x =
    weight-layout_of_choice (choice_of c.args.asked.now) x c.requires.distinct
    c.len.ensures.valid f in
    let e = ap weight (c.in_ok-new.ensures.node ∙ c.in_ok-made.ensures.node) in
    let d = ap weight c.node-node.ensures in
    omega arith

pub returns-clause-height : goal.returns-clause-height
returns-clause-height g c =
    let x = c.node-node.result.now in
    let f = found (choice_of c.args.asked.now) (layout_type x)
    (sym c.in_ok-name.ensures ∙ c.in_default.is) in
    let h : height (layout_of_choice (choice_of c.args.asked.now) x) ≤ height x =
    height-layout_of_choice (choice_of c.args.asked.now) x c.len.ensures.valid f in
    let e = ap height (c.in_ok-new.ensures.node ∙ c.in_ok-made.ensures.node) in
    let d = ap height c.node-node.ensures in
    omega arith
