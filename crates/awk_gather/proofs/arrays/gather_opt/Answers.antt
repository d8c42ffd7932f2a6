-- The array of the node is what is told: its type and items, or the limit that the type passes.
use Rattle.std.proofs.Common.{subst}
use Rattle.awk_layout.specs.Layout.{Layout}
use Rattle.awk_gather.specs.Arrays.{picked_or_null}
use Rattle.awk_gather.specs.Peeled.{IsPickedOpt}
use Rattle.awk_gather.proofs.ArrayAnswers.{answer_refused, answer_given}
use Rattle.awk_gather.proofs.GatheredArrays.{gathered_opt, picked_or_null-is}
use Rattle.awk_gather.proofs.arrays.gather_opt.Goals as goal

pub returns-in_err-new-clause-answer : goal.returns-in_err-new-clause-answer
returns-in_err-new-clause-answer g c =
    let h : IsPickedOpt c.args.x.now c.args.places.now c.in_ok-node.node = subst
    (λ (x : Layout). IsPickedOpt x c.args.places.now c.in_ok-node.node) c.node.ensures
    c.in_ok-node.ensures.items in
    answer_refused c.in_ok-node.node (picked_or_null c.args.x.now c.args.places.now)
    c.in_err-new.field-0.0 c.from_residual-in_err-new.result
    (picked_or_null-is c.args.x.now c.in_ok-node.node c.args.places.now c.requires.kind
    c.requires.places h)
    c.from_residual-in_err-new.ensures.1 c.in_err-new.ensures.gives

pub returns-clause-answer : goal.returns-clause-answer
returns-clause-answer g c =
    let h : IsPickedOpt c.args.x.now c.args.places.now c.in_ok-node.node = subst
    (λ (x : Layout). IsPickedOpt x c.args.places.now c.in_ok-node.node) c.node.ensures
    c.in_ok-node.ensures.items in
    answer_given c.in_ok-node.node c.in_ok-new.field-0
    (picked_or_null c.args.x.now c.args.places.now)
    (picked_or_null-is c.args.x.now c.in_ok-node.node c.args.places.now c.requires.kind
    c.requires.places h)
    c.in_ok-new.ensures.gives

pub returns-clause-gathered : goal.returns-clause-gathered
returns-clause-gathered g c =
    let h : IsPickedOpt c.args.x.now c.args.places.now c.in_ok-node.node = subst
    (λ (x : Layout). IsPickedOpt x c.args.places.now c.in_ok-node.node) c.node.ensures
    c.in_ok-node.ensures.items in
    gathered_opt c.args.x.now c.in_ok-node.node c.in_ok-new.field-0 c.args.places.now
    c.in_ok-new.ensures.node h
