use Rattle.std.proofs.Common.{◌≡◌, option_map, ap, ◌∙◌, subst, arith}
use Rattle.std.specs.Prelude.{IfOk}
use Rattle.awk_layout.specs.Valid.{len}
use Rattle.awk_view.specs.Asked.{choice_of}
use Rattle.awk_view.specs.Layouts.{layout_of_choice}
use Rattle.awk_view.proofs.Beside.{pushed_next}
use Rattle.awk_view.proofs.ChoiceLayouts.{len-layout_of_choice}
use Rattle.awk_range.proofs.Weights.{weights-take_more}
use Rattle.awk_view.proofs.RowSteps.{IfOk-map, found_in_rows, rows_chosen, union_valid}
use Rattle.awk_view.proofs.RowSteps.{union_chosen}
use Rattle.awk_view.proofs.chosen.+chosen.Goals as goal

pub chosen-chosen_of_rows-requires-clause-found : goal.chosen-chosen_of_rows-requires-clause-found
chosen-chosen_of_rows-requires-clause-found g t c =
    found_in_rows (choice_of c.args.asked.now) (option_map (λ m. m.now) c.in-Row.names)
    (len c.args.x.now) c.in-Row.contents.now c.args.x.now c.in-Row.ensures.class
    c.requires.found

pub chosen-union-requires-clause-valid : goal.chosen-union-requires-clause-valid
chosen-union-requires-clause-valid g t c =
    union_valid (choice_of c.args.asked.now) c.in-Union.tags.now c.in-Union.index.now
    c.copy-in-Union.result c.copy-in-Union-2.result c.in-Union.contents.now
    c.in_ok-contents-in-Union.contents c.args.x.now
    c.in-Union.ensures.class c.copy-in-Union.ensures c.copy-in-Union-2.ensures
    c.in_ok-contents-in-Union.ensures.nodes c.in-Union.ensures.valid c.requires.found

pub chosen-returns-in-Row-clause-node : goal.chosen-returns-in-Row-clause-node
chosen-returns-in-Row-clause-node g t c =
    let e = rows_chosen (choice_of c.args.asked.now) (option_map (λ m. m.now) c.in-Row.names)
    (len c.args.x.now) c.len-in-Row.result c.in-Row.contents.now c.args.x.now
    c.len-in-Row.ensures.len c.in-Row.ensures.class in
    subst (λ y. IfOk c.chosen_of_rows.result (λ made. made ≡ y)) e c.chosen_of_rows.ensures.node

pub chosen-returns-in-Row-clause-len : goal.chosen-returns-in-Row-clause-len
chosen-returns-in-Row-clause-len g t c =
    let e = rows_chosen (choice_of c.args.asked.now) (option_map (λ m. m.now) c.in-Row.names)
    (len c.args.x.now) c.len-in-Row.result c.in-Row.contents.now c.args.x.now
    c.len-in-Row.ensures.len c.in-Row.ensures.class in
    let l = len-layout_of_choice (choice_of c.args.asked.now) c.args.x.now c.in-Row.ensures.valid
    c.requires.found in
    IfOk-map (λ made. made ≡ layout_of_choice (choice_of c.args.asked.now) c.args.x.now)
    (λ made. len made ≡ len c.args.x.now) (λ made is. ap len is ∙ l) c.chosen_of_rows.result
    (subst (λ y. IfOk c.chosen_of_rows.result (λ made. made ≡ y)) e c.chosen_of_rows.ensures.node)

pub chosen-returns-in_ok-contents-in-Union-clause-node :
    goal.chosen-returns-in_ok-contents-in-Union-clause-node
chosen-returns-in_ok-contents-in-Union-clause-node g t c =
    c.union.ensures.node
    ∙ union_chosen (choice_of c.args.asked.now) c.in-Union.tags.now c.in-Union.index.now
    c.copy-in-Union.result c.copy-in-Union-2.result c.in-Union.contents.now
    c.in_ok-contents-in-Union.contents c.args.x.now
    c.in-Union.ensures.class c.copy-in-Union.ensures c.copy-in-Union-2.ensures
    c.in_ok-contents-in-Union.ensures.nodes

pub chosen_of_each-loop-i-preserved : goal.chosen_of_each-loop-i-preserved
chosen_of_each-loop-i-preserved g t c =
    let weighs = weights-take_more c.args.contents.now c.loop-i.i c.get.result.now c.get.ensures in
    record {
      nodes =
          pushed_next (layout_of_choice (choice_of c.args.asked.now)) c.args.contents.now c.loop-i.i
          c.get.result.now c.loop-i.made c.push.new.self c.in_ok-chosen.field-0
          c.get.ensures c.in_ok-push.ensures.ok c.loop-i.invariant.nodes
          c.in_ok-chosen.ensures.node;
      cost = omega (arith, c.in_ok-chosen.ensures.cost, c.loop-i.invariant.cost);
    }
