use Rattle.std.proofs.Common.{option_map, ap, sym, ◌∙◌, subst}
use Rattle.awk_layout.specs.Layout.{rows, layouts_from}
use Rattle.awk_layout.specs.Valid.{IsValid, AllReach}
use Rattle.awk_view.specs.Choice.{row_names, apart_from}
use Rattle.awk_view.proofs.ChoiceNodes.{reach-apart}
use Rattle.awk_view.proofs.RowSteps.{count_of_names, other_names}
use Rattle.awk_view.proofs.chosen.rows_without.Goals as goal

pub nodes_apart-requires : goal.nodes_apart-requires
nodes_apart-requires g c =
    let names = option_map (λ m. m.now) c.args.names in
    count_of_names c.in_ok-all.all names c.args.n c.args.contents.now
    (c.in_ok-all.ensures ∙ ap (row_names names) c.len.ensures) c.requires.valid

pub row-requires-clause-names : goal.row-requires-clause-names
row-requires-clause-names g c =
    let names = option_map (λ m. m.now) c.args.names in
    let all = c.in_ok-all.ensures ∙ ap (λ o. row_names (option_map (λ m. m.now) o) c.len.result)
    c.in-Some.is in
    other_names c.args.name.now c.in-Some.names.now c.in_ok-others-in-Some.others c.args.n
    c.args.contents.now c.in_ok-kept.kept
    c.in_ok-others-in-Some.ensures
    (c.in_ok-kept.ensures ∙ ap (λ a. apart_from c.args.name.now a c.args.contents.now) all)
    (subst (λ o. IsValid (rows (option_map (λ m. m.now) o) c.args.n
    (layouts_from c.args.contents.now))) c.in-Some.is c.requires.valid)

pub row-requires-clause-valid : goal.row-requires-clause-valid
row-requires-clause-valid g c =
    subst (λ ys. AllReach c.args.n (layouts_from ys)) (sym c.in_ok-kept.ensures)
    (reach-apart c.args.n c.args.name.now c.in_ok-all.all c.args.contents.now
    c.requires.valid.2)

pub row-requires-in-None-clause-valid : goal.row-requires-in-None-clause-valid
row-requires-in-None-clause-valid g c =
    subst (λ ys. AllReach c.args.n (layouts_from ys)) (sym c.in_ok-kept.ensures)
    (reach-apart c.args.n c.args.name.now c.in_ok-all.all c.args.contents.now
    c.requires.valid.2)
