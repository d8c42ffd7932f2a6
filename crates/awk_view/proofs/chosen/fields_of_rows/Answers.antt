use Rattle.std.proofs.Common.{◌≡◌, true, option_map, length, map, ap, sym, ◌∙◌, subst}
use Rattle.std.specs.List.{AllByRecursion}
use Rattle.awk_types.specs.Names.{is_among}
use Rattle.awk_layout.specs.Layout.{empty, layouts_from}
use Rattle.awk_layout.specs.Valid.{AllReach}
use Rattle.awk_view.specs.Choice.{fields, row_names, beside}
use Rattle.awk_view.proofs.RowSteps.{count_of_names, rows_valid_of, wanted_names}
use Rattle.awk_view.proofs.chosen.fields_of_rows.Goals as goal

pub beside_all-requires-clause-named : goal.beside_all-requires-clause-named
beside_all-requires-clause-named g c =
    let names = option_map (λ m. m.now) c.args.names in
    count_of_names c.in_ok-all.all names c.args.n c.args.contents.now
    (c.in_ok-all.ensures ∙ ap (row_names names) c.len.ensures) c.requires.valid

pub beside_all-requires-clause-among : goal.beside_all-requires-clause-among
beside_all-requires-clause-among g c =
    let names = option_map (λ m. m.now) c.args.names in
    let all : c.in_ok-all.all ≡ row_names names (length c.args.contents.now) = c.in_ok-all.ensures ∙
    ap (row_names names) c.len.ensures in
    subst (λ ns. AllByRecursion (λ k. is_among k ns ≡ true) c.args.wanted.now) (sym all)
    c.requires.found

pub row-requires-clause-names : goal.row-requires-clause-names
row-requires-clause-names g c =
    wanted_names c.args.wanted.now c.in_ok-wanted-in-Some.wanted c.args.contents.now
    c.in_ok-kept.kept (λ k. beside empty k c.in_ok-all.all c.args.contents.now)
    c.in_ok-wanted-in-Some.ensures c.in_ok-kept.ensures c.requires.distinct

pub row-requires-clause-valid : goal.row-requires-clause-valid
row-requires-clause-valid g c =
    let names = option_map (λ m. m.now) c.args.names in
    let all : c.in_ok-all.all ≡ row_names names (length c.args.contents.now) = c.in_ok-all.ensures ∙
    ap (row_names names) c.len.ensures in
    let kept = c.in_ok-kept.ensures ∙ ap (λ a. map (λ k. beside empty k a c.args.contents.now)
    c.args.wanted.now) all in
    subst (λ ys. AllReach c.args.n (layouts_from ys)) (sym kept)
    (rows_valid_of (fields c.args.wanted.now) names c.args.n c.args.contents.now
    c.requires.distinct c.requires.valid c.requires.found).2

pub row-requires-in-None-clause-valid : goal.row-requires-in-None-clause-valid
row-requires-in-None-clause-valid g c =
    let names = option_map (λ m. m.now) c.args.names in
    let all : c.in_ok-all.all ≡ row_names names (length c.args.contents.now) = c.in_ok-all.ensures ∙
    ap (row_names names) c.len.ensures in
    let kept = c.in_ok-kept.ensures ∙ ap (λ a. map (λ k. beside empty k a c.args.contents.now)
    c.args.wanted.now) all in
    subst (λ ys. AllReach c.args.n (layouts_from ys)) (sym kept)
    (rows_valid_of (fields c.args.wanted.now) names c.args.n c.args.contents.now
    c.requires.distinct c.requires.valid c.requires.found).2
