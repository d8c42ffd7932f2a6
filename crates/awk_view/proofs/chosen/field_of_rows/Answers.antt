use Rattle.std.proofs.Common.{◌≡◌, option_map, length, ap, ◌∙◌, subst}
use Rattle.std.specs.Prelude.{IfOk}
use Rattle.awk_types.specs.Names.{place_of}
use Rattle.awk_view.specs.Choice.{row_names}
use Rattle.awk_view.specs.Layouts.{first_items}
use Rattle.awk_view.proofs.RowSteps.{place_in, field_at, field_reaches}
use Rattle.awk_view.proofs.chosen.field_of_rows.Goals as goal

pub get-requires : goal.get-requires
get-requires g c =
    let names = option_map (λ m. m.now) c.args.names in
    let all : c.in_ok-all.all ≡ row_names names (length c.args.contents.now) = c.in_ok-all.ensures ∙
    ap (row_names names) c.len.ensures in
    place_in c.args.name.now names c.args.n c.args.contents.now c.place_of.result
    (c.place_of.ensures ∙ ap (place_of c.args.name.now) all) c.requires.valid c.requires.found

pub first_items-requires : goal.first_items-requires
first_items-requires g c =
    let names = option_map (λ m. m.now) c.args.names in
    let all : c.in_ok-all.all ≡ row_names names (length c.args.contents.now) = c.in_ok-all.ensures ∙
    ap (row_names names) c.len.ensures in
    let node = field_at c.args.name.now names c.args.contents.now c.place_of.result c.get.result.now
    (c.place_of.ensures ∙ ap (place_of c.args.name.now) all) c.get.ensures in
    field_reaches c.args.name.now names c.args.n c.args.contents.now c.get.result.now node
    c.requires.valid c.requires.found

pub returns-clause-node : goal.returns-clause-node
returns-clause-node g c =
    let names = option_map (λ m. m.now) c.args.names in
    let all : c.in_ok-all.all ≡ row_names names (length c.args.contents.now) = c.in_ok-all.ensures ∙
    ap (row_names names) c.len.ensures in
    let node = field_at c.args.name.now names c.args.contents.now c.place_of.result c.get.result.now
    (c.place_of.ensures ∙ ap (place_of c.args.name.now) all) c.get.ensures in
    subst (λ y. IfOk c.first_items.result (λ made. made ≡ first_items c.args.n y)) node
    c.first_items.ensures.node
