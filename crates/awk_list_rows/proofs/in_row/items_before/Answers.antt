use Rattle.std.proofs.Common.{◌≡◌, ◌-◌, ◌<◌, ◌≤◌, arith, ap, sym, subst, ◌∙◌}
use Rattle.std.specs.Prelude.{None, slice_range}
use Rattle.awk_types.specs.Limit.{limit}
use Rattle.awk_lanes.specs.Places.{size_of, place_at}
use Rattle.awk_layout.specs.Layout.{Layout}
use Rattle.awk_layout.specs.Typing.{array_type, array_items}
use Rattle.awk_layout.specs.Valid.{len}
use Rattle.awk_list_rows.proofs.InRowLaws.{offset-place}
use Rattle.awk_list_rows.proofs.in_row.items_before.Goals as goal

pub of_node-requires : goal.of_node-requires
of_node-requires g c =
    subst (λ (x : Layout). limit (array_type x) ≡ None) (sym c.in_ok-copy.ensures) c.requires.limit

pub place_in-end-requires-clause-kind : goal.place_in-end-requires-clause-kind
place_in-end-requires-clause-kind g c = c.requires.valid.1.kind

pub place_in-end-requires-clause-within : goal.place_in-end-requires-clause-within
place_in-end-requires-clause-within g c =
    omega (arith, c.len-last.ensures.len, c.requires.valid.1.some)

pub place_in-end-requires-clause-positive : goal.place_in-end-requires-clause-positive
place_in-end-requires-clause-positive g c =
    (offset-place c.args.offsets.now (len c.args.content.now) c.requires.valid.1 c.requires.first
    (c.len-last.result - 1) (omega (arith, c.len-last.ensures.len, c.requires.valid.1.some))).0

pub range-requires-clause-within : goal.range-requires-clause-within
range-requires-clause-within g c =
    let n : c.len-last.result - 1 < size_of c.args.offsets.now =
    omega (arith, c.len-last.ensures.len, c.requires.valid.1.some) in
    let most : place_at c.args.offsets.now (c.len-last.result - 1) ≤ len c.args.content.now =
    (offset-place c.args.offsets.now (len c.args.content.now) c.requires.valid.1 c.requires.first
    (c.len-last.result - 1) n).1 in
    let same = ap len (c.in_ok-content.ensures ∙ c.in_ok-copy.ensures) in
    omega (arith, c.place_in-end.ensures.value, most, same)

pub returns-clause-items : goal.returns-clause-items
returns-clause-items g c =
    c.in_ok-items.ensures.items
    ∙ ap (λ y. slice_range (array_items y) 0 c.place_in-end.result)
    (c.in_ok-content.ensures ∙ c.in_ok-copy.ensures)
    ∙ ap (slice_range (array_items c.args.content.now) 0)
    (c.place_in-end.ensures.value
    ∙ ap (λ n. place_at c.args.offsets.now (n - 1)) c.len-last.ensures.len)

pub returns-clause-typ : goal.returns-clause-typ
returns-clause-typ g c =
    c.in_ok-items.ensures.typ ∙ ap array_type (c.in_ok-content.ensures ∙ c.in_ok-copy.ensures)
