use Rattle.std.proofs.Common.{◌∙◌, sym, subst, ap₂, arith}
use Rattle.awk_lanes.specs.Column.{Column}
use Rattle.awk_layout.specs.Layout.{Layout, optional}
use Rattle.awk_layout.specs.Typing.{array_type}
use Rattle.awk_layout.proofs.ArrayItems.{length-array_items}
use Rattle.awk_parts.specs.Parts.{AreRising}
use Rattle.awk_order.specs.Lists.{AreMade}
use Rattle.awk_order.specs.Order.{items_in_order}
use Rattle.awk_order.proofs.NullLaws.{nulls_ready, index-size, index_valid, optional_made}
use Rattle.awk_order.proofs.values.optional_in_order.Goals as goal

pub present_of-requires-clause-rising : goal.present_of-requires-clause-rising
present_of-requires-clause-rising g c =
    let x = c.args.x.now in
    subst (AreRising x.offsets.now x.count) (sym (length-array_items x.items.now))
    c.requires.items.rising

pub present_of-requires-clause-last : goal.present_of-requires-clause-last
present_of-requires-clause-last g c =
    c.requires.items.last ∙ sym (length-array_items c.args.x.now.items.now)

pub present_of-requires-clause-few : goal.present_of-requires-clause-few
present_of-requires-clause-few g c =
    omega (arith, length-array_items c.args.x.now.items.now, c.requires.items.few)

pub present_first-requires : goal.present_first-requires
present_first-requires g c =
    let x = c.args.x.now in
    record {
      ready = nulls_ready x.items.now x.offsets.now x.count c.in_ok-present.present c.requires.items
          c.in_ok-present.ensures;
    }

pub numpy-requires : goal.numpy-requires
numpy-requires g c =
    omega (
      arith,
      c.in_ok-lane.ensures.size,
      c.in_ok-present.ensures.few,
      length-array_items c.args.x.now.items.now,
      c.requires.items.few,
    )

pub indexed_option-requires : goal.indexed_option-requires
indexed_option-requires g c =
    let x = c.args.x.now in
    let o = x.offsets.now in
    let p = c.in_ok-present.present in
    let r = c.in_ok-lane.lane in
    let size = index-size x.items.now o x.count c.requires.items c.len.ensures.items p
    c.in_ok-present.ensures c.args.up r c.in_ok-lane.ensures in
    let valid = index_valid x.items.now o x.count c.requires.items c.len.ensures.items p
    c.in_ok-present.ensures c.args.up r c.in_ok-lane.ensures in
    record {
      length = rw (c.in_ok-index.ensures) (omega (arith, size, c.requires.items.few));
      valid = rw (c.in_ok-index.ensures, c.in_ok-content.ensures.ok, c.numpy.ensures.node) valid;
    }

pub returns : goal.returns
returns g c =
    let x = c.args.x.now in
    let o = x.offsets.now in
    let p = c.in_ok-present.present in
    let r = c.in_ok-lane.lane in
    let made = optional_made x.items.now o x.count c.requires.items c.len.ensures.items p
    c.in_ok-present.ensures c.args.up r c.in_ok-lane.ensures c.requires.optional
    c.requires.known in
    subst (AreMade (array_type x.items.now) (items_in_order c.args.up) x.items.now o x.count)
    (sym (c.indexed_option.ensures.node
    ∙ ap₂ (λ (j : Column) (y : Layout). optional j y) c.in_ok-index.ensures
    (c.in_ok-content.ensures.ok ∙ c.numpy.ensures.node))) made
