use Rattle.std.proofs.Common.{◌+◌, ap, sym, subst, ◌∙◌}
use Rattle.std.specs.Prelude.{slice_range}
use Rattle.awk_layout.specs.Typing.{array_type, array_items}
use Rattle.awk_lanes.specs.Places.{place_at}
use Rattle.awk_pair_levels.specs.Single.{IsInside, IsItem}
use Rattle.awk_pair_levels.proofs.ItemLaws.{item_lists, item_items}
use Rattle.awk_pair_levels.proofs.items.item_below.Goals as goal

pub returns-in_ok-item-in-Lists : goal.returns-in_ok-item-in-Lists
returns-in_ok-item-in-Lists g c =
    let q = c.place_in.result + c.args.k in
    let y = c.content-content.ensures.content in
    subst (λ p. IsItem c.args.i c.args.k p c.in_ok-item-in-Lists.item) (sym c.in-Lists.is)
    (item_lists c.in-Lists.lists c.args.i c.args.k q c.in_ok-item-in-Lists.item
    (ap (λ p. p + c.args.k)
    (c.place_in.ensures.value ∙ ap (λ s. place_at s c.args.i) c.starts.ensures))
    c.content-content.ensures.lists
    (subst (IsInside c.args.i c.args.k) c.in-Lists.is c.requires.inside)
    (c.in_ok-item-in-Lists.ensures.typ ∙ ap array_type y)
    (c.in_ok-item-in-Lists.ensures.items ∙ ap (λ x. slice_range (array_items x) q (q + 1)) y))

pub returns-in_ok-item-in-Items : goal.returns-in_ok-item-in-Items
returns-in_ok-item-in-Items g c =
    subst (λ p. IsItem c.args.i c.args.k p c.in_ok-item-in-Items.item) (sym c.in-Items.is)
    (item_items c.in-Items.column c.args.i c.args.k c.in_ok-item-in-Items.item
    (subst (IsInside c.args.i c.args.k) c.in-Items.is c.requires.inside)
    c.in_ok-item-in-Items.ensures.typ c.in_ok-item-in-Items.ensures.items)
