use Rattle.std.proofs.Common.{ap, ap₂, false, ◌∙◌}
use Rattle.awk_layout.specs.Layout.{flat, byte_masked}
use Rattle.awk_layout.specs.Typing.{array_items}
use Rattle.awk_choose.proofs.MaskLaws.{masked-items, present-items}
use Rattle.awk_choose.proofs.types.chosen_node.Goals as goal

pub returns-then-not-optional-clause-items : goal.returns-then-not-optional-clause-items
returns-then-not-optional-clause-items g c =
    let r = c.args.chosen.now in
    ap array_items (c.numpy-leaves.ensures.node ∙ ap flat c.copy.ensures)
    ∙ present-items r.nulls r.lane c.requires.sizes (c.requires.present c.if-not-optional.true)

pub returns-clause-items : goal.returns-clause-items
returns-clause-items g c =
    let r = c.args.chosen.now in
    ap array_items (c.byte_masked.ensures.node
    ∙ ap₂ (λ m y. byte_masked m false y) c.copy-2.ensures
    (c.in_ok-leaves.ensures.ok ∙ c.numpy-leaves.ensures.node ∙ ap flat c.copy.ensures))
    ∙ masked-items r.nulls r.lane c.requires.mask c.requires.sizes
