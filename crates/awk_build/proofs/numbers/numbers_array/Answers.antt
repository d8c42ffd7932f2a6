use Rattle.std.proofs.Common.{◌∙◌, ap}
use Rattle.awk_layout.specs.Layout.{flat}
use Rattle.awk_layout.specs.Typing.{array_items}
use Rattle.awk_build.proofs.NumberLaws.{numbers_lane}
use Rattle.awk_build.proofs.numbers.numbers_array.Goals as goal

pub returns-clause-items : goal.returns-clause-items
returns-clause-items g c =
    ap array_items
    (c.with_type.ensures ∙ c.numpy-node.ensures.node ∙ ap flat c.in_ok-lane.ensures)
    ∙ numbers_lane c.args.numbers.now
