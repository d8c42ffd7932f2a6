use Rattle.awk_types.specs.ItemLimit.{item_limit}
use Rattle.awk_order.proofs.NullLaws.{offsets_before}
use Rattle.std.proofs.Common.{◌∙◌, arith}
use Rattle.awk_order.proofs.nulls.present_first.Goals as goal

pub places_of-requires-clause-total : goal.places_of-requires-clause-total
places_of-requires-clause-total g c =
    c.place_in-total.ensures.value
    ∙ offsets_before c.args.offsets.now c.args.count item_limit c.requires.ready.all
    c.requires.ready.first c.args.count (omega arith)
