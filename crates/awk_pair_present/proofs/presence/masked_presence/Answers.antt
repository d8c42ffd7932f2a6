use Rattle.std.proofs.Common.{◌∙◌}
use Rattle.awk_pair_present.proofs.MaskedNumbers.{masked_presence}
use Rattle.awk_pair_present.proofs.presence.masked_presence.Goals as goal

pub returns-in_ok-content-in-Numpy : goal.returns-in_ok-content-in-Numpy
returns-in_ok-content-in-Numpy g c =
    masked_presence c.args.x.now c.in_ok-content-in-Numpy.content c.in-ByteMasked.content.now
    c.node.result.now c.in-ByteMasked.mask.now c.in-Numpy.lane.now c.of_mask-index.result
    c.in-ByteMasked.valid_when c.in-Numpy.ensures.class c.in-ByteMasked.ensures.class
    c.node.ensures c.len.ensures.valid (c.of_mask-index.ensures ∙ c.mask_index.ensures)
    (c.in_ok-content-in-Numpy.ensures ∙ c.in_ok-copy-in-Numpy.ensures)
