use Rattle.awk_gather.specs.Peeled.{IsPickedOpt}
use Rattle.awk_mask.proofs.MaskBytes.{composed_low}
use Rattle.awk_mask.proofs.MaskLeaves.{kept_index, kept_mask}
use Rattle.awk_mask.proofs.mask_leaves.masked_places.Goals as goal

pub option_over-requires-clause-places : goal.option_over-requires-clause-places
option_over-requires-clause-places g c =
    rw c.node.ensures
    (kept_index c.args.x.now c.args.m.now c.args.keep c.in_ok-places.places c.in_ok-places.ensures
    c.requires.lengths)

pub returns : goal.returns
returns g c =
    let picked : IsPickedOpt c.args.x.now c.in_ok-places.places c.in_ok-node.node =
    rw c.node.ensures at c.in_ok-node.ensures.items in
    record {
      items = kept_mask c.args.x.now c.args.m.now c.in_ok-node.node c.args.keep
          c.in_ok-places.places c.len-2.ensures.valid c.len.ensures.items c.requires.mask
          c.requires.lengths c.in_ok-places.ensures picked;
      low = composed_low c.in_ok-node.node c.in_ok-node.ensures.composed;
    }
