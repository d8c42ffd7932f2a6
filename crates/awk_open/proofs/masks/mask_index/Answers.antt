use Rattle.awk_open.proofs.MaskLanes.{mask_lane-groups}
use Rattle.awk_open.proofs.masks.mask_index.Goals as goal

pub returns : goal.returns
returns g c =
    mask_lane-groups c.args.mask.now c.narrow_bytes.result.now c.requires.kind
    c.narrow_bytes.ensures.size c.narrow_bytes.ensures.numbers c.as_chunks.result.0.now
    c.args.valid_when c.as_chunks.ensures.front
