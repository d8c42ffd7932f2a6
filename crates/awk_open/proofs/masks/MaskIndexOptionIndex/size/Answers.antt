use Rattle.std.proofs.Common.{◌∙◌, ap, sym}
use Rattle.awk_lanes.specs.Places.{size_of}
use Rattle.awk_open.proofs.MaskLanes.{size-mask_lane}
use Rattle.awk_open.proofs.masks.MaskIndexOptionIndex.size.Goals as goal

pub returns : goal.returns
returns c =
    let x = c.self.inside in
    sym (size-mask_lane x.bytes.now x.valid_when) ∙ ap size_of c.self.view_is
