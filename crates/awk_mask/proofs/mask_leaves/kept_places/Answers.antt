use Rattle.std.proofs.Common.{arith}
use Rattle.awk_mask.proofs.MaskLeaves.{size-truths_in}
use Rattle.awk_mask.proofs.mask_leaves.kept_places.Goals as goal

pub made_lane-requires-clause-ready : goal.made_lane-requires-clause-ready
made_lane-requires-clause-ready g c =
    omega (
      arith,
      size-truths_in c.truth_bytes-bytes.result.now c.args.truths.now c.truth_bytes-bytes.ensures,
      c.requires.fits,
    )
