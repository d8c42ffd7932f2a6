use Rattle.std.proofs.Common.{arith}
use Rattle.awk_types.specs.View.{typ_of}
use Rattle.awk_mask.proofs.DepthLaws.{few-levels}
use Rattle.awk_mask.proofs.masking.depth_of.Goals as goal

pub overflow_add-result : goal.overflow_add-result
overflow_add-result c =
    omega (arith, c.mask_levels.ensures, few-levels (typ_of c.args.u.now) c.requires)

pub returns : goal.returns
returns c =
    omega (arith, c.mask_levels.ensures, few-levels (typ_of c.args.u.now) c.requires)
