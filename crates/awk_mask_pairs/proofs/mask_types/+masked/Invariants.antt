use Rattle.std.proofs.Common.{◌+◌}
use Rattle.awk_types.specs.DataType.{depth}
use Rattle.awk_types.specs.View.{typ_of}
use Rattle.awk_mask_pairs.proofs.mask_types.+masked.Given as goal

abbrev pub decreases-masked_type : goal.decreases-masked_type
decreases-masked_type l = depth (typ_of l.u.now) + depth (typ_of l.t.now)

abbrev pub decreases-with_items : goal.decreases-with_items
decreases-with_items l = depth (typ_of l.u.now) + depth (typ_of l.t.now)
