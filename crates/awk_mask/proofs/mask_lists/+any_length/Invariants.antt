use Rattle.awk_types.specs.DataType.{depth}
use Rattle.awk_layout.specs.Typing.{array_type}
use Rattle.awk_mask.proofs.mask_lists.+any_length.Given as goal

abbrev pub decreases-any_length : goal.decreases-any_length
decreases-any_length g l = depth (array_type l.m.now)
