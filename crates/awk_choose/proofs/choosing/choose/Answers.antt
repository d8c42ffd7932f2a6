use Rattle.awk_pair_operands.specs.First.{all_data}
use Rattle.awk_pair_types.proofs.DepthLaws.{never_wrong}
use Rattle.awk_choose.proofs.choosing.choose.Goals as goal

pub pair_types-requires-clause-right : goal.pair_types-requires-clause-right
pair_types-requires-clause-right g c = never_wrong 64 (all_data c.in_ok-xs.xs)
