use Rattle.awk_pair_operands.proofs.TypeLaws.{levels_none}
use Rattle.awk_pair_operands.proofs.types.levels_below.Goals as goal

pub returns-in-None : goal.returns-in-None
returns-in-None c =
    levels_none c.args.xs.now c.args.depth c.all_levels.result c.in-None.is c.all_levels.ensures
