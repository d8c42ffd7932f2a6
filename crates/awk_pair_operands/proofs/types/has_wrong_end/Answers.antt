use Rattle.awk_pair_operands.proofs.TypeLaws.{wrong_none, wrong_some}
use Rattle.awk_pair_operands.proofs.types.has_wrong_end.Goals as goal

pub returns-in-None : goal.returns-in-None
returns-in-None c =
    wrong_none c.args.xs.now c.args.depth c.all_levels.result c.is_wrong.result c.in-None.is
    c.all_levels.ensures c.is_wrong.ensures

pub returns-in-Some : goal.returns-in-Some
returns-in-Some c = wrong_some c.args.xs.now c.args.depth c.in-Some.field-0 c.in-Some.is
