use Rattle.awk_pair_operands.proofs.TypeLaws.{literal_no_list}
use Rattle.awk_pair_operands.proofs.types.lists_down.Goals as goal

pub returns-in-Literal : goal.returns-in-Literal
returns-in-Literal c = literal_no_list c.args.k c.args.x.now c.in-Literal.field-0 c.in-Literal.is
