use Rattle.awk_pair_operands.proofs.FirstLaws.{length_arr}
use Rattle.awk_pair_operands.proofs.first.length_of.Goals as goal

pub returns-in-Arr-clause-length : goal.returns-in-Arr-clause-length
returns-in-Arr-clause-length c =
    length_arr c.args.x.now c.in-Of.datum c.in-Arr.x c.len.result c.in-Of.is c.in-Arr.is
    c.len.ensures.len
