use Rattle.awk_pair_operands.proofs.FirstLaws.{first_found, first_next}
use Rattle.awk_pair_operands.proofs.first.first_length.Goals as goal

pub returns-in-Some-clause-length : goal.returns-in-Some-clause-length
returns-in-Some-clause-length c =
    first_found c.args.xs.now c.loop-i.i c.get.result.now c.in-Some.n c.get.ensures.item
    c.in-Some.ensures.length c.loop-i.invariant

pub loop-i-preserved : goal.loop-i-preserved
loop-i-preserved c =
    first_next c.args.xs.now c.loop-i.i c.get.result.now c.get.ensures.item
    c.in-None.ensures.length c.loop-i.invariant
