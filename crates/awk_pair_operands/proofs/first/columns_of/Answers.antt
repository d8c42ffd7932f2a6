use Rattle.std.proofs.Common.{arith}
use Rattle.awk_pair_operands.proofs.FirstLaws.{columns_push, columns_all, typed_push, typed_all}
use Rattle.awk_pair_operands.proofs.first.columns_of.Goals as goal

pub loop-i-preserved : goal.loop-i-preserved
loop-i-preserved g c = record {
  columns = columns_push c.args.xs.now c.loop-i.columns c.push.new.self c.loop-i.i
      c.get.result.now c.in_ok-column.column c.get.ensures.item c.in_ok-push.ensures.ok
      c.loop-i.invariant.columns c.in_ok-column.ensures.column;
  typed = typed_push c.args.xs.now c.loop-i.i c.get.result.now c.get.ensures.item
      c.loop-i.invariant.typed c.in_ok-column.ensures.typed;
}

pub returns-clause-columns : goal.returns-clause-columns
returns-clause-columns g c =
    columns_all c.args.xs.now c.loop-i.columns c.loop-i.i
    (omega (arith, c.loop-i-test.false, c.len-i-end.ensures)) c.loop-i.invariant.columns

pub returns-clause-typed : goal.returns-clause-typed
returns-clause-typed g c =
    typed_all c.args.xs.now c.loop-i.i (omega (arith, c.loop-i-test.false, c.len-i-end.ensures))
    c.loop-i.invariant.typed
