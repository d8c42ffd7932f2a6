use Rattle.std.proofs.Common.{arith}
use Rattle.awk_pair_operands.proofs.FirstLaws.{columns_count, column_get, long_both, row_push}
use Rattle.awk_pair_operands.proofs.FirstLaws.{row_all}
use Rattle.awk_pair_operands.proofs.first.row_columns.Goals as goal

pub get-requires-in-loop-i : goal.get-requires-in-loop-i
get-requires-in-loop-i g c =
    omega (
      arith,
      c.loop-i-test.true,
      c.len-i-end.ensures,
      columns_count c.args.xs.now c.args.columns.now c.requires.columns,
    )

pub row_column-requires-clause-column : goal.row_column-requires-clause-column
row_column-requires-clause-column g c =
    column_get c.args.xs.now c.args.columns.now c.loop-i.i c.get.result.now
    c.get-in-loop-i.result.now c.get.ensures.item c.get-in-loop-i.ensures c.requires.columns

pub row_column-requires-clause-long : goal.row_column-requires-clause-long
row_column-requires-clause-long g c =
    (long_both c.args.n c.args.xs.now c.loop-i.i c.get.result.now c.get.ensures.item
    c.loop-i.invariant.long).0

pub loop-i-preserved : goal.loop-i-preserved
loop-i-preserved g c = record {
  long = (long_both c.args.n c.args.xs.now c.loop-i.i c.get.result.now c.get.ensures.item
      c.loop-i.invariant.long).1;
  made = row_push c.args.n c.args.xs.now c.loop-i.arrays c.push.new.self c.loop-i.i
      c.get.result.now c.in_ok-array.array c.get.ensures.item c.in_ok-push.ensures.ok
      c.loop-i.invariant.made c.in_ok-array.ensures;
}

pub returns : goal.returns
returns g c =
    row_all c.args.n c.args.xs.now c.loop-i.arrays c.loop-i.i
    (omega (arith, c.loop-i-test.false, c.len-i-end.ensures)) c.loop-i.invariant.made
