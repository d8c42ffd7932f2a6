use Rattle.std.proofs.Common.{arith, sym}
use Rattle.awk_lists.proofs.RunLaws.{run_longer, run_ends}
use Rattle.awk_lists.proofs.runs.run_end.Goals as goal

pub returns-then-not-is_same-clause-run : goal.returns-then-not-is_same-clause-run
returns-then-not-is_same-clause-run g c =
    run_ends c.args.items.now c.args.start c.args.stop c.loop-i.i c.loop-i.invariant.after
    (omega (arith, c.loop-i-test.true)) (sym c.if-not-is_same.ensures) c.loop-i.invariant.run

pub loop-i-preserved : goal.loop-i-preserved
loop-i-preserved g c = record {
  after = omega (arith, c.loop-i.invariant.after);
  run = run_longer c.args.items.now c.args.start c.args.stop c.loop-i.i c.loop-i.invariant.after
      (omega (arith, c.loop-i-test.true)) (sym c.if-not-is_same.ensures) c.loop-i.invariant.run;
}
