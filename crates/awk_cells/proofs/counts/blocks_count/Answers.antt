use Rattle.std.proofs.Common.{ap, arith}
use Rattle.std.proofs.lemmas.List.Sums.{sum_by_more}
use Rattle.awk_kernels.specs.Kernels.{count_true}
use Rattle.awk_cells.proofs.counts.blocks_count.Goals as goal

pub loop-i-preserved : goal.loop-i-preserved
loop-i-preserved g c =
    let block = c.index-blocks-i.result in
    let more =
    sum_by_more count_true c.args.blocks.now c.loop-i.i block c.loop-i-test.true in
    record {
      count =
          omega (
            arith,
            more,
            ap count_true c.index-blocks-i.is,
            c.loop-i.invariant.count,
            c.from-count.ensures,
            c.block_count.ensures.count,
          );
      few =
          omega (
            arith,
            c.loop-i.invariant.few,
            c.from-count.ensures,
            c.block_count.ensures.few,
          );
    }
