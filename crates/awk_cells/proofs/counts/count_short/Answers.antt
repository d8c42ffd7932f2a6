use Rattle.std.proofs.Common.{◌/◌, length, ap, arith}
use Rattle.std.specs.List.{sum_by}
use Rattle.awk_kernels.specs.Kernels.{count_true}
use Rattle.awk_cells.proofs.CountLaws.{count_blocks, count_within}
use Rattle.awk_cells.proofs.counts.count_short.Goals as goal

pub returns : goal.returns
returns c =
    let xs = c.args.bytes.now in
    let front = ap (sum_by count_true) c.as_chunks.ensures.front in
    let back = ap count_true c.as_chunks.ensures.back in
    omega (
      arith,
      c.blocks_count.ensures,
      c.count_few.ensures,
      front,
      back,
      count_blocks 8 (length xs / 8) xs,
    )

pub overflow_add-result : goal.overflow_add-result
overflow_add-result c =
    let xs = c.args.bytes.now in
    let front = ap (sum_by count_true) c.as_chunks.ensures.front in
    let back = ap count_true c.as_chunks.ensures.back in
    omega (
      arith,
      c.requires.few,
      c.blocks_count.ensures,
      c.count_few.ensures,
      front,
      back,
      count_blocks 8 (length xs / 8) xs,
      count_within xs,
    )
