use Rattle.std.proofs.Common.{◌≡◌, ◌*◌, ◌/◌, length, drop, ap, arith}
use Rattle.std.specs.List.{sum_by}
use Rattle.std.proofs.lemmas.List.{drop_all}
use Rattle.awk_kernels.specs.Kernels.{count_true}
use Rattle.awk_cells.proofs.CountLaws.{count_blocks}
use Rattle.awk_cells.proofs.counts.count_few.Goals as goal

pub returns : goal.returns
returns c =
    let xs = c.args.bytes.now in
    let k = length xs / 1 in
    let front = ap (sum_by count_true) c.as_chunks.ensures.front in
    let none : count_true (drop (k * 1) xs) ≡ 0 =
    ap count_true (drop_all (k * 1) xs (omega arith)) in
    omega (arith, c.blocks_count.ensures, front, none, count_blocks 1 k xs)
