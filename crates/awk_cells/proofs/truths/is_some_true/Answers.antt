use Rattle.std.proofs.Common.{◌-◌, ◌*◌, ◌/◌, ◌≤◌, length, arith}
use Rattle.awk_lanes.specs.Numbers.{is_nonzero}
use Rattle.awk_cells.proofs.TruthLaws.{any_parts}
use Rattle.awk_cells.proofs.truths.is_some_true.Goals as goal

pub returns : goal.returns
returns g c =
    let gs = c.args.groups.now in
    let n = length gs / 8 * 8 in
    let m = length gs - 8 in
    let over : m ≤ n = omega arith in
    any_parts is_nonzero g.C.Cell.number gs n m over c.eights_of.ensures.front
    c.eights_of.ensures.last c.both.ensures c.are_blocks_zero.ensures c.are_all_zero-2.ensures
