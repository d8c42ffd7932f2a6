use Rattle.std.proofs.Common.{◌+◌, arith, length}
use Rattle.awk_lanes.specs.Places.{place_at}
use Rattle.awk_sorting.specs.Parts.{SortsPart}
use Rattle.awk_sorting.proofs.PartLaws.{sorts_more, part_before}
use Rattle.awk_sorting.proofs.parts.sort_slice_parts.Goals as goal

pub loop-i-preserved : goal.loop-i-preserved
loop-i-preserved g c =
    let o = c.args.offsets.now in
    let next = c.requires.rising.ordered c.loop-i.i (omega arith) in
    let done : SortsPart g.N.Number.number c.args.up (place_at o c.loop-i.i)
    (place_at o (c.loop-i.i + 1)) c.loop-i.numbers c.sort_part.new.numbers =
    rw (← c.offset_at-start.ensures, ← c.offset_at-stop.ensures) c.sort_part.ensures in
    sorts_more g.N.Number.number c.args.up o c.loop-i.i c.args.numbers.now c.loop-i.numbers
    c.sort_part.new.numbers
    (part_before o c.args.n (length c.args.numbers.now) c.loop-i.i c.requires.rising
    (omega arith))
    next c.loop-i.invariant done
