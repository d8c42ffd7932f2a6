-- One group and one mark more.
use Rattle.std.proofs.Common.{◌∙◌, arith, take, ap, sym}
use Rattle.awk_lanes.specs.Numbers.{int_of}
use Rattle.awk_lanes.specs.declared.kind.Kind.TheVariants.{I8}
use Rattle.awk_lanes.proofs.RowLaws.{in_range, more_of, group_more}
use Rattle.awk_lanes.proofs.marked.marked_groups.Goals as goal

pub loop-i-preserved : goal.loop-i-preserved
loop-i-preserved g c =
    let at = g.S.MarkedNumbers.at c.args.source.now in
    let mark = g.S.MarkedNumbers.mark c.args.source.now in
    let kind = g.S.MarkedNumbers.kind c.args.source.now in
    let i = c.loop-i.i in
    let x = c.number-number.result.0 in
    let y = c.mark_of.result in
    let is_mark = c.mark_of.ensures.number ∙ c.number-number.ensures.mark in
    record {
      count = omega (arith, c.push_reserved.ensures.len, c.loop-i.invariant.count);
      room = c.push_reserved.ensures.capacity ∙ c.loop-i.invariant.room;
      items = group_more g.row.W i at (int_of x) c.first_bytes.result c.loop-i.groups.items _
          c.push_reserved.ensures.items (c.first_bytes.ensures ∙ ap (take g.row.W) c.bytes.ensures)
          c.number-number.ensures.number c.loop-i.invariant.items;
      numbers = more_of kind i at (int_of x) c.number-number.ensures.number
          (in_range kind x c.number-number.ensures.kind) c.loop-i.invariant.numbers;
      mark_count = omega (
        arith,
        c.push_reserved-in-loop-i.ensures.len,
        c.loop-i.invariant.mark_count,
      );
      mark_room = c.push_reserved-in-loop-i.ensures.capacity ∙ c.loop-i.invariant.mark_room;
      marks = group_more 1 i mark (int_of y) c.first_bytes-in-loop-i.result c.loop-i.marks.items _
          c.push_reserved-in-loop-i.ensures.items
          (c.first_bytes-in-loop-i.ensures ∙ ap (take 1) c.bytes-in-loop-i.ensures)
          is_mark c.loop-i.invariant.marks;
      bits = more_of I8 i mark (int_of y) is_mark (in_range I8 y c.mark_of.ensures.kind)
          c.loop-i.invariant.bits;
    }
