-- One group more.
use Rattle.std.proofs.Common.{◌∙◌, arith, take, ap}
use Rattle.awk_lanes.specs.Numbers.{int_of}
use Rattle.awk_lanes.proofs.RowLaws.{in_range, more_of, group_more}
use Rattle.awk_lanes.proofs.made.number_groups.Goals as goal

pub loop-i-preserved : goal.loop-i-preserved
loop-i-preserved g c = record {
  count = omega (arith, c.push_reserved.ensures.len, c.loop-i.invariant.count);
  room = c.push_reserved.ensures.capacity ∙ c.loop-i.invariant.room;
  items = group_more g.row.W c.loop-i.i (g.S.Numbers.at c.args.source.now)
      (int_of c.number.result) c.first_bytes.result c.loop-i.groups.items _
      c.push_reserved.ensures.items (c.first_bytes.ensures ∙ ap (take g.row.W) c.bytes.ensures)
      c.number.ensures.number c.loop-i.invariant.items;
  numbers = more_of (g.S.Numbers.kind c.args.source.now) c.loop-i.i
      (g.S.Numbers.at c.args.source.now) (int_of c.number.result) c.number.ensures.number
      (in_range (g.S.Numbers.kind c.args.source.now) c.number.result c.number.ensures.kind)
      c.loop-i.invariant.numbers;
}
