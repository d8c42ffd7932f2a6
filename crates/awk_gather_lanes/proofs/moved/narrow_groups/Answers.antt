use Rattle.std.proofs.Common.{refl, ◌∙◌, arith}
use Rattle.awk_gather_lanes.specs.Moved.{narrow_group}
use Rattle.awk_gather_lanes.proofs.MovedGroups.{group_pushed}
use Rattle.awk_gather_lanes.proofs.moved.narrow_groups.Goals as goal

pub loop-i-preserved : goal.loop-i-preserved
loop-i-preserved c = record {
  end = refl;
  count = omega (arith, c.push_reserved.ensures.len, c.loop-i.invariant.count);
  room = c.push_reserved.ensures.capacity ∙ c.loop-i.invariant.room;
  items =
      group_pushed (narrow_group c.args.places.now) c.loop-i.i c.narrow.result c.loop-i.moved.items
      _ c.push_reserved.ensures.items c.narrow.ensures c.loop-i.invariant.items;
}
