use Rattle.std.proofs.Common.{◌∙◌}
use Rattle.awk_merge_sides.specs.Sides.{side_of, sides_of}
use Rattle.awk_merge_rows.proofs.OptionLaws.{present_room, present_next}
use Rattle.awk_merge_rows.proofs.options.option_level.Goals as goal

pub put_side-requires-clause-room : goal.put_side-requires-clause-room
put_side-requires-clause-room g c =
    present_room (sides_of c.args.sides.now) c.loop-i.i (side_of c.get.result.now)
    (sides_of c.loop-i.present) c.loop-i.maker c.get.ensures c.loop-i.invariant.room
    c.loop-i.invariant.present

pub loop-i-preserved : goal.loop-i-preserved
loop-i-preserved g c = record {
  counted = c.in_ok-put_side.ensures.counted;
  kind = c.in_ok-put_side.ensures.put.kind ∙ c.loop-i.invariant.kind;
  room = c.in_ok-put_side.ensures.put.room ∙ c.loop-i.invariant.room;
  present = present_next (sides_of c.args.sides.now) c.loop-i.i (side_of c.get.result.now)
      (sides_of c.loop-i.present) (sides_of c.put_side.new.present) c.loop-i.maker
      c.put_side.new.maker c.get.ensures c.in_ok-put_side.ensures.put c.loop-i.invariant.present;
}
