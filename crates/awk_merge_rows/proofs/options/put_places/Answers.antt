use Rattle.std.proofs.Common.{◌+◌}
use Rattle.std.specs.Prelude.{pos}
use Rattle.awk_lanes.specs.Numbers.{int_of}
use Rattle.awk_merge_rows.proofs.OptionLaws.{items_room, items_next}
use Rattle.awk_merge_rows.proofs.options.put_places.Goals as goal

pub push-requires-clause-room : goal.push-requires-clause-room
push-requires-clause-room c =
    items_room (λ i. pos (c.args.first + i)) c.args.maker.now c.loop-i.maker c.loop-i.i c.args.n
    c.loop-i.invariant c.loop-i-test.true c.requires.room

pub loop-i-preserved : goal.loop-i-preserved
loop-i-preserved c =
    items_next (λ i. pos (c.args.first + i)) c.args.maker.now c.loop-i.maker c.push.new.self
    c.loop-i.i (int_of c.number.result) c.push.ensures c.number.ensures.number c.loop-i.invariant
