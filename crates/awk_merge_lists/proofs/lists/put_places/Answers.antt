use Rattle.std.proofs.Common.{◌+◌, arith, ap, ◌∙◌}
use Rattle.std.specs.Prelude.{pos, min}
use Rattle.awk_lanes.specs.Numbers.{int_of}
use Rattle.awk_lanes.specs.Places.{size_of}
use Rattle.awk_merge_lists.specs.Lists.{moved_place}
use Rattle.awk_merge_lists.proofs.MadePlaces.{put_next, put_room}
use Rattle.awk_merge_lists.proofs.lists.put_places.Goals as goal

pub push-requires-clause-room : goal.push-requires-clause-room
push-requires-clause-room g c =
    put_room (moved_place c.args.base c.args.n c.args.ends.now) c.loop-i.i (size_of c.args.ends.now)
    c.args.maker.now c.loop-i.maker (omega (arith, c.loop-i-test.true, c.len-i-end.ensures.len))
    c.requires.room c.loop-i.invariant

pub loop-i-preserved : goal.loop-i-preserved
loop-i-preserved g c =
    put_next (moved_place c.args.base c.args.n c.args.ends.now) c.loop-i.i
    (int_of c.number.result) c.args.maker.now c.loop-i.maker c.push.new.self c.push.ensures
    (c.number.ensures.number ∙ ap (λ k. pos (c.args.base + k)) (c.min-end.ensures
    ∙ ap (λ k. min k c.args.n) c.end_at.ensures)) c.loop-i.invariant
