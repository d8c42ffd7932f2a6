use Rattle.std.proofs.Common.{arith, ap, ◌∙◌}
use Rattle.awk_lanes.specs.Numbers.{int_of}
use Rattle.awk_lanes.specs.Places.{size_of, option_place_at}
use Rattle.awk_merge_rows.specs.Present.{moved}
use Rattle.awk_merge_rows.proofs.OptionLaws.{items_room, items_next}
use Rattle.awk_merge_rows.proofs.options.put_index.Goals as goal

pub push-requires-clause-room : goal.push-requires-clause-room
push-requires-clause-room g c =
    items_room (λ i. moved c.args.first (option_place_at c.args.index.now i)) c.args.maker.now
    c.loop-i.maker c.loop-i.i (size_of c.args.index.now) c.loop-i.invariant
    (omega (arith, c.loop-i-test.true, c.len-i-end.ensures.len)) c.requires.room

pub loop-i-preserved : goal.loop-i-preserved
loop-i-preserved g c =
    items_next (λ i. moved c.args.first (option_place_at c.args.index.now i)) c.args.maker.now
    c.loop-i.maker c.push.new.self c.loop-i.i (int_of c.moved.result) c.push.ensures
    (c.moved.ensures.number ∙ ap (moved c.args.first) c.option_place_in.ensures.value)
    c.loop-i.invariant
