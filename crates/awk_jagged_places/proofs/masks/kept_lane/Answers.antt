use Rattle.std.proofs.Common.{◌+◌, arith}
use Rattle.awk_jagged_places.specs.Leaves.{mask_numbers}
use Rattle.awk_jagged_places.proofs.PutLaws.{made-room_more, made-more}
use Rattle.awk_jagged_places.proofs.masks.kept_lane.Goals as goal

pub put_list-requires-clause-room : goal.put_list-requires-clause-room
put_list-requires-clause-room g c =
    made-room_more (mask_numbers c.args.picks.now.xs.now c.args.picks.now.ws.now) c.args.n
    c.args.total c.loop-i.i c.loop-i.made c.requires.total (omega (arith, c.loop-i-test.true))
    c.loop-i.invariant

pub loop-i-preserved : goal.loop-i-preserved
loop-i-preserved g c =
    made-more (mask_numbers c.args.picks.now.xs.now c.args.picks.now.ws.now)
    (c.args.total + 1) c.loop-i.i c.loop-i.made c.put_list.new.made c.loop-i.invariant
    c.put_list.ensures
