use Rattle.std.proofs.Common.{◌-◌, arith}
use Rattle.awk_lists.proofs.RunLaws.{runs_room}
use Rattle.awk_lists.proofs.runs.put_runs.Goals as goal

pub push-requires-clause-room : goal.push-requires-clause-room
push-requires-clause-room g c =
    runs_room c.loop-next.maker.items c.args.maker.now.items
    (c.run_end-end.result - c.loop-next.next) c.loop-next.maker.room _ _ _
    c.run_end-end.ensures.run c.loop-next.invariant.items
    (omega (arith, c.requires.room, c.loop-next.invariant.room))
