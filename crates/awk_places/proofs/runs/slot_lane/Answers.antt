use Rattle.awk_places.specs.Runs.{slot_runs}
use Rattle.awk_places.proofs.RunLaws.{rows_put}
use Rattle.awk_places.proofs.runs.slot_lane.Goals as goal

pub loop-i-preserved : goal.loop-i-preserved
loop-i-preserved g c =
    rows_put (slot_runs c.args.slot.now) c.loop-i.i c.loop-i.made c.put_row.new.made
    c.loop-i.invariant c.in_ok-put_row.ensures
