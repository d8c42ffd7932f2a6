use Rattle.awk_lanes.specs.Numbers.{int_of}
use Rattle.awk_lanes.proofs.MadeLanes.{so_far_pushed}
use Rattle.awk_nulls.proofs.first_items.first_places.Goals as goal

pub loop-i-preserved : goal.loop-i-preserved
loop-i-preserved c =
    so_far_pushed _ _ _ c.loop-i.i (int_of c.first_place-place.result) c.loop-i.maker
    c.push.new.self c.push.ensures c.first_place-place.ensures.number c.loop-i.invariant
