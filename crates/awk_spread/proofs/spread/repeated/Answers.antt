use Rattle.std.proofs.Common.{refl}
use Rattle.awk_lanes.proofs.MadeLanes.{so_far_pushed}
use Rattle.awk_spread.proofs.spread.repeated.Goals as goal

pub loop-i-preserved : goal.loop-i-preserved
loop-i-preserved c =
    so_far_pushed _ _ _ c.loop-i.i _ c.loop-i.maker c.push.new.self c.push.ensures refl
    c.loop-i.invariant
