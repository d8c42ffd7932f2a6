use Rattle.std.specs.Prelude.{◌+◌}
use Rattle.awk_jagged_places.specs.Leaves.{mask_numbers}
use Rattle.awk_jagged_places.proofs.PutLaws.{AreMade}
use Rattle.awk_jagged_places.proofs.masks.kept_lane.Given as goal

-- the lists before this one are put
abbrev pub invariant-loop-i : goal.invariant-loop-i
invariant-loop-i g l =
    AreMade (mask_numbers l.picks.xs.now l.picks.ws.now) (l.total + 1) l.i l.made
