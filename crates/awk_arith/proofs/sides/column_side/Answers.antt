use Rattle.std.proofs.Common.{ap, sym}
use Rattle.std.specs.Prelude.{Some}
use Rattle.awk_ends.specs.Operands.{leaf_in}
use Rattle.awk_ends.specs.Columns.{IsLaneOf}
use Rattle.awk_ends.proofs.LaneLaws.{lane_sized}
use Rattle.awk_arith.proofs.sides.column_side.Goals as goal

pub returns-in-Some : goal.returns-in-Some
returns-in-Some c n y e h =
    let at : IsLaneOf y (Some c.in-Some.lane) = rw c.in-Some.is at h in
    record {
      typ = sym (ap leaf_in at.0);
      values = sym at.1;
      side = lane_sized y c.in-Some.lane n at.1 e;
    }
