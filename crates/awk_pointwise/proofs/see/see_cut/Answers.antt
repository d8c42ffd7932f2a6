use Rattle.std.proofs.Common.{subst}
use Rattle.std.specs.Prelude.{IfOk}
use Rattle.awk_lanes.specs.Column.{Column}
use Rattle.awk_layout.specs.Kinds.{primitive_of}
use Rattle.awk_leaves.specs.declared.leaf_type.LeafType.TheVariants.{Of}
use Rattle.awk_pointwise.specs.Numbers.{AreNumbersOf}
use Rattle.awk_pointwise.specs.Sides.{lane_values}
use Rattle.awk_pointwise.proofs.BlockLaws.{lane-part}
use Rattle.awk_pointwise.proofs.see.see_cut.Goals as goal

pub returns : goal.returns
returns g c =
    let lane = c.args.lane.now in
    subst (λ vs. IfOk c.see_lane.result (AreNumbersOf (Of (primitive_of lane.kind)) vs))
    (lane-part lane c.args.lo c.args.hi)
    (subst (λ (p : Column). IfOk c.see_lane.result
    (AreNumbersOf (Of (primitive_of p.kind)) (lane_values p))) c.cut-part.ensures.value
    c.see_lane.ensures)
