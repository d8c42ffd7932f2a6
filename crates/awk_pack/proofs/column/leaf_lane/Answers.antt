use Rattle.std.proofs.Common.{◌≢◌, ◌∙◌, subst}
use Rattle.awk_lanes.specs.declared.kind.Kind.TheVariants.{Bool as Truths}
use Rattle.awk_pack.proofs.LeafLanes.{leaf_lane-same}
use Rattle.awk_pack.proofs.column.leaf_lane.Goals as goal

pub returns-in_default : goal.returns-in_default
returns-in_default g c = c.copy.ensures ∙ leaf_lane-same c.args.lane.now
    (subst (λ k. k ≢ Truths) c.kind.ensures c.in_default.not-Bool)
