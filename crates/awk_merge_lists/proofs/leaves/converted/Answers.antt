use Rattle.std.proofs.Common.{ap, ◌∙◌}
use Rattle.std.proofs.lemmas.Result.{IfOk-weaker}
use Rattle.awk_lanes.specs.Column.{Column}
use Rattle.awk_lanes.specs.Made.{lane_of}
use Rattle.awk_lanes.specs.Places.{at}
use Rattle.awk_merge_lists.specs.Leaves.{leaf_values}
use Rattle.awk_merge_lists.proofs.NumberLaws.{converted_values}
use Rattle.awk_merge_lists.proofs.leaves.converted.Goals as goal

pub returns-clause-kind : goal.returns-clause-kind
returns-clause-kind g c =
    IfOk-weaker c.made_lane.result _ _ (λ r e. ap (λ (w : Column). w.kind) e)
    c.made_lane.ensures.lane

pub returns-clause-values : goal.returns-clause-values
returns-clause-values g c =
    IfOk-weaker c.made_lane.result _ _
    (λ r e. ap leaf_values e
    ∙ ap (λ n. leaf_values (lane_of c.args.kind n (at c.args.lane.now))) c.len.ensures.len
    ∙ converted_values c.args.kind c.args.lane.now c.requires.holds) c.made_lane.ensures.lane
