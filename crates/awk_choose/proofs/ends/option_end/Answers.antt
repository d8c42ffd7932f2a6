use Rattle.std.proofs.Common.{sym, subst}
use Rattle.std.specs.Prelude.{Some, None}
use Rattle.awk_ends.specs.Columns.{IsLaneOf}
use Rattle.awk_choose.specs.Ends.{IsColumnEnd}
use Rattle.awk_choose.specs.declared.ends.End.TheVariants as end
use Rattle.awk_choose.proofs.ColumnLaws.{nulls_end, indexed_end}
use Rattle.awk_choose.proofs.ends.option_end.Goals as goal

pub returns-in-None : goal.returns-in-None
returns-in-None g c y o h =
    let content = c.args.content.now in
    let lane : IsLaneOf content None = rw c.in-None.is at c.in_ok-leaf_lane.ensures in
    nulls_end y c.args.index.now content o h lane.0 lane.1

pub returns-in-Some : goal.returns-in-Some
returns-in-Some g c y o h =
    let content = c.args.content.now in
    let lane : IsLaneOf content (Some c.in-Some.lane) =
    rw c.in-Some.is at c.in_ok-leaf_lane.ensures in
    subst (λ j. IsColumnEnd y (end.Indexed j c.in-Some.lane)) (sym c.copy.ensures)
    (indexed_end y c.args.index.now content o h c.in-Some.lane lane.0 lane.1)
