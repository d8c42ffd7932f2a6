use Rattle.std.proofs.Common.{Some, ap, ◌∙◌, subst, sym}
use Rattle.awk_cartesian.specs.Sources.{AreBoth}
use Rattle.awk_cartesian.specs.Spans.{both_lane}
use Rattle.awk_cartesian.proofs.RowLaws.{none_both, some_both}
use Rattle.awk_cartesian.proofs.rows.both.Goals as goal

pub returns-in-None : goal.returns-in-None
returns-in-None g c =
    subst (λ s. AreBoth c.args.n c.args.rows s c.args.rows) (sym c.in-None.is)
    (none_both c.args.n c.args.rows c.requires.rows)

pub returns-in_ok-made_lane-in-Some : goal.returns-in_ok-made_lane-in-Some
returns-in_ok-made_lane-in-Some g c =
    subst (λ s. AreBoth c.args.n c.args.rows s (Some c.in_ok-made_lane-in-Some.field-0))
    (sym c.in-Some.is)
    (some_both c.args.n c.args.rows c.in-Some.field-0 c.in_ok-made_lane-in-Some.field-0
    (c.in_ok-made_lane-in-Some.ensures.lane
    ∙ ap (λ s. both_lane c.args.rows s c.args.n) c.in-Some.is))
