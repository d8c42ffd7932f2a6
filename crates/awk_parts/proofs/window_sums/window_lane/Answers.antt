use Rattle.std.proofs.Common.{subst}
use Rattle.std.specs.Prelude.{IfOk}
use Rattle.awk_parts.specs.Fits.{AreFitting}
use Rattle.awk_parts.specs.Spans.{span_count}
use Rattle.awk_parts.proofs.window_sums.window_lane.Goals as goal

pub returns-then-groups-count : goal.returns-then-groups-count
returns-then-groups-count g c =
    subst (λ f. IfOk c.fitting_lane.result
    (AreFitting c.args.prim f (span_count c.args.parts.now.spans.now))) c.requires.sums
    c.fitting_lane.ensures

pub returns-in_default : goal.returns-in_default
returns-in_default g c =
    subst (λ f. IfOk c.fitting_lane-in_default.result
    (AreFitting c.args.prim f (span_count c.args.parts.now.spans.now))) c.requires.sums
    c.fitting_lane-in_default.ensures
