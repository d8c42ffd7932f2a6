use Rattle.std.proofs.Common.{◌≡◌, ◌∙◌}
use Rattle.std.proofs.lemmas.Result.{IfOk-weaker}
use Rattle.awk_numbers.specs.Folds.{lane_numbers}
use Rattle.awk_sorting.proofs.LaneLaws.{plain_numbers}
use Rattle.awk_sorting.proofs.lanes.small_numbers.Goals as goal

pub returns-in_default : goal.returns-in_default
returns-in_default g c =
    let plain = plain_numbers c.args.lane.now (λ e. c.in_default.not-Bool (c.kind.ensures ∙ e)) in
    IfOk-weaker c.numbers_of.result (λ v. v.items ≡ c.args.lane.now.items)
    (λ v. v.items ≡ lane_numbers c.args.lane.now) (λ v e. e ∙ plain) c.numbers_of.ensures.numbers
