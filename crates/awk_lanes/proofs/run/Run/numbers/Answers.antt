use Rattle.std.proofs.Common.{subst, ap, ◌≡◌, ◌+◌, ◌∙◌}
use Rattle.std.specs.Prelude.{IfOk}
use Rattle.awk_lanes.specs.Column.{Column}
use Rattle.awk_lanes.proofs.RunLaws.{run_size}
use Rattle.awk_lanes.proofs.run.Run.numbers.Goals as goal

pub returns-clause-numbers : goal.returns-clause-numbers
returns-clause-numbers g c =
    subst (λ (v : Column). IfOk c.run_numbers.result (λ r. r.items ≡ v.items)) c.self.view_is
    c.run_numbers.ensures

pub returns-clause-cost : goal.returns-clause-cost
returns-clause-cost g c =
    c.add.ensures ∙ ap (λ n. c.args.steps.now + n) (run_size _ _ _ c.args.self.now c.self.view_is)
