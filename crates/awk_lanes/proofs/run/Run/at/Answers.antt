use Rattle.std.proofs.Common.{subst, ◌∙◌}
use Rattle.awk_lanes.specs.Numbers.{IsOf}
use Rattle.awk_lanes.proofs.RunLaws.{run_kind, run_number}
use Rattle.awk_lanes.proofs.run.Run.at.Goals as goal

pub returns-clause-number : goal.returns-clause-number
returns-clause-number g c =
    c.item_at.ensures.number
    ∙ run_number _ _ _ c.args.i c.args.self.now c.self.view_is c.requires

pub returns-clause-kind : goal.returns-clause-kind
returns-clause-kind g c =
    subst (λ k. IsOf k c.item_at.result) (run_kind _ _ _ c.args.self.now c.self.view_is)
    c.item_at.ensures.kind
