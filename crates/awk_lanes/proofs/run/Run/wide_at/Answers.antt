use Rattle.std.proofs.Common.{rules, FitsSigned, w64, ◌∙◌}
use Rattle.std.proofs.lemmas.Int.{to_z-of_z}
use Rattle.awk_lanes.proofs.RunLaws.{run_number}
use Rattle.awk_lanes.proofs.run.Run.wide_at.Goals as goal

pub returns-clause-value : goal.returns-clause-value
returns-clause-value g c =
    let f : FitsSigned w64 c.number_at.result = search rules in
    to_z-of_z w64 c.number_at.result f ∙ c.number_at.ensures
    ∙ run_number _ _ _ c.args.i c.args.self.now c.self.view_is c.requires
