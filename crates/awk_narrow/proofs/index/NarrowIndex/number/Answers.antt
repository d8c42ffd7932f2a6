use Rattle.std.proofs.Common.{rules, FitsSigned, w64, ◌∙◌}
use Rattle.std.proofs.lemmas.Int.{to_z-of_z}
use Rattle.awk_narrow.proofs.NarrowLaws.{within-groups, number-at}
use Rattle.awk_narrow.proofs.index.NarrowIndex.number.Goals as goal

pub four_at-requires : goal.four_at-requires
four_at-requires c =
    within-groups c.self.inside.groups.now c.args.self.now c.args.i c.self.view_is c.requires

pub returns-clause-number : goal.returns-clause-number
returns-clause-number c =
    let f : FitsSigned w64 c.four_at.result = search rules in
    to_z-of_z w64 c.four_at.result f ∙ c.four_at.ensures
    ∙ number-at c.self.inside.groups.now c.args.self.now c.args.i c.self.view_is c.requires
