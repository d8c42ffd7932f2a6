use Rattle.std.proofs.Common.{rules, FitsSigned, w64, ◌∙◌}
use Rattle.std.proofs.lemmas.Int.{to_z-of_z}
use Rattle.awk_index.proofs.IndexLaws.{within-groups, number-at}
use Rattle.awk_index.proofs.index.Index.number.Goals as goal

pub eight_at-requires : goal.eight_at-requires
eight_at-requires c =
    within-groups c.self.inside.kind c.self.inside.groups.now c.args.self.now c.args.i
    c.self.view_is c.requires

pub returns-clause-number : goal.returns-clause-number
returns-clause-number c =
    let f : FitsSigned w64 c.eight_at.result = search rules in
    to_z-of_z w64 c.eight_at.result f ∙ c.eight_at.ensures
    ∙ number-at c.self.inside.kind c.self.inside.groups.now c.args.self.now c.args.i
    c.self.view_is c.self.invariant c.requires
