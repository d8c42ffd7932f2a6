use Rattle.std.proofs.Common.{ap, sym, ◌∙◌}
use Rattle.awk_layout.specs.Place.{value_of}
use Rattle.awk_layout.specs.Laws.{item-case_of, case_of-within}
use Rattle.awk_layout.proofs.node.Node.place.Goals as goal

pub returns-clause-value : goal.returns-clause-value
returns-clause-value g c =
    item-case_of c.args.self.now c.args.i ∙ ap value_of (sym c.one_level.ensures.case)

pub returns-clause-within : goal.returns-clause-within
returns-clause-within g c =
    rw c.one_level.ensures.case (case_of-within _ _ c.one_level.ensures.valid c.requires)
