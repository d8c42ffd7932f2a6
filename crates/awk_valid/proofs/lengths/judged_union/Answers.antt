-- The numbers of the lanes are judged in place of the lanes.
use Rattle.std.proofs.Common.{ℕ, subst, ◌∙◌}
use Rattle.std.specs.Global.{Vec}
use Rattle.awk_types.specs.Gives.{Gives}
use Rattle.awk_valid.specs.Loading.{told}
use Rattle.awk_valid.proofs.AtLaws.{tags_said-lanes}
use Rattle.awk_valid.proofs.lengths.judged_union.Goals as goal

pub returns-clause-answer : goal.returns-clause-answer
returns-clause-answer g c =
    let same =
    tags_said-lanes c.args.node c.args.alternatives c.args.tags.now c.args.index.now
    c.deref.result.now c.deref-2.result.now c.requires.tags c.requires.index
    (c.deref.ensures.value ∙ c.in_ok-tag_numbers.ensures.numbers)
    (c.deref-2.ensures.value ∙ c.in_ok-index_numbers.ensures.numbers) in
    subst
    (Gives (λ (lengths : Vec ℕ). lengths.items) told c.judged_tags.result) same
    c.judged_tags.ensures
