-- The numbers of the lanes are judged in place of the lanes.
use Rattle.std.proofs.Common.{subst, ◌∙◌}
use Rattle.awk_types.specs.Gives.{Gives}
use Rattle.awk_valid.specs.Loading.{told}
use Rattle.awk_valid.proofs.AtLaws.{spans_said-lists}
use Rattle.awk_valid.proofs.lengths.judged_lists.Goals as goal

pub returns-clause-answer : goal.returns-clause-answer
returns-clause-answer g c =
    let same =
    spans_said-lists c.args.node c.args.starts.now c.args.stops.now c.deref.result.now
    c.deref-2.result.now c.requires.starts c.requires.stops
    (c.deref.ensures.value ∙ c.in_ok-start_numbers.ensures.numbers)
    (c.deref-2.ensures.value ∙ c.in_ok-stop_numbers.ensures.numbers) in
    subst (Gives (λ length. length) told c.judged_spans.result) same c.judged_spans.ensures
