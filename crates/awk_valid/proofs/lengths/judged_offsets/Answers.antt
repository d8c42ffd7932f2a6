-- The numbers of the lane are judged in place of the lane.
use Rattle.std.proofs.Common.{◌≡◌, subst, ◌∙◌, arith}
use Rattle.awk_lanes.specs.Places.{size_of}
use Rattle.awk_types.specs.Gives.{Gives}
use Rattle.awk_valid.specs.Loading.{told}
use Rattle.awk_valid.proofs.AtLaws.{spans_said-offsets}
use Rattle.awk_valid.proofs.lengths.judged_offsets.Goals as goal

pub returns-clause-answer : goal.returns-clause-answer
returns-clause-answer g c =
    let numbers = c.in_ok-numbers.ensures.numbers in
    let count : c.len-count.result ≡ size_of c.args.offsets.now =
    grind (arith, c.len-count.ensures, c.deref.ensures, numbers) in
    let same =
    spans_said-offsets c.args.node c.len-count.result c.args.offsets.now c.deref.result.now
    c.deref-2.result.now c.requires.offsets count
    (c.deref.ensures.value ∙ numbers) (c.deref-2.ensures.value ∙ numbers) in
    subst (Gives (λ length. length) told c.judged_spans.result) same c.judged_spans.ensures
