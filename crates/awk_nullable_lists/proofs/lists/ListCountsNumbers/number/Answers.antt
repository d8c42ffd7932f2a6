use Rattle.std.proofs.Common.{length, ap, ap₂, ◌∙◌}
use Rattle.std.specs.Prelude.{pos}
use Rattle.awk_nullable.specs.Numbers.{leaf_number, numbers_from}
use Rattle.awk_nullable_lists.proofs.lists.ListCountsNumbers.number.Goals as goal

pub returns-clause-number : goal.returns-clause-number
returns-clause-number g c =
    let x = c.args.self.now.lists.now.leaves.now in
    let way = leaf_number (g.P.Places.at x.places.now) (g.C.Cells.lane x.cells.now) in
    let s = c.span_of-span.ensures in
    c.number.ensures.number ∙ ap pos c.count_of.ensures.present
    ∙ ap₂ (λ a n. pos (length (numbers_from way a n))) s.start s.length
