use Rattle.std.proofs.Common.{ap₂, ◌∙◌, rules}
use Rattle.std.specs.Prelude.{FitsSigned}
use Rattle.std.specs.Int.{w128}
use Rattle.std.proofs.lemmas.Int.{to_z-of_z}
use Rattle.awk_numbers.specs.Folds.{folded}
use Rattle.awk_numbers.specs.declared.folds.Fold.TheVariants.{Sum}
use Rattle.awk_nullable.specs.Numbers.{leaf_number, numbers_from}
use Rattle.awk_nullable_lists.proofs.lists.ListSumsTotals.total.Goals as goal

pub returns : goal.returns
returns g c =
    let x = c.args.self.now.lists.now.leaves.now in
    let way = leaf_number (g.P.Places.at x.places.now) (g.C.Cells.lane x.cells.now) in
    let s = c.span_of-span.ensures in
    let z = c.sum_of.result in
    let fits : FitsSigned w128 z = search rules in
    to_z-of_z w128 z fits ∙ c.sum_of.ensures
    ∙ ap₂ (λ a n. folded Sum (numbers_from way a n)) s.start s.length
