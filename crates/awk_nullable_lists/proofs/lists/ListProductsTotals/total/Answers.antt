use Rattle.std.proofs.Common.{subst, ap₂}
use Rattle.awk_numbers.specs.Folds.{product, IsNear}
use Rattle.awk_nullable.specs.Numbers.{leaf_number, numbers_from}
use Rattle.awk_nullable_lists.proofs.lists.ListProductsTotals.total.Goals as goal

pub returns : goal.returns
returns g c =
    let x = c.args.self.now.lists.now.leaves.now in
    let way = leaf_number (g.P.Places.at x.places.now) (g.C.Cells.lane x.cells.now) in
    let s = c.span_of-span.ensures in
    subst (λ z. IsNear z c.product_of.result)
    (ap₂ (λ a n. product (numbers_from way a n)) s.start s.length)
    c.product_of.ensures
