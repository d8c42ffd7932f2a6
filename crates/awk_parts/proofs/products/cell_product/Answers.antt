use Rattle.std.proofs.Common.{◌≡◌, sym, subst}
use Rattle.std.specs.Prelude.{IfSome}
use Rattle.awk_numbers.specs.Folds.{product}
use Rattle.awk_numbers.proofs.PartLaws.{slice_range-map}
use Rattle.awk_parts.proofs.products.cell_product.Goals as goal

pub returns : goal.returns
returns g c =
    let same =
    slice_range-map g.C.Cell.number c.args.groups.now c.args.span.start c.args.span.stop in
    subst (λ zs. IfSome c.product_in.result (λ z. z ≡ product zs)) (sym same)
    c.product_in.ensures
