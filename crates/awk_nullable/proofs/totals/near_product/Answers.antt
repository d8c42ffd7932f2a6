use Rattle.std.proofs.Common.{sym, subst}
use Rattle.awk_numbers.proofs.ProductLaws.{product_zero}
use Rattle.awk_nullable.specs.Totals.{IsProduct}
use Rattle.awk_nullable.proofs.totals.near_product.Goals as goal

pub returns-in-Zero : goal.returns-in-Zero
returns-in-Zero c zs h = sym (product_zero zs (subst (λ x. IsProduct x zs) c.in-Zero.is h))
