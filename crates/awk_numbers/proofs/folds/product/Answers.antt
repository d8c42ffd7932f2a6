use Rattle.std.proofs.Common.{◌≡◌, ◌≤◌, ap, ap₂, sym, ◌∙◌, arith, rules, to_z, of_z}
use Rattle.std.proofs.Common.{subst, length}
use Rattle.std.specs.Prelude.{◌*ℤ◌, FitsSigned, unsigned_abs}
use Rattle.std.specs.Int.{w128}
use Rattle.std.specs.List.{slice_range, list_any}
use Rattle.std.proofs.lemmas.Int.{to_z-of_z, fits_signed_from_abs}
use Rattle.awk_numbers.specs.Folds.{product, is_zero}
use Rattle.awk_numbers.proofs.PartLaws.{whole_range}
use Rattle.awk_numbers.proofs.ProductLaws.{product_zero, product_far, product_more}
use Rattle.awk_numbers.proofs.folds.product.Goals as goal

pub returns-then-has_zero : goal.returns-then-has_zero
returns-then-has_zero g c =
    sym (product_zero (g.R.Row.numbers c.args.row.now)
    (sym c.has_zero.ensures ∙ c.if-has_zero.true))

pub returns-in-None : goal.returns-in-None
returns-in-None g c =
    let zs = g.R.Row.numbers c.args.row.now in
    let f : FitsSigned w128 c.at.result = search rules in
    subst (λ xs. 18446744073709551616 ≤ unsigned_abs (product xs)) (whole_range zs)
    (product_far zs 0 c.loop-i.i (length zs)
    (to_z w128 c.loop-i.so_far-bits *ℤ to_z w128 (of_z w128 c.at.result))
    (omega arith) (omega (arith, c.loop-i-test.true, c.len-i-end.ensures)) (omega arith)
    (ap (list_any is_zero) (whole_range zs) ∙ sym c.has_zero.ensures ∙ c.if-has_zero.false)
    (ap₂ (λ a b. a *ℤ b) c.loop-i.invariant.product
    (to_z-of_z w128 c.at.result f ∙ c.at.ensures.number))
    c.in-None.ensures.near)

pub loop-i-preserved : goal.loop-i-preserved
loop-i-preserved g c =
    let zs = g.R.Row.numbers c.args.row.now in
    let f : FitsSigned w128 c.at.result = search rules in
    let t : to_z w128 (of_z w128 c.in-Some.next) ≡ c.in-Some.next =
    to_z-of_z w128 c.in-Some.next
    (fits_signed_from_abs w128 c.in-Some.next
    (omega (arith, c.near.ensures.small c.in-Some.next c.in-Some.is))) in
    record {
      product = t ∙ c.in-Some.ensures.near
          ∙ ap₂ (λ a b. a *ℤ b) c.loop-i.invariant.product
          (to_z-of_z w128 c.at.result f ∙ c.at.ensures.number)
          ∙ sym (product_more zs 0 c.loop-i.i (omega arith)
          (omega (arith, c.loop-i-test.true, c.len-i-end.ensures)));
      small = rw t (c.near.ensures.small c.in-Some.next c.in-Some.is);
    }

pub returns : goal.returns
returns g c =
    let zs = g.R.Row.numbers c.args.row.now in
    let all : c.loop-i.i ≡ length zs =
    omega (arith, c.loop-i-test.false, c.loop-i.auto.i-end, c.len-i-end.ensures) in
    c.loop-i.invariant.product ∙ ap (λ n. product (slice_range zs 0 n)) all
    ∙ ap product (whole_range zs)
