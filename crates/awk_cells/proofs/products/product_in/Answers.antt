use Rattle.std.proofs.Common.{◌≡◌, ◌<◌, arith, rules, sym, ap, ap₂, ◌∙◌, length, map}
use Rattle.std.specs.Prelude.{◌*ℤ◌, FitsSigned}
use Rattle.std.specs.Int.{w64, cast_signed as to_z, cast_unsigned as of_z}
use Rattle.std.specs.List.{slice_range}
use Rattle.std.proofs.lemmas.Int.{to_z-of_z}
use Rattle.std.proofs.lemmas.List.{length-map}
use Rattle.awk_numbers.specs.Folds.{product}
use Rattle.awk_numbers.proofs.PartLaws.{whole_range}
use Rattle.awk_numbers.proofs.ProductLaws.{product_more}
use Rattle.awk_cells.proofs.products.product_in.Goals as goal

pub loop-i-preserved : goal.loop-i-preserved
loop-i-preserved g c =
    let f = g.C.Cell.number in
    let gs = c.args.groups.now in
    let zs = map f gs in
    let i = c.loop-i.i in
    let inside : i < length zs = omega (arith, c.loop-i-test.true, length-map gs f) in
    let x = c.number_at.result in
    let fits : FitsSigned w64 x = search rules in
    let next = c.in-Some.next in
    let held : to_z w64 (of_z w64 next) ≡ next =
    to_z-of_z w64 next (c.times.ensures.fits next c.in-Some.is) in
    record {
      product = ◌∙◌ {b = next} held
          (c.in-Some.ensures.product
          ∙ ap₂ (λ a b. a *ℤ b) c.loop-i.invariant.product
          (to_z-of_z w64 x fits ∙ c.number_at.ensures)
          ∙ sym (product_more zs 0 i (omega arith) inside));
    }

pub returns : goal.returns
returns g c =
    let f = g.C.Cell.number in
    let gs = c.args.groups.now in
    let zs = map f gs in
    let all : c.loop-i.i ≡ length zs =
    omega (arith, c.loop-i-test.false, c.loop-i.auto.i-end, length-map gs f) in
    c.loop-i.invariant.product ∙ ap (λ n. product (slice_range zs 0 n)) all
    ∙ ap product (whole_range zs)
