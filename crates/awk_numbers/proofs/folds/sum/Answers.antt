use Rattle.std.proofs.Common.{◌≡◌, ◌<◌, arith, rules, sym, ap, ap₂, ◌∙◌, length}
use Rattle.std.specs.Prelude.{◌+ℤ◌, FitsSigned}
use Rattle.std.specs.Int.{w128, cast_signed as to_z, cast_unsigned as of_z}
use Rattle.std.proofs.lemmas.Int.{to_z-of_z}
use Rattle.awk_kernels.proofs.FoldLaws.{total_more}
use Rattle.awk_numbers.proofs.SumLaws.{sum_fits, sum_low, sum_high}
use Rattle.awk_numbers.proofs.folds.sum.Goals as goal

pub loop-i-preserved : goal.loop-i-preserved
loop-i-preserved g c =
    let zs = g.R.Row.numbers c.args.row.now in
    let sum = to_z w128 c.loop-i.sum-bits in
    let x = c.at-sum.result in
    let inside : c.loop-i.i < length zs =
    omega (arith, c.loop-i-test.true, c.len-i-end.ensures) in
    let few : c.loop-i.i < 1073741824 = omega (arith, inside, c.requires.few) in
    let f : FitsSigned w128 x = search rules in
    let made : to_z w128 (of_z w128 (sum +ℤ to_z w128 (of_z w128 x))) ≡ sum +ℤ x =
    ap (λ z. to_z w128 (of_z w128 (sum +ℤ z))) (to_z-of_z w128 x f)
    ∙ to_z-of_z w128 (sum +ℤ x)
    (sum_fits sum x c.loop-i.i few c.loop-i.invariant.low c.loop-i.invariant.high
    c.at-sum.ensures.near) in
    rw made record {
      sum = ap₂ (λ a b. a +ℤ b) c.loop-i.invariant.sum c.at-sum.ensures.number
          ∙ sym (total_more zs c.loop-i.i inside);
      low = sum_low sum x c.loop-i.i c.loop-i.invariant.low c.at-sum.ensures.near;
      high = sum_high sum x c.loop-i.i c.loop-i.invariant.high c.at-sum.ensures.near;
    }
