use Rattle.std.proofs.Common.{◌≡◌, ◌<◌, ◌≤◌, arith, rules, sym, ap, ap₂, ◌∙◌, length, map}
use Rattle.std.specs.Prelude.{◌+ℤ◌, FitsSigned}
use Rattle.std.specs.Int.{w128, cast_signed as to_z, cast_unsigned as of_z}
use Rattle.std.proofs.lemmas.Int.{to_z-of_z}
use Rattle.std.proofs.lemmas.List.{length-map, take_all}
use Rattle.awk_kernels.specs.Kernels.{total}
use Rattle.awk_kernels.proofs.FoldLaws.{total_more}
use Rattle.awk_lanes.specs.Numbers.{number}
use Rattle.awk_lanes.specs.declared.kind.Kind.TheVariants as Kind
use Rattle.awk_numbers.proofs.SumLaws.{sum_fits, sum_low, sum_high}
use Rattle.awk_cells.proofs.sums.int_sum_in.Goals as goal

pub loop-i-preserved : goal.loop-i-preserved
loop-i-preserved c =
    let f = number Kind.I64 in
    let gs = c.args.groups.now in
    let zs = map f gs in
    let i = c.loop-i.i in
    let sum = to_z w128 c.loop-i.sum-bits in
    let x = c.wide_at-sum.result in
    let near = c.wide_at-sum.ensures.near in
    let inside : i < length zs = omega (arith, c.loop-i-test.true, length-map gs f) in
    let few : i < 1073741824 = omega (arith, c.loop-i-test.true, c.requires.few) in
    let fits : FitsSigned w128 x = search rules in
    let made : to_z w128 (of_z w128 (sum +ℤ to_z w128 (of_z w128 x))) ≡ sum +ℤ x =
    ap (λ z. to_z w128 (of_z w128 (sum +ℤ z))) (to_z-of_z w128 x fits)
    ∙ to_z-of_z w128 (sum +ℤ x)
    (sum_fits sum x i few c.loop-i.invariant.low c.loop-i.invariant.high near) in
    rw made record {
      sum = ap₂ (λ a b. a +ℤ b) c.loop-i.invariant.sum c.wide_at-sum.ensures.number
          ∙ sym (total_more zs i inside);
      low = sum_low sum x i c.loop-i.invariant.low near;
      high = sum_high sum x i c.loop-i.invariant.high near;
    }

pub returns : goal.returns
returns c =
    let f = number Kind.I64 in
    let gs = c.args.groups.now in
    let end : length (map f gs) ≤ c.loop-i.i =
    omega (arith, c.loop-i-test.false, length-map gs f) in
    c.loop-i.invariant.sum ∙ ap total (take_all c.loop-i.i (map f gs) end)
