use Rattle.std.proofs.Common.{◌≡◌, ◌<◌, ◌≤◌, arith, rules, sym, ap, ap₂, ◌∙◌, length, map}
use Rattle.std.specs.Prelude.{◌+ℤ◌, FitsSigned}
use Rattle.std.specs.Int.{w64, cast_signed as to_z, cast_unsigned as of_z}
use Rattle.std.proofs.lemmas.Int.{to_z-of_z}
use Rattle.std.proofs.lemmas.List.{length-map, take_all}
use Rattle.awk_kernels.specs.Kernels.{total}
use Rattle.awk_kernels.proofs.FoldLaws.{total_more}
use Rattle.awk_cells.proofs.SumLaws.{narrow_fits, narrow_low, narrow_high}
use Rattle.awk_cells.proofs.sums.sum_in.Goals as goal

pub loop-i-preserved : goal.loop-i-preserved
loop-i-preserved g c =
    let f = g.C.Cell.number in
    let gs = c.args.groups.now in
    let zs = map f gs in
    let i = c.loop-i.i in
    let sum = to_z w64 c.loop-i.sum-bits in
    let x = c.narrow_at-sum.result in
    let near = c.narrow_at-sum.ensures.near in
    let inside : i < length zs = omega (arith, c.loop-i-test.true, length-map gs f) in
    let few : i < 1073741824 = omega (arith, c.loop-i-test.true, c.requires.few) in
    let fits : FitsSigned w64 x = search rules in
    let made : to_z w64 (of_z w64 (sum +ℤ to_z w64 (of_z w64 x))) ≡ sum +ℤ x =
    ap (λ z. to_z w64 (of_z w64 (sum +ℤ z))) (to_z-of_z w64 x fits)
    ∙ to_z-of_z w64 (sum +ℤ x)
    (narrow_fits sum x i few c.loop-i.invariant.low c.loop-i.invariant.high near) in
    rw made record {
      sum = ap₂ (λ a b. a +ℤ b) c.loop-i.invariant.sum c.narrow_at-sum.ensures.number
          ∙ sym (total_more zs i inside);
      low = narrow_low sum x i c.loop-i.invariant.low near;
      high = narrow_high sum x i c.loop-i.invariant.high near;
    }

pub returns : goal.returns
returns g c =
    let f = g.C.Cell.number in
    let gs = c.args.groups.now in
    let end : length (map f gs) ≤ c.loop-i.i =
    omega (arith, c.loop-i-test.false, length-map gs f) in
    c.loop-i.invariant.sum ∙ ap total (take_all c.loop-i.i (map f gs) end)
