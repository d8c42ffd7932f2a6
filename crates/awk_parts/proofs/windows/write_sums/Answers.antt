use Rattle.std.proofs.Common.{◌≡◌, ◌+◌, ◌<◌, ap₂, sym, ◌∙◌, length, map, take, arith, rules}
use Rattle.std.specs.Prelude.{FitsSigned, ◌+ℤ◌}
use Rattle.std.specs.Int.{w64, cast_signed as to_z, cast_unsigned as of_z}
use Rattle.std.proofs.lemmas.Int.{to_z-of_z}
use Rattle.std.proofs.lemmas.List.{length-map, length-set}
use Rattle.awk_kernels.specs.Kernels.{total}
use Rattle.awk_kernels.proofs.FoldLaws.{total_more}
use Rattle.awk_parts.proofs.WindowLaws.{sums_more}
use Rattle.awk_parts.proofs.windows.write_sums.Goals as goal

pub loop-i-preserved : goal.loop-i-preserved
loop-i-preserved g c =
    let f = g.C.Cell.number in
    let part = c.args.part.now in
    let zs = map f part in
    let i = c.loop-i.i in
    let out = c.loop-i.out in
    let x = c.number_at.result in
    let next = c.in-Some.next in
    let fx : FitsSigned w64 x = search rules in
    let fn : FitsSigned w64 next = search rules in
    let inside : i < length zs = omega (arith, c.loop-i-test.true, length-map part f) in
    let room : i + 1 < length out =
    omega (arith, c.loop-i-test.true, c.requires, c.loop-i.invariant.length) in
    let made : to_z w64 (of_z w64 next) ≡ total (take (i + 1) zs) =
    to_z-of_z w64 next fn ∙ c.in-Some.ensures.1
    ∙ ap₂ (λ a b. a +ℤ b) c.loop-i.invariant.sum (to_z-of_z w64 x fx ∙ c.number_at.ensures)
    ∙ sym (total_more zs i inside) in
    record {
      length = length-set out (i + 1) (to_z w64 (of_z w64 next)) ∙ c.loop-i.invariant.length;
      sum = made;
      sums = sums_more zs i (to_z w64 (of_z w64 next)) out room made c.loop-i.invariant.sums;
    }
