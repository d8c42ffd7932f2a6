use Rattle.std.proofs.Common.{get_or, rules, arith, w64}
use Rattle.std.specs.Prelude.{pos, FitsSigned}
use Rattle.std.proofs.lemmas.Int.{to_z-of_z}
use Rattle.awk_kernels.specs.Operations.{leaf}
use Rattle.awk_simd.proofs.DivisorLaws.{one_more}
use Rattle.awk_simd.proofs.division.divided.Goals as goal

pub returns-in-None-clause-made : goal.returns-in-None-clause-made
returns-in-None-clause-made c =
    rw (to_z-of_z w64 c.args.lo c.ranges.lo, to_z-of_z w64 c.args.hi c.ranges.hi) at
    c.loop-i.invariant

pub loop-i-preserved : goal.loop-i-preserved
loop-i-preserved c =
    let x = get_or c.args.a.now c.loop-i.i (pos 0) in
    let y = get_or c.args.b.now c.loop-i.i (pos 0) in
    let fx : FitsSigned w64 x = search rules in
    let fy : FitsSigned w64 y = search rules in
    let fz : FitsSigned w64 c.in-Some.z = search rules in
    let e = simp (
      to_z-of_z w64 x fx,
      to_z-of_z w64 y fy,
      to_z-of_z w64 c.args.lo c.ranges.lo,
      to_z-of_z w64 c.args.hi c.ranges.hi,
    ) at c.in-Some.ensures in
    let h = rw (to_z-of_z w64 c.args.lo c.ranges.lo, to_z-of_z w64 c.args.hi c.ranges.hi) at
    c.loop-i.invariant in
    rw (
      to_z-of_z w64 c.args.lo c.ranges.lo,
      to_z-of_z w64 c.args.hi c.ranges.hi,
      to_z-of_z w64 c.in-Some.z fz,
    )
    (one_more (λ k. leaf c.args.op c.args.lo c.args.hi (get_or c.args.a.now k (pos 0))
    (get_or c.args.b.now k (pos 0))) c.loop-i.out c.loop-i.i c.in-Some.z
    (omega (arith, c.loop-i-test.true, c.requires.out)) e h)
