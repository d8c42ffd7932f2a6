use Rattle.std.proofs.Common.{refl, rules, w64}
use Rattle.std.specs.Prelude.{FitsSigned}
use Rattle.std.proofs.lemmas.Int.{to_z-of_z}
use Rattle.awk_pointwise.specs.Numbers.{int_leaves}
use Rattle.awk_pointwise.proofs.CalculatedLaws.{broken_told, all_written}
use Rattle.awk_pointwise.proofs.calculate.ints_into.Goals as goal

pub returns-in-Some : goal.returns-in-Some
returns-in-Some g c =
    let lo : FitsSigned w64 c.least_int.result = search rules in
    let hi : FitsSigned w64 c.greatest_int.result = search rules in
    let e = rw (
      to_z-of_z w64 c.least_int.result lo,
      to_z-of_z w64 c.greatest_int.result hi,
      c.least_int.ensures,
      c.greatest_int.ensures,
    ) at c.in-Some.ensures.broken in
    broken_told (int_leaves c.args.op c.args.prim c.args.a.now c.args.b.now) c.in-Some.broken
    c.fault_of.result e c.fault_of.ensures

pub returns-in-None : goal.returns-in-None
returns-in-None g c =
    let lo : FitsSigned w64 c.least_int.result = search rules in
    let hi : FitsSigned w64 c.greatest_int.result = search rules in
    let e = rw (
      to_z-of_z w64 c.least_int.result lo,
      to_z-of_z w64 c.greatest_int.result hi,
      c.least_int.ensures,
      c.greatest_int.ensures,
    ) at (c.in-None.ensures.written refl) in
    all_written c.arith_i64.new.out
    (int_leaves c.args.op c.args.prim c.args.a.now c.args.b.now) e
