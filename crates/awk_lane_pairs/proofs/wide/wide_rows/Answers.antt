use Rattle.std.proofs.Common.{sym, subst}
use Rattle.std.specs.Prelude.{IfOk, IfSome}
use Rattle.awk_types.specs.declared.primitive.Primitive.TheVariants as prim
use Rattle.awk_lane_pairs.specs.Results.{AreCalculated}
use Rattle.awk_lane_pairs.proofs.wide.wide_rows.Goals as goal

pub returns-in-Add : goal.returns-in-Add
returns-in-Add g c =
    let xs = g.A.Row.numbers c.args.a.now in
    let ys = g.B.Row.numbers c.args.b.now in
    subst (λ op. IfOk c.wide_results.result (λ o. IfSome o (AreCalculated op prim.I64 xs ys)))
    (sym c.in-Add.is) c.wide_results.ensures

pub returns-in-Sub : goal.returns-in-Sub
returns-in-Sub g c =
    let xs = g.A.Row.numbers c.args.a.now in
    let ys = g.B.Row.numbers c.args.b.now in
    subst (λ op. IfOk c.wide_results-in-Sub.result
    (λ o. IfSome o (AreCalculated op prim.I64 xs ys))) (sym c.in-Sub.is)
    c.wide_results-in-Sub.ensures

pub returns-in-Mul : goal.returns-in-Mul
returns-in-Mul g c =
    let xs = g.A.Row.numbers c.args.a.now in
    let ys = g.B.Row.numbers c.args.b.now in
    subst (λ op. IfOk c.wide_results-in-Mul.result
    (λ o. IfSome o (AreCalculated op prim.I64 xs ys))) (sym c.in-Mul.is)
    c.wide_results-in-Mul.ensures
