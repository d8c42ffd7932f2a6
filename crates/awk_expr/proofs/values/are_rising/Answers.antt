use Rattle.std.proofs.Common.{FitsSigned, rules, arith, sym, ◌∙◌}
use Rattle.std.proofs.lemmas.Int.{to_z-of_z}
use Rattle.std.specs.Int.{w128}
use Rattle.awk_expr.proofs.Rising.{rising-broken, rising-on, rising-end}
use Rattle.awk_expr.proofs.values.are_rising.Goals as goal

pub returns-then-get : goal.returns-then-get
returns-then-get c =
    let a = c.get-in-loop-i.result.now in
    let b = c.get.result.now in
    let fits_a : FitsSigned w128 a = search rules in
    let fits_b : FitsSigned w128 b = search rules in
    sym (c.loop-i.invariant
    ∙ rising-broken c.args.edges.now c.loop-i.i a b c.get-in-loop-i.ensures c.get.ensures
    (rw (to_z-of_z w128 a fits_a, to_z-of_z w128 b fits_b) at c.if-get.true))

pub loop-i-preserved : goal.loop-i-preserved
loop-i-preserved c =
    let a = c.get-in-loop-i.result.now in
    let b = c.get.result.now in
    let fits_a : FitsSigned w128 a = search rules in
    let fits_b : FitsSigned w128 b = search rules in
    c.loop-i.invariant
    ∙ rising-on c.args.edges.now c.loop-i.i a b c.get-in-loop-i.ensures c.get.ensures
    (rw (to_z-of_z w128 a fits_a, to_z-of_z w128 b fits_b) at c.if-get.false)

pub returns : goal.returns
returns c = sym (c.loop-i.invariant ∙ rising-end c.args.edges.now c.loop-i.i (omega arith))
