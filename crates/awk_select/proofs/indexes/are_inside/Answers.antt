use Rattle.std.proofs.Common.{◌<◌, arith, sym}
use Rattle.awk_layout.specs.Valid.{len}
use Rattle.awk_select.proofs.PickedPlaces.{outside-here, inside-more, inside-all}
use Rattle.awk_select.proofs.indexes.are_inside.Goals as goal

pub returns-then-not-is_inside : goal.returns-then-not-is_inside
returns-then-not-is_inside g c =
    let i : c.loop-i.i < len c.args.ix.now = omega
    (arith, c.loop-i-test.true, c.len-i-end.ensures.len) in
    sym (outside-here c.args.n c.args.ix.now c.loop-i.i i (sym c.if-not-is_inside.ensures))

pub loop-i-preserved : goal.loop-i-preserved
loop-i-preserved g c =
    let i : c.loop-i.i < len c.args.ix.now = omega
    (arith, c.loop-i-test.true, c.len-i-end.ensures.len) in
    inside-more c.args.n c.args.ix.now c.loop-i.i i c.loop-i.invariant
    (sym c.if-not-is_inside.ensures)

pub returns : goal.returns
returns g c =
    sym (inside-all c.args.n c.args.ix.now c.loop-i.i
    (omega (arith, c.loop-i-test.false, c.len-i-end.ensures.len)) c.loop-i.invariant)
