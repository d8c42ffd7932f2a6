use Rattle.std.proofs.Common.{arith}
use Rattle.awk_pair_sides.proofs.PlaceLaws.{long_get}
use Rattle.awk_pair.proofs.UnequalLaws.{alone_is, alone_push, alone_all}
use Rattle.awk_pair.proofs.unequal.row_alone.Goals as goal

pub range-requires-clause-within : goal.range-requires-clause-within
range-requires-clause-within g c =
    omega (
      arith,
      (long_get c.args.n c.args.xs.now c.loop-j.j c.get-x.result.now c.get-x.ensures
          c.loop-j.invariant.long).0,
      c.requires.within,
    )

pub loop-j-preserved : goal.loop-j-preserved
loop-j-preserved g c =
    let l = long_get c.args.n c.args.xs.now c.loop-j.j c.get-x.result.now c.get-x.ensures
    c.loop-j.invariant.long in
    record {
      long = l.1;
      made = alone_push c.args.i c.args.xs.now c.loop-j.row c.push.new.self c.loop-j.j
          c.get-x.result.now c.in_ok-item.item c.get-x.ensures c.in_ok-push.ensures.ok
          c.loop-j.invariant.made
          (alone_is c.get-x.result.now c.in_ok-item.item c.args.i
          (omega (arith, l.0, c.requires.within)) c.in_ok-item.ensures.typ
          c.in_ok-item.ensures.items);
    }

pub returns : goal.returns
returns g c =
    alone_all c.args.i c.args.xs.now c.loop-j.row c.loop-j.j
    (omega (arith, c.loop-j-test.false, c.len-j-end.ensures)) c.loop-j.invariant.made
