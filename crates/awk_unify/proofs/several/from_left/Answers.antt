use Rattle.std.proofs.Common.{arith}
use Rattle.awk_types.specs.View.{typs_of}
use Rattle.awk_unify.proofs.ListLaws.{list_last, list_next}
use Rattle.awk_unify.proofs.several.from_left.Goals as goal

pub loop-i-preserved : goal.loop-i-preserved
loop-i-preserved c = record {
  more = list_next _ _ _ (typs_of c.args.ts.now) c.loop-i.i _ c.get.ensures.item
      c.in_ok-made.ensures.made c.loop-i.invariant.more;
  idle = c.in_ok-made.ensures.idle;
}

pub returns : goal.returns
returns c =
    list_last _ _ (typs_of c.args.ts.now) c.loop-i.i
    (omega (arith, c.loop-i-test.false, c.loop-i.auto.i-end, c.len-i-end.ensures))
    c.loop-i.invariant.more
