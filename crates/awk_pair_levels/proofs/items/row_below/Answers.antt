use Rattle.std.proofs.Common.{arith, refl, length}
use Rattle.std.proofs.lemmas.Option.{slice_get_read}
use Rattle.awk_pair_levels.proofs.ItemLaws.{inside_get, item_push, item_all}
use Rattle.awk_pair_levels.proofs.items.row_below.Goals as goal

pub item_below-requires : goal.item_below-requires
item_below-requires g c = record {
  inside = (inside_get c.args.i c.args.k c.args.shares.now c.loop-j.j c.index-shares-j.result
      (slice_get_read c.args.shares.now (length c.args.shares.now) c.loop-j.j
      c.index-shares-j.result refl (omega arith) c.index-shares-j.is)
      c.loop-j.invariant.inside).0;
}

pub loop-j-preserved : goal.loop-j-preserved
loop-j-preserved g c = record {
  inside = (inside_get c.args.i c.args.k c.args.shares.now c.loop-j.j c.index-shares-j.result
      (slice_get_read c.args.shares.now (length c.args.shares.now) c.loop-j.j
      c.index-shares-j.result refl (omega arith) c.index-shares-j.is) c.loop-j.invariant.inside).1;
  made = item_push c.args.i c.args.k c.args.shares.now c.loop-j.row c.push.new.self c.loop-j.j
      c.index-shares-j.result c.in_ok-item.item (slice_get_read c.args.shares.now
      (length c.args.shares.now) c.loop-j.j
      c.index-shares-j.result refl (omega arith) c.index-shares-j.is)
      c.in_ok-push.ensures.ok c.loop-j.invariant.made c.in_ok-item.ensures;
}

pub returns : goal.returns
returns g c =
    item_all c.args.i c.args.k c.args.shares.now c.loop-j.row c.loop-j.j
    (omega (arith, c.loop-j-test.false)) c.loop-j.invariant.made
