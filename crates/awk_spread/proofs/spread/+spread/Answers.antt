use Rattle.std.proofs.Common.{arith, rules}
use Rattle.std.proofs.lemmas.Result.{IfOk-weaker}
use Rattle.awk_spread.proofs.SpreadUnions.{alternative_call, sizes_same, all_start, all_step}
use Rattle.awk_spread.proofs.SpreadUnions.{spread_end, spread_of_peeled}
use Rattle.awk_spread.proofs.spread.+spread.Goals as goal

pub alternatives-returns : goal.alternatives-returns
alternatives-returns g t c = record {
  spread =
      IfOk-weaker c.spread_bare.result _ _ (λ r h. spread_of_peeled c.args.x.now
      c.in_ok-index.field-0.content c.args.index c.in_ok-index.field-0.index r.tags r.index
      r.contents c.in_ok-index.ensures.peeled h) c.spread_bare.ensures.spread;
}

pub spread_all-loop-a-init : goal.spread_all-loop-a-init
spread_all-loop-a-init g t c = record {
  within = omega arith;
  spread =
      all_start c.args.tags.now c.args.index.now c.args.places.now c.in_ok-made_tags.made_tags
      c.in_ok-made_index.made_index c.args.contents.now c.new-made.result c.len.result
      c.len-2.result c.len.ensures.len c.len-2.ensures.len c.in_ok-made_tags.ensures.lane
      c.in_ok-made_index.ensures.lane c.new-made.ensures;
}

pub spread_all-alternatives-requires : goal.spread_all-alternatives-requires
spread_all-alternatives-requires g t c κs within =
    let f = alternative_call c.args.tags.now c.args.index.now c.args.places.now
    c.in_ok-chosen.chosen c.args.contents.now c.loop-a.a c.get.result.now c.get.ensures
    c.requires.valid c.requires.places c.in_ok-chosen.ensures.lane in
    search rules

pub spread_all-loop-a-preserved : goal.spread_all-loop-a-preserved
spread_all-loop-a-preserved g t c = record {
  within = omega arith;
  spread =
      all_step c.args.tags.now c.args.index.now c.args.places.now c.in_ok-chosen.chosen
      c.args.contents.now c.loop-a.made c.in_ok-new_tags.field-0.contents c.append.new.into
      c.loop-a.a c.len-base.result c.get.result.now c.loop-a.made_tags c.loop-a.made_index
      c.in_ok-new_tags.field-0.tags c.in_ok-new_tags.field-0.index c.in_ok-next_tags.next_tags
      c.in_ok-next_index.next_index c.get.ensures c.loop-a.invariant.spread
      c.in_ok-chosen.ensures.lane c.in_ok-new_tags.ensures.spread c.len-base.ensures
      c.in_ok-next_tags.ensures.lane c.in_ok-next_index.ensures.lane c.in_ok-append.ensures;
}

pub spread_all-returns : goal.spread_all-returns
spread_all-returns g t c = record {
  spread =
      spread_end c.args.tags.now c.args.index.now c.args.places.now c.loop-a.made_tags
      c.loop-a.made_index c.args.contents.now c.loop-a.made c.loop-a.a (omega arith)
      c.loop-a.invariant.spread;
}

pub spread_all-join_tags-requires-clause-size : goal.spread_all-join_tags-requires-clause-size
spread_all-join_tags-requires-clause-size g t c =
    (sizes_same c.args.tags.now c.args.index.now c.args.places.now c.in_ok-chosen.chosen
    c.args.contents.now c.loop-a.made c.in_ok-new_tags.field-0.contents c.loop-a.a c.get.result.now
    c.loop-a.made_tags c.loop-a.made_index c.in_ok-new_tags.field-0.tags
    c.in_ok-new_tags.field-0.index c.loop-a.invariant.spread c.in_ok-chosen.ensures.lane
    c.in_ok-new_tags.ensures.spread).0

pub spread_all-join_index-requires-clause-size : goal.spread_all-join_index-requires-clause-size
spread_all-join_index-requires-clause-size g t c =
    (sizes_same c.args.tags.now c.args.index.now c.args.places.now c.in_ok-chosen.chosen
    c.args.contents.now c.loop-a.made c.in_ok-new_tags.field-0.contents c.loop-a.a c.get.result.now
    c.loop-a.made_tags c.loop-a.made_index c.in_ok-new_tags.field-0.tags
    c.in_ok-new_tags.field-0.index c.loop-a.invariant.spread c.in_ok-chosen.ensures.lane
    c.in_ok-new_tags.ensures.spread).1
