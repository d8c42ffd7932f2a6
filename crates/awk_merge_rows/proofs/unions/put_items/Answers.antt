use Rattle.std.proofs.Common.{arith}
use Rattle.awk_merge_rows.proofs.TaggedLaws.{numbers-next, ready-next, tag-read, place-read}
use Rattle.awk_merge_rows.proofs.unions.put_items.Goals as goal

pub push-requires-clause-ready : goal.push-requires-clause-ready
push-requires-clause-ready g c =
    ready-next _ c.loop-i.i c.args.made.now c.loop-i.made _ _ c.requires.ready
    (omega arith) c.loop-i.invariant.0 c.loop-i.invariant.1

pub loop-i-preserved : goal.loop-i-preserved
loop-i-preserved g c =
    let i = c.loop-i.i in
    let t = c.args.tags.now in
    let xs = c.args.targets.now in
    let within = (c.requires.targeted.each i (omega arith)).within in (
      numbers-next c.args.made.now.tags c.loop-i.made.tags c.push.new.self.tags i _ _
          c.loop-i.invariant.0
          (tag-read t xs i c.tag_in-k.result _ c.tag_in-k.ensures.value within)
          c.push.ensures.tags,
      numbers-next c.args.made.now.index c.loop-i.made.index c.push.new.self.index i _ _
          c.loop-i.invariant.1
          (place-read t c.args.index.now xs i c.tag_in-k.result c.place_in.result _
          c.tag_in-k.ensures.value c.place_in.ensures.value within)
          c.push.ensures.index,
    )
