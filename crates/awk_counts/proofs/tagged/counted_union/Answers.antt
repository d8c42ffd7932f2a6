use Rattle.std.proofs.Common.{◌+◌, ◌<◌, length, arith, refl, ap, sym, ◌∙◌, subst}
use Rattle.std.proofs.lemmas.List.{length-set}
use Rattle.awk_lanes.specs.Numbers.{int_of}
use Rattle.awk_lanes.specs.Places.{size_of}
use Rattle.awk_lanes.proofs.MadeLanes.{so_far_pushed}
use Rattle.awk_counts.proofs.TaggedCounts.{AreCounts, counts_more, counts_all, count_before}
use Rattle.awk_counts.proofs.tagged.counted_union.Goals as goal

pub count_one-count-requires-clause-fits : goal.count_one-count-requires-clause-fits
count_one-count-requires-clause-fits g c =
    let i : c.loop-i.i < size_of c.args.tags.now = omega
    (arith, c.loop-i-test.true, c.len-n.ensures.len) in
    let a : c.tag_in-tag.result < c.args.alternatives = omega
    (arith, c.tag_in-tag.ensures.value, c.requires.below c.loop-i.i i) in
    let b = count_before c.args.tags.now c.args.index.now c.args.alternatives c.loop-i.i
    c.tag_in-tag.result _ c.loop-i.counts.items c.tag_in-tag.ensures.value a refl
    c.loop-i.invariant.counts in
    omega (arith, b.1, i, c.requires.small)

pub number-requires : goal.number-requires
number-requires g c =
    let i : c.loop-i.i < size_of c.args.tags.now = omega
    (arith, c.loop-i-test.true, c.len-n.ensures.len) in
    let a : c.tag_in-tag.result < c.args.alternatives = omega
    (arith, c.tag_in-tag.ensures.value, c.requires.below c.loop-i.i i) in
    let b = count_before c.args.tags.now c.args.index.now c.args.alternatives c.loop-i.i
    c.tag_in-tag.result c.count_one-count.result c.loop-i.counts.items
    c.tag_in-tag.ensures.value a c.count_one-count.ensures.count c.loop-i.invariant.counts in
    omega (arith, b.1, i, c.requires.small)

pub loop-i-preserved : goal.loop-i-preserved
loop-i-preserved g c =
    let i : c.loop-i.i < size_of c.args.tags.now = omega
    (arith, c.loop-i-test.true, c.len-n.ensures.len) in
    let a : c.tag_in-tag.result < c.args.alternatives = omega
    (arith, c.tag_in-tag.ensures.value, c.requires.below c.loop-i.i i) in
    let b = count_before c.args.tags.now c.args.index.now c.args.alternatives c.loop-i.i
    c.tag_in-tag.result c.count_one-count.result c.loop-i.counts.items
    c.tag_in-tag.ensures.value a c.count_one-count.ensures.count c.loop-i.invariant.counts in
    record {
      many =
          ap length c.count_one-count.ensures.counts ∙ length-set _ _ _ ∙ c.loop-i.invariant.many;
      counts =
          subst (AreCounts c.args.tags.now c.args.index.now c.args.alternatives (c.loop-i.i + 1))
          (sym c.count_one-count.ensures.counts)
          (counts_more c.args.tags.now c.args.index.now c.args.alternatives c.loop-i.i
          c.tag_in-tag.result c.count_one-count.result c.loop-i.counts.items
          c.loop-i.invariant.many c.tag_in-tag.ensures.value a c.count_one-count.ensures.count
          c.loop-i.invariant.counts);
      made =
          so_far_pushed _ _ _ c.loop-i.i (int_of c.number.result) c.loop-i.maker c.push.new.self
          c.push.ensures
          (c.number.ensures.number ∙ b.0) c.loop-i.invariant.made;
    }

pub returns-clause-counts : goal.returns-clause-counts
returns-clause-counts g c =
    counts_all c.args.tags.now c.args.index.now c.args.alternatives c.loop-i.i
    c.loop-i.counts.items (omega (arith, c.loop-i-test.false, c.len-n.ensures.len))
    c.loop-i.invariant.many c.loop-i.invariant.counts
