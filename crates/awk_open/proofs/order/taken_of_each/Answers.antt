use Rattle.std.proofs.Common.{arith, length, ap, sym, ◌∙◌, subst}
use Rattle.awk_lanes.specs.Column.{Column}
use Rattle.awk_lanes.specs.Places.{IsIndex}
use Rattle.awk_layout.specs.Valid.{len}
use Rattle.awk_layout.specs.Contents.{count-layouts_from}
use Rattle.awk_counts.specs.Counted.{tag_counts, tagged_places}
use Rattle.awk_open.proofs.OrderedUnions.{union_tagged, union_below, reached_push}
use Rattle.awk_columns.proofs.ReachedContents.{places_index, reached_by}
use Rattle.awk_counts.proofs.TaggedPlaces.{length-tag_counts, length-tagged_lanes, tagged_lanes-get}
use Rattle.awk_open.proofs.order.taken_of_each.Goals as goal

pub tagged_lanes-requires-clause-tagged : goal.tagged_lanes-requires-clause-tagged
tagged_lanes-requires-clause-tagged g c =
    union_tagged c.args.tags.now c.args.index.now c.args.contents.now c.requires.valid

pub tagged_lanes-requires-clause-below : goal.tagged_lanes-requires-clause-below
tagged_lanes-requires-clause-below g c = λ i l. omega (
  arith,
  (c.requires.valid.1.tags i l).1,
  count-layouts_from c.args.contents.now,
  ap length c.requires.counts,
  length-tag_counts c.args.tags.now c.args.index.now (length c.args.contents.now),
)

pub tagged_lanes-requires-clause-counts : goal.tagged_lanes-requires-clause-counts
tagged_lanes-requires-clause-counts g c =
    let many = length c.args.contents.now in
    c.requires.counts ∙ ap (tag_counts c.args.tags.now c.args.index.now)
    (sym (ap length c.requires.counts
    ∙ length-tag_counts c.args.tags.now c.args.index.now many))

pub get-requires-in-loop-a : goal.get-requires-in-loop-a
get-requires-in-loop-a g c = omega (
  arith,
  ap length c.in_ok-places.ensures,
  length-tagged_lanes c.args.tags.now c.args.index.now (length c.args.counts.now),
  ap length c.requires.counts,
  length-tag_counts c.args.tags.now c.args.index.now (length c.args.contents.now),
)

pub taken-requires-clause-kind : goal.taken-requires-clause-kind
taken-requires-clause-kind g c =
    ap (λ (p : Column). p.kind) (tagged_lanes-get c.args.tags.now c.args.index.now
    (length c.args.counts.now) c.loop-a.a c.get-in-loop-a.result.now
    (rw c.in_ok-places.ensures at c.get-in-loop-a.ensures))

pub taken-requires-clause-places : goal.taken-requires-clause-places
taken-requires-clause-places g c =
    let below = union_below c.args.tags.now c.args.index.now c.args.contents.now c.loop-a.a
    c.get.result.now c.get.ensures c.requires.valid in
    subst (λ p. IsIndex p (len c.get.result.now)) (sym (tagged_lanes-get c.args.tags.now
    c.args.index.now (length c.args.counts.now) c.loop-a.a c.get-in-loop-a.result.now
    (rw c.in_ok-places.ensures at c.get-in-loop-a.ensures)))
    (places_index (len c.get.result.now)
    (tagged_places c.args.tags.now c.args.index.now c.loop-a.a) below)

pub loop-a-preserved : goal.loop-a-preserved
loop-a-preserved g c =
    let below = union_below c.args.tags.now c.args.index.now c.args.contents.now c.loop-a.a
    c.get.result.now c.get.ensures c.requires.valid in
    let reached = reached_by c.get.result.now c.in_ok-items.items c.get-in-loop-a.result.now
    (tagged_places c.args.tags.now c.args.index.now c.loop-a.a) below
    (tagged_lanes-get c.args.tags.now c.args.index.now (length c.args.counts.now) c.loop-a.a
    c.get-in-loop-a.result.now (rw c.in_ok-places.ensures at c.get-in-loop-a.ensures))
    c.in_ok-items.ensures.typ c.in_ok-items.ensures.items in
    record {
      within = omega arith;
      reached =
          rw c.in_ok-push.ensures.ok (reached_push c.args.tags.now c.args.index.now
          c.args.contents.now c.loop-a.a c.get.result.now c.in_ok-items.items c.loop-a.arrays
          c.get.ensures c.loop-a.invariant.reached reached c.len-in-loop-a.ensures.valid);
    }
