use Rattle.std.proofs.Common.{◌≡◌, ◌<◌, length, arith, ap, ◌∙◌, subst}
use Rattle.std.specs.Prelude.{IfOk}
use Rattle.std.proofs.lemmas.List.{length-map}
use Rattle.awk_lanes.specs.Places.{size_of}
use Rattle.awk_counts.specs.Counted.{begun}
use Rattle.awk_counts.proofs.TaggedPlaces.{parted_none, parted_room, parted_pushed, parted_all}
use Rattle.awk_counts.proofs.tagged.tagged_lanes.Goals as goal

pub loop-i-init : goal.loop-i-init
loop-i-init g c = record {
  many = ap length c.in_ok-makers.ensures ∙ length-map c.args.counts.now begun;
  parted =
      parted_none c.args.tags.now c.args.index.now c.args.counts.now _ c.in_ok-makers.ensures;
}

pub push_place-requires-clause-within : goal.push_place-requires-clause-within
push_place-requires-clause-within g c =
    let i : c.loop-i.i < size_of c.args.tags.now = omega
    (arith, c.loop-i-test.true, c.len-i-end.ensures.len) in
    omega
    (arith, c.tag_in-tag.ensures.value, c.requires.below c.loop-i.i i, c.loop-i.invariant.many)

pub push_place-requires-clause-kind : goal.push_place-requires-clause-kind
push_place-requires-clause-kind g c =
    let i : c.loop-i.i < size_of c.args.tags.now = omega
    (arith, c.loop-i-test.true, c.len-i-end.ensures.len) in
    let a : c.tag_in-tag.result < length c.args.counts.now = omega
    (arith, c.tag_in-tag.ensures.value, c.requires.below c.loop-i.i i) in
    (c.loop-i.invariant.parted c.tag_in-tag.result a).kind

pub push_place-requires-clause-room : goal.push_place-requires-clause-room
push_place-requires-clause-room g c =
    let i : c.loop-i.i < size_of c.args.tags.now = omega
    (arith, c.loop-i-test.true, c.len-i-end.ensures.len) in
    let a : c.tag_in-tag.result < length c.args.counts.now = omega
    (arith, c.tag_in-tag.ensures.value, c.requires.below c.loop-i.i i) in
    parted_room c.args.tags.now c.args.index.now c.args.counts.now c.loop-i.i c.tag_in-tag.result
    c.loop-i.makers.items c.requires.counts i c.tag_in-tag.ensures.value a
    c.loop-i.invariant.parted

pub push_place-requires-clause-small : goal.push_place-requires-clause-small
push_place-requires-clause-small g c =
    let i : c.loop-i.i < size_of c.args.tags.now = omega
    (arith, c.loop-i-test.true, c.len-i-end.ensures.len) in
    omega (arith, c.place_in.ensures.value, (c.requires.tagged.places c.loop-i.i i).1)

pub loop-i-preserved : goal.loop-i-preserved
loop-i-preserved g c =
    let i : c.loop-i.i < size_of c.args.tags.now = omega
    (arith, c.loop-i-test.true, c.len-i-end.ensures.len) in
    let a : c.tag_in-tag.result < length c.args.counts.now = omega
    (arith, c.tag_in-tag.ensures.value, c.requires.below c.loop-i.i i) in
    let made = parted_pushed c.args.tags.now c.args.index.now c.args.counts.now c.loop-i.i
    c.tag_in-tag.result c.place_in.result c.loop-i.makers.items c.push_place.new.makers.items
    c.push_place.ensures c.loop-i.invariant.many c.tag_in-tag.ensures.value a
    c.place_in.ensures.value c.loop-i.invariant.parted in
    record { many = made.0; parted = made.1 }

pub returns : goal.returns
returns g c =
    subst (λ xs. IfOk c.finished.result (λ r. r ≡ xs))
    (parted_all c.args.tags.now c.args.index.now c.args.counts.now c.loop-i.i
    c.loop-i.makers.items (omega (arith, c.loop-i-test.false, c.len-i-end.ensures.len))
    c.loop-i.invariant.many c.loop-i.invariant.parted) c.finished.ensures
