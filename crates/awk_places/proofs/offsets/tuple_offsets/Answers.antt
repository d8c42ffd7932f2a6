use Rattle.std.proofs.Common.{◌≡◌, ◌+◌, length, ap, ◌∙◌, arith, None, Some}
use Rattle.std.specs.Prelude.{pos}
use Rattle.awk_types.specs.ItemLimit.{item_limit}
use Rattle.awk_lanes.specs.declared.kind.Kind.TheVariants as Kind
use Rattle.awk_lanes.specs.Counted.{before}
use Rattle.awk_lanes.proofs.MadeLanes.{so_far_pushed, made_size}
use Rattle.awk_lanes.proofs.CountedLanes.{before-next, total_passed, one_within}
use Rattle.awk_places.specs.Places.{IsCounted}
use Rattle.awk_places.proofs.offsets.tuple_offsets.Goals as goal

pub returns-in_default : goal.returns-in_default
returns-in_default g c =
    let m = g.S.TupleCounts.count c.args.source.now in
    let t : IsCounted (m c.loop-i.i) None = rw c.in_default.is at c.count.ensures.count in
    omega (arith, t, one_within m c.args.n c.loop-i.i (omega (arith, c.loop-i-test.true)))

pub returns-then-count-total : goal.returns-then-count-total
returns-then-count-total g c =
    let m = g.S.TupleCounts.count c.args.source.now in
    let t : IsCounted (m c.loop-i.i) (Some c.in-Some.count) =
    rw c.in-Some.is at c.count.ensures.count in
    total_passed m item_limit c.args.n c.loop-i.i c.loop-i.total
    c.in-Some.count (omega (arith, c.loop-i-test.true)) c.loop-i.invariant.total t.0
    (omega (arith, c.if-count-total.true, c.loop-i.invariant.small))

pub push-requires-in-loop-i-clause-room : goal.push-requires-in-loop-i-clause-room
push-requires-in-loop-i-clause-room g c =
    let m = g.S.TupleCounts.count c.args.source.now in
    let e : length c.loop-i.maker.items ≡ c.loop-i.i + 1 =
    made_size (λ j. pos (before m j)) (c.loop-i.i + 1) _ c.loop-i.invariant.made.items in
    omega (arith, e, c.loop-i.invariant.made.room, c.loop-i-test.true)

pub loop-i-preserved : goal.loop-i-preserved
loop-i-preserved g c =
    let m = g.S.TupleCounts.count c.args.source.now in
    let s : IsCounted (m c.loop-i.i) (Some c.in-Some.count) =
    rw c.in-Some.is at c.count.ensures.count in
    let t : c.loop-i.total + c.in-Some.count ≡ before m (c.loop-i.i + 1) =
    omega (arith, before-next m c.loop-i.i, c.loop-i.invariant.total, s.0) in
    record {
      total = t;
      small = omega (arith, c.if-count-total.false, c.loop-i.invariant.small);
      made = so_far_pushed Kind.I64 (c.args.n + 1) (λ j. pos (before m j)) (c.loop-i.i + 1) _
          c.loop-i.maker c.push-in-loop-i.new.self c.push-in-loop-i.ensures
          (c.number-in-loop-i.ensures.number ∙ ap pos t) c.loop-i.invariant.made;
    }
