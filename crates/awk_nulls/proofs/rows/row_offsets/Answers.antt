use Rattle.std.proofs.Common.{◌≡◌, ◌+◌, arith, ◌∙◌}
use Rattle.std.specs.Prelude.{pos}
use Rattle.awk_lanes.specs.Counted.{before}
use Rattle.awk_lanes.specs.Numbers.{int_of}
use Rattle.awk_lanes.proofs.MadeLanes.{made_size}
use Rattle.awk_counts.proofs.FirstPlaces.{present-few}
use Rattle.awk_nulls.specs.Lanes.{row_count}
use Rattle.awk_nulls.proofs.RowLaws.{row_begun, row_more, row_done}
use Rattle.awk_nulls.proofs.rows.row_offsets.Goals as goal

pub loop-i-init : goal.loop-i-init
loop-i-init g c =
    row_begun (g.P.OptionIndex.lane c.args.index.now) c.args.lists.now.starts
    c.args.lists.now.stops c.len-n.result (int_of c.number.result) c.in_ok-maker.maker
    c.push.new.self c.len-n.ensures.len c.push.ensures c.number.ensures.number
    c.in_ok-maker.ensures

pub overflow_add-end : goal.overflow_add-end
overflow_add-end g c = omega (arith, c.if-span-place.false, c.span_or-span.ensures.small)

pub overflow_add-count : goal.overflow_add-count
overflow_add-count g c =
    omega (
      arith,
      c.loop-i.invariant.count,
      c.count_between-count.ensures,
      present-few (g.P.OptionIndex.lane c.args.index.now)
          (c.loop-i.place + c.span_or-span.result.length),
      c.span_or-span.ensures.small,
      c.if-span-place.false,
    )

pub number-requires-in-loop-i : goal.number-requires-in-loop-i
number-requires-in-loop-i g c =
    omega (
      arith,
      c.loop-i.invariant.count,
      c.count_between-count.ensures,
      present-few (g.P.OptionIndex.lane c.args.index.now)
          (c.loop-i.place + c.span_or-span.result.length),
      c.span_or-span.ensures.small,
      c.if-span-place.false,
    )

pub push-requires-in-loop-i-clause-room : goal.push-requires-in-loop-i-clause-room
push-requires-in-loop-i-clause-room g c =
    omega (
      arith,
      made_size (λ k. pos (before (row_count (g.P.OptionIndex.lane c.args.index.now)
          c.args.lists.now.starts c.args.lists.now.stops) k)) (c.loop-i.i + 1)
          c.loop-i.maker.items c.loop-i.invariant.lane.items,
      c.loop-i.invariant.lane.room,
      c.loop-i-test.true,
      c.len-n.ensures.len,
    )

pub loop-i-preserved : goal.loop-i-preserved
loop-i-preserved g c =
    let s = c.args.lists.now.starts in
    let t = c.args.lists.now.stops in
    let same : c.loop-i.place ≡ c.span_or-span.result.start =
    omega (arith, c.if-span-place.false) in
    row_more (g.P.OptionIndex.lane c.args.index.now) s t c.loop-i.place c.loop-i.count c.loop-i.i
    c.span_or-span.result.length c.count_between-count.result
    (int_of c.number-in-loop-i.result) c.loop-i.maker c.push-in-loop-i.new.self
    c.loop-i.invariant c.span_or-span.ensures.length
    (λ q. same ∙ c.span_or-span.ensures.start (omega (arith, q, c.span_or-span.ensures.length)))
    (omega (arith, c.span_or-span.ensures.within, c.requires.size, same))
    c.count_between-count.ensures c.push-in-loop-i.ensures c.number-in-loop-i.ensures.number

pub returns : goal.returns
returns g c =
    row_done (g.P.OptionIndex.lane c.args.index.now) c.args.lists.now.starts
    c.args.lists.now.stops c.loop-i.place c.loop-i.count c.loop-i.i c.loop-i.maker
    c.finish.result c.loop-i.invariant
    (omega (arith, c.loop-i-test.false, c.len-n.ensures.len))
    (omega (arith, c.if-place-size.false, c.size-size.ensures)) c.finish.ensures
