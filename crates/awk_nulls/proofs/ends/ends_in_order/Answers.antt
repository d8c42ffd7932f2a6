use Rattle.std.proofs.Common.{◌≡◌, ◌+◌, ◌<◌, ◌≤◌, arith}
use Rattle.awk_lanes.specs.Numbers.{int_of}
use Rattle.awk_lanes.specs.Places.{size_of, place_at}
use Rattle.awk_lanes.specs.declared.kind.Kind.TheVariants.{I64}
use Rattle.awk_lanes.proofs.MadeLanes.{made_size, so_far_pushed}
use Rattle.awk_counts.proofs.FirstPlaces.{present-few}
use Rattle.awk_columns.specs.Lists.{span_length}
use Rattle.awk_nulls.specs.Lanes.{present_before}
use Rattle.awk_nulls.proofs.EndCounts.{start_number, stop_number, end_is}
use Rattle.awk_nulls.proofs.EndCounts.{stop_is, lane_made}
use Rattle.awk_nulls.proofs.ends.ends_in_order.Goals as goal

pub overflow_add-count : goal.overflow_add-count
overflow_add-count c =
    omega (
      arith,
      c.loop-i.invariant.count,
      c.count_between-count.ensures,
      present-few c.args.index.now c.span_or-span.result.start,
      c.span_or-span.ensures.small,
    )

pub end_number-requires : goal.end_number-requires
end_number-requires c = record {
  small = omega (
    arith,
    c.loop-i.invariant.count,
    c.count_between-count.ensures,
    present-few c.args.index.now c.span_or-span.result.start,
    c.span_or-span.ensures.small,
  );
}

pub push-requires-clause-room : goal.push-requires-clause-room
push-requires-clause-room c =
    omega (
      arith,
      made_size (start_number c.args.index.now c.args.lists.now.starts c.args.lists.now.stops)
          c.loop-i.i c.loop-i.starts.items c.loop-i.invariant.starts.items,
      c.loop-i.invariant.starts.room,
      c.loop-i-test.true,
      c.len-n.ensures.len,
    )

pub overflow_add-count-in-loop-i : goal.overflow_add-count-in-loop-i
overflow_add-count-in-loop-i c =
    omega (
      arith,
      c.loop-i.invariant.count,
      c.count_between-count.ensures,
      c.count_between-count-in-loop-i.ensures,
      present-few c.args.index.now
          (c.span_or-span.result.start + c.span_or-span.result.length),
      c.span_or-span.ensures.small,
    )

pub end_number-requires-in-loop-i : goal.end_number-requires-in-loop-i
end_number-requires-in-loop-i c = record {
  small = omega (
    arith,
    c.loop-i.invariant.count,
    c.count_between-count.ensures,
    c.count_between-count-in-loop-i.ensures,
    present-few c.args.index.now
        (c.span_or-span.result.start + c.span_or-span.result.length),
    c.span_or-span.ensures.small,
  );
}

pub push-requires-in-loop-i-clause-room : goal.push-requires-in-loop-i-clause-room
push-requires-in-loop-i-clause-room c =
    omega (
      arith,
      made_size (stop_number c.args.index.now c.args.lists.now.starts c.args.lists.now.stops)
          c.loop-i.i c.loop-i.stops.items c.loop-i.invariant.stops.items,
      c.loop-i.invariant.stops.room,
      c.loop-i-test.true,
      c.len-n.ensures.len,
    )

pub loop-i-preserved : goal.loop-i-preserved
loop-i-preserved c =
    let j = c.args.index.now in
    let s = c.args.lists.now.starts in
    let t = c.args.lists.now.stops in
    let start = c.span_or-span.result.start in
    let n = c.span_or-span.result.length in
    let one = c.loop-i.count + c.count_between-count.result in
    let two = one + c.count_between-count-in-loop-i.result in
    let long : n ≡ span_length s t c.loop-i.i = c.span_or-span.ensures.length in
    let within : c.loop-i.i < size_of s = omega (arith, c.loop-i-test.true, c.len-n.ensures.len) in
    let begins : 0 < span_length s t c.loop-i.i → start ≡ place_at s c.loop-i.i =
    λ q. c.span_or-span.ensures.start (omega (arith, q, long)) in
    let below : start + n ≤ size_of j =
    omega (arith, c.span_or-span.ensures.within, c.requires.size) in
    let counted : one ≡ present_before j start =
    omega (arith, c.loop-i.invariant.count, c.count_between-count.ensures) in
    let all : two ≡ present_before j (start + n) =
    omega (arith, counted, c.count_between-count-in-loop-i.ensures) in
    record {
      place = below;
      count = all;
      starts = so_far_pushed I64 (size_of s) (start_number j s t) c.loop-i.i
          (int_of c.end_number.result) c.loop-i.starts c.push.new.self c.push.ensures
          (end_is j n (span_length s t c.loop-i.i) start (place_at s c.loop-i.i) one
          (int_of c.end_number.result) long begins (omega (arith, below)) counted
          c.end_number.ensures.number) c.loop-i.invariant.starts;
      stops = so_far_pushed I64 (size_of s) (stop_number j s t) c.loop-i.i
          (int_of c.end_number-in-loop-i.result) c.loop-i.stops c.push-in-loop-i.new.self
          c.push-in-loop-i.ensures
          (end_is j n (span_length s t c.loop-i.i) (start + n) (place_at t c.loop-i.i) two
          (int_of c.end_number-in-loop-i.result) long
          (λ q. omega (
            arith,
            long,
            stop_is c.args.lists.now.class s t c.args.lists.now.content c.loop-i.i start
                c.content.ensures.lists within begins q,
          )) below all c.end_number-in-loop-i.ensures.number) c.loop-i.invariant.stops;
    }

pub returns : goal.returns
returns c =
    let j = c.args.index.now in
    let s = c.args.lists.now.starts in
    let t = c.args.lists.now.stops in
    let done : c.loop-i.i ≡ size_of s = omega (arith, c.loop-i-test.false, c.len-n.ensures.len) in (
      lane_made (start_number j s t) (size_of s) c.loop-i.i c.loop-i.starts c.finish.result
          c.loop-i.invariant.starts done c.finish.ensures,
      lane_made (stop_number j s t) (size_of s) c.loop-i.i c.loop-i.stops c.finish-2.result
          c.loop-i.invariant.stops done c.finish-2.ensures,
    )
