use Rattle.std.proofs.Common.{◌<◌, arith}
use Rattle.awk_lanes.specs.Places.{size_of}
use Rattle.awk_columns.proofs.SpanPlaces.{span-count, span-room}
use Rattle.awk_columns.proofs.spans.total.Goals as goal

pub returns-then-span-limit : goal.returns-then-span-limit
returns-then-span-limit c =
    let i : c.loop-i.i < size_of c.args.starts.now = omega
    (arith, c.loop-i-test.true, c.len-i-end.ensures.len) in
    omega (
      arith,
      span-room c.args.starts.now c.args.stops.now c.loop-i.i
          c.span_of-span.result.start c.span_of-span.result.length c.span_of-span.ensures.places i,
      c.loop-i.invariant.total,
      c.loop-i.invariant.few,
      c.if-span-limit.true,
    )

pub loop-i-preserved : goal.loop-i-preserved
loop-i-preserved c = record {
  total =
      omega (
        arith,
        span-count c.args.starts.now c.args.stops.now c.loop-i.i
            c.span_of-span.result.start c.span_of-span.result.length c.span_of-span.ensures.places,
        c.loop-i.invariant.total,
      );
  few = omega (arith, c.if-span-limit.false, c.loop-i.invariant.few);
}
