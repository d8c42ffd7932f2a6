use Rattle.std.proofs.Common.{◌<◌, arith}
use Rattle.awk_lanes.specs.Places.{size_of}
use Rattle.awk_columns.proofs.SpanPlaces.{spans_begun, spans_pushed, spans_next, spans_room}
use Rattle.awk_columns.proofs.spans.span_lane.Goals as goal

pub loop-k-init : goal.loop-k-init
loop-k-init c =
    spans_begun c.args.starts.now c.args.stops.now c.args.n c.loop-i.i c.span_of-span.result.start
    c.loop-i.maker c.loop-i.invariant

pub push-requires-clause-room : goal.push-requires-clause-room
push-requires-clause-room c =
    let i : c.loop-i.i < size_of c.args.starts.now = omega
    (arith, c.loop-i-test.true, c.len-i-end.ensures.len) in
    spans_room c.args.starts.now c.args.stops.now c.args.n c.loop-i.i c.span_of-span.result.start
    c.loop-k.k c.span_of-span.result.length c.loop-k.maker c.requires.total
    c.span_of-span.ensures.places i (omega (arith, c.loop-k-test.true)) c.loop-k.invariant

pub loop-k-preserved : goal.loop-k-preserved
loop-k-preserved c =
    spans_pushed c.args.starts.now c.args.stops.now c.args.n c.loop-i.i c.span_of-span.result.start
    c.loop-k.k _ c.loop-k.maker c.push.new.self c.push.ensures c.number.ensures.number
    c.loop-k.invariant

pub loop-i-preserved : goal.loop-i-preserved
loop-i-preserved c =
    spans_next c.args.starts.now c.args.stops.now c.args.n c.loop-i.i c.span_of-span.result.start
    c.loop-k.k c.span_of-span.result.length c.loop-k.maker c.span_of-span.ensures.places
    (omega (arith, c.loop-k-test.false, c.loop-k.auto)) c.loop-k.invariant
