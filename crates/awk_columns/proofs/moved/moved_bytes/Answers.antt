use Rattle.std.proofs.Common.{◌+◌, arith, sym, subst}
use Rattle.awk_lanes.specs.Places.{size_of}
use Rattle.awk_counts.specs.Counted.{first_of, numbers_at, span_at}
use Rattle.awk_columns.proofs.JoinedLists.{spans_wider}
use Rattle.awk_columns.proofs.MovedNumbers.{AreBytesOf, moved_next}
use Rattle.awk_columns.proofs.moved.moved_bytes.Goals as goal

pub span_of-span-requires-clause-spans : goal.span_of-span-requires-clause-spans
span_of-span-requires-clause-spans g c =
    spans_wider c.args.starts.now c.args.stops.now (size_of c.args.lane.now) 9223372036854775807
    (omega (arith, c.requires.small)) c.requires.spans

pub cut-part-requires-clause-within : goal.cut-part-requires-clause-within
cut-part-requires-clause-within g c =
    c.span_of-span.ensures.within (size_of c.args.lane.now) c.requires.spans

pub loop-i-preserved : goal.loop-i-preserved
loop-i-preserved g c =
    subst
    (AreBytesOf c.args.lane.now.kind (numbers_at c.args.lane.now
    (first_of (span_at c.args.starts.now c.args.stops.now) (c.loop-i.i + 1))).items)
    (sym c.in_ok-extend_from_slice.ensures.items)
    (moved_next c.args.starts.now c.args.stops.now c.args.lane.now c.cut-part.result c.loop-i.i
    c.span_of-span.result.start c.span_of-span.result.length c.loop-i.bytes.items
    c.bulk.result.now c.span_of-span.ensures.places
    (c.span_of-span.ensures.within (size_of c.args.lane.now) c.requires.spans)
    c.cut-part.ensures.value c.bulk.ensures.size c.bulk.ensures.numbers c.loop-i.invariant)
