use Rattle.std.proofs.Common.{◌≡◌, ◌<◌, arith}
use Rattle.awk_columns.proofs.SpanPlaces.{span-count, row_more}
use Rattle.awk_columns.proofs.spans.is_row.Goals as goal
use Rattle.awk_columns.proofs.spans.is_row.Goals.{then-span-gt0+else-span-end, else-span-gt0}

pub loop-i-preserved : goal.loop-i-preserved
loop-i-preserved c =
    let a = c.span_of-span.result.start in
    let m = c.span_of-span.result.length in
    let next : 0 < m → a ≡ c.loop-i.end = elim c.if-span-gt0.branch [
      | then-span-gt0+else-span-end w ↦ λ p. omega (arith, w.if-span-end.false)
      | else-span-gt0 w ↦ λ p. absurd (omega (arith, w.if-span-gt0.false))
    ] in
    record {
      end =
          omega (
            arith,
            span-count c.args.starts.now c.args.stops.now c.loop-i.i a m
                c.span_of-span.ensures.places,
            c.loop-i.invariant.end,
          );
      row =
          row_more c.args.starts.now c.args.stops.now c.loop-i.i c.args.first c.loop-i.end a m
          c.span_of-span.ensures.places c.loop-i.invariant.end next c.loop-i.invariant.row;
    }
