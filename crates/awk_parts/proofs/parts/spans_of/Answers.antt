use Rattle.std.proofs.Common.{◌∙◌}
use Rattle.std.proofs.Common.{arith}
use Rattle.awk_parts.proofs.SpanLaws.{ends-count, ends-at}
use Rattle.awk_parts.proofs.parts.spans_of.Goals as goal

pub returns : goal.returns
returns g c =
    let s = c.args.starts.now in
    let t = c.args.stops.now in
    record {
      starts = ends-count s c.in_ok-first.first.now c.requires.starts c.in_ok-first.ensures;
      stops = ends-count t c.in_ok-last.last.now c.requires.stops c.in_ok-last.ensures
          ∙ c.requires.same;
      start = ends-at s c.in_ok-first.first.now c.requires.starts c.in_ok-first.ensures;
      stop = λ i l.
          ends-at t c.in_ok-last.last.now c.requires.stops c.in_ok-last.ensures i
          (omega (arith, l, c.requires.same));
    }
