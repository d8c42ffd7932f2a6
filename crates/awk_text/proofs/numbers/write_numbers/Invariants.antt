use Rattle.std.proofs.Common.{◌≡◌, ◌≤◌, ◌-◌, ◌++◌, codes}
use Rattle.awk_layout.specs.Layout.{flat}
use Rattle.awk_text.specs.LayoutText.{layout_text, span_text}
use Rattle.awk_text.proofs.Costs.{IsPaid}
use Rattle.awk_text.proofs.Places.{PlacesLeft, to_come}
use Rattle.awk_text.proofs.numbers.write_numbers.Given as goal

-- some numbers are put, and those from place j on are left
abbrev pub invariant-loop-j : goal.invariant-loop-j
invariant-loop-j g l = record {
  from : l.lo ≤ l.j;
  within : l.j ≤ l.hi;
  places : PlacesLeft (codes ",") (g.K.Sink.written l.fn.sink)
      (g.K.Sink.written l.sink) l.out l.fn.out.held (span_text (flat l.lane) l.lo l.hi)
      (layout_text (flat l.lane)) l.lo l.j l.hi (codes "]");
  flushes : g.K.Sink.flushes l.sink ≡ g.K.Sink.flushes l.fn.sink;
  later : g.K.Sink.faults l.fn.sink ≤ g.K.Sink.faults l.sink;
  cost : IsPaid 1 l.fn.steps l.steps (to_come (layout_text (flat l.lane)) l.lo l.j l.hi
      ++ codes "]") (span_text (flat l.lane) l.lo l.hi);
}

abbrev pub decreases-loop-j : goal.decreases-loop-j
decreases-loop-j g l = l.hi - l.j
