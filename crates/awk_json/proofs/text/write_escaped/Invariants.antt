use Rattle.std.proofs.Common.{◌≡◌, ◌≤◌, ◌++◌, List, ℕ, Ok, drop, slice_range}
use Rattle.awk_edge.specs.Put.{Moves}
use Rattle.awk_edge.specs.declared.output.WriteFault.{WriteFault}
use Rattle.awk_json.specs.Text.{escaped_all}
use Rattle.awk_json.proofs.text.write_escaped.Given as goal

-- the bytes before `start` are put, and those from there to `i` stand as they are
abbrev pub invariant-loop-i : goal.invariant-loop-i
invariant-loop-i g l = record {
  ordered : l.start ≤ l.i;
  done : List ℕ;
  put : Moves {E = WriteFault} (g.K.Sink.written l.fn.sink) (g.K.Sink.written l.sink) l.out
      (l.fn.out.held ++ done) (Ok tt);
  whole : escaped_all l.bytes ≡ done ++ (slice_range l.bytes l.start l.i ++ escaped_all
      (drop l.i l.bytes));
  flushes : g.K.Sink.flushes l.sink ≡ g.K.Sink.flushes l.fn.sink;
  later : g.K.Sink.faults l.fn.sink ≤ g.K.Sink.faults l.sink;
}
