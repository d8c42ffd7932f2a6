use Rattle.std.proofs.Common.{◌≡◌, ◌≤◌, ◌-◌, ◌%◌, ◌⊎◌, ◌++◌, Ok, length, take}
use Rattle.base64.specs.Engines.{standard}
use Rattle.base64.specs.GeneralPurpose.{encode_of}
use Rattle.awk_edge.specs.Put.{Moves}
use Rattle.awk_edge.specs.declared.output.WriteFault.{WriteFault}
use Rattle.awk_text.proofs.encoded.write_base64.Given as goal

-- the bytes before `done` are put, which are whole groups of three until all are put
abbrev pub invariant-loop-done : goal.invariant-loop-done
invariant-loop-done g l = record {
  put : Moves {E = WriteFault} (g.K.Sink.written l.fn.sink)
      (g.K.Sink.written l.sink) l.out (l.fn.out.held ++ encode_of standard (take l.done l.bytes))
      (Ok tt);
  within : l.done ≤ length l.bytes;
  groups : (l.done % 3 ≡ 0) ⊎ (l.done ≡ length l.bytes);
  flushes : g.K.Sink.flushes l.sink ≡ g.K.Sink.flushes l.fn.sink;
  later : g.K.Sink.faults l.fn.sink ≤ g.K.Sink.faults l.sink;
}

abbrev pub decreases-loop-done : goal.decreases-loop-done
decreases-loop-done g l = length l.bytes - l.done
