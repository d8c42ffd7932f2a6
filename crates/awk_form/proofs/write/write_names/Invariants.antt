use Rattle.std.proofs.Common.{◌≡◌, ◌≤◌, map, drop, codes}
use Rattle.awk_edge.specs.declared.output.WriteFault.{WriteFault}
use Rattle.awk_json.proofs.Joins.{Joins}
use Rattle.awk_json.specs.Text.{quoted, list_text, comma_before}
use Rattle.awk_form.proofs.write.write_names.Given as goal

-- some names are put, and the rest is left
abbrev pub invariant-loop-i : goal.invariant-loop-i
invariant-loop-i g l = record {
  joins : Joins (g.K.Sink.written l.fn.sink)
      (g.K.Sink.written l.sink) l.out WriteFault l.fn.out.held (list_text (map quoted l.names))
      (comma_before l.is_first) (map quoted (drop l.i l.names)) (codes "]");
  flushes : g.K.Sink.flushes l.sink ≡ g.K.Sink.flushes l.fn.sink;
  later : g.K.Sink.faults l.fn.sink ≤ g.K.Sink.faults l.sink;
}
