use Rattle.std.proofs.Common.{◌≡◌, ◌≤◌, map, drop, codes, decimal}
use Rattle.awk_edge.specs.declared.output.WriteFault.{WriteFault}
use Rattle.awk_json.proofs.Joins.{Joins}
use Rattle.awk_json.specs.Text.{list_text, comma_before}
use Rattle.awk_form.proofs.write.write_numbers.Given as goal

-- some numbers are put, and the rest is left
abbrev pub invariant-loop-n : goal.invariant-loop-n
invariant-loop-n g l = record {
  joins : Joins (g.K.Sink.written l.fn.sink)
      (g.K.Sink.written l.sink) l.out WriteFault l.fn.out.held (list_text (map decimal l.numbers))
      (comma_before l.is_first) (map decimal (drop l.n-index l.n-items)) (codes "]");
  flushes : g.K.Sink.flushes l.sink ≡ g.K.Sink.flushes l.fn.sink;
  later : g.K.Sink.faults l.fn.sink ≤ g.K.Sink.faults l.sink;
}
