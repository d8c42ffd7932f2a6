use Rattle.std.proofs.Common.{◌≡◌, ◌≤◌, map, drop, codes}
use Rattle.awk_edge.specs.declared.output.WriteFault.{WriteFault}
use Rattle.awk_json.proofs.Joins.{Joins}
use Rattle.awk_json.specs.Text.{list_text, comma_before}
use Rattle.awk_form.specs.FormText.{form_text}
use Rattle.awk_form.specs.View.{form_of, forms_of}
use Rattle.awk_form.proofs.write.+write.Given as goal

-- some forms are put, and the rest is left
abbrev pub invariant-write_forms-loop-form : goal.invariant-write_forms-loop-form
invariant-write_forms-loop-form g l = record {
  joins : Joins (g.K.Sink.written l.fn.sink)
      (g.K.Sink.written l.sink) l.out WriteFault l.fn.out.held
      (list_text (map form_text (forms_of l.forms))) (comma_before l.is_first)
      (map form_text (map form_of (drop l.form-index l.form-items))) (codes "]");
  flushes : g.K.Sink.flushes l.sink ≡ g.K.Sink.flushes l.fn.sink;
  later : g.K.Sink.faults l.fn.sink ≤ g.K.Sink.faults l.sink;
}
