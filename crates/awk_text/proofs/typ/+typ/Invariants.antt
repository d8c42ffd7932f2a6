use Rattle.std.proofs.Common.{◌≡◌, ◌≤◌, codes, length}
use Rattle.awk_types.specs.DataType.{types_from}
use Rattle.awk_types.specs.View.{typs_of, fields_of, names_of, types_of}
use Rattle.awk_text.specs.TypeText.{enclosed, type_texts, field_type_texts}
use Rattle.awk_text.proofs.Places.{PlacesLeft}
use Rattle.awk_text.proofs.TypeTexts.{type_at, field_at}
use Rattle.awk_text.proofs.typ.+typ.Given as goal

-- some types are put, and those from place k on are left
abbrev pub invariant-write_types-loop-k : goal.invariant-write_types-loop-k
invariant-write_types-loop-k g l = record {
  places : PlacesLeft (codes ", ") (g.K.Sink.written l.fn.sink)
      (g.K.Sink.written l.sink) l.out l.fn.out.held
      (enclosed l.opening (type_texts (types_from (typs_of l.types))) l.close)
      (type_at (typs_of l.types)) 0 l.k (length (typs_of l.types)) l.close;
  flushes : g.K.Sink.flushes l.sink ≡ g.K.Sink.flushes l.fn.sink;
  later : g.K.Sink.faults l.fn.sink ≤ g.K.Sink.faults l.sink;
}

-- some fields are put, and those from place k on are left
abbrev pub invariant-write_fields-loop-k : goal.invariant-write_fields-loop-k
invariant-write_fields-loop-k g l = record {
  places : PlacesLeft (codes ", ") (g.K.Sink.written l.fn.sink)
      (g.K.Sink.written l.sink) l.out l.fn.out.held
      (enclosed (codes "{")
      (field_type_texts (names_of (fields_of l.fields))
      (type_texts (types_of (fields_of l.fields)))) (codes "}"))
      (field_at (fields_of l.fields)) 0 l.k (length (fields_of l.fields)) (codes "}");
  flushes : g.K.Sink.flushes l.sink ≡ g.K.Sink.flushes l.fn.sink;
  later : g.K.Sink.faults l.fn.sink ≤ g.K.Sink.faults l.sink;
}
