use Rattle.std.proofs.Common.{◌≡◌, ◌≤◌, ◌+◌, ◌++◌, List, Ok, drop, length}
use Rattle.awk_types.specs.DataType.{Name}
use Rattle.awk_edge.specs.Put.{Moves}
use Rattle.awk_edge.specs.declared.output.WriteFault.{WriteFault}
use Rattle.awk_form.specs.FormTree.{forms_from}
use Rattle.awk_form.specs.View.{forms_of}
use Rattle.awk_text.specs.Buffers.{keys_of, texts_from, numbers_before}
use Rattle.awk_text.proofs.buffers.+buffers.Given as goal

abbrev pub decreases-write_all : goal.decreases-write_all
decreases-write_all g l = goal.size-write_all g l

abbrev pub decreases-write_below : goal.decreases-write_below
decreases-write_below g l = goal.size-write_below g l

abbrev pub decreases-write_buffers : goal.decreases-write_buffers
decreases-write_buffers g l = goal.size-write_buffers g l

-- the buffers of the first forms are put, and those from form i on are left
abbrev pub invariant-write_all-loop-i : goal.invariant-write_all-loop-i
invariant-write_all-loop-i g l = record {
  done : List Name;
  put : Moves {E = WriteFault} (g.K.Sink.written l.fn.sink)
      (g.K.Sink.written l.sink) l.out (l.fn.out.held ++ texts_from l.fn.next done l.lanes) (Ok tt);
  left : keys_of (forms_from (forms_of l.forms))
      ≡ done ++ keys_of (forms_from (drop l.i (forms_of l.forms)));
  next : l.next ≡ l.fn.next + length done;
  flushes : g.K.Sink.flushes l.sink ≡ g.K.Sink.flushes l.fn.sink;
  later : g.K.Sink.faults l.fn.sink ≤ g.K.Sink.faults l.sink;
  cost : l.steps + numbers_before l.fn.next l.lanes ≤ l.fn.steps + numbers_before l.next l.lanes;
}
