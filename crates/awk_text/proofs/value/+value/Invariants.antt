use Rattle.std.proofs.Common.{◌≡◌, ◌+◌, ◌*◌, ◌≤◌, ◌++◌, codes, length}
use Rattle.awk_layout.specs.Layout.{height, heights, layouts_from}
use Rattle.awk_text.specs.LayoutText.{layout_text, span_text, row_text, member_text, names_shown}
use Rattle.awk_text.proofs.Costs.{IsPaid}
use Rattle.awk_text.proofs.Places.{PlacesLeft, to_come}
use Rattle.awk_text.proofs.value.+value.Given as goal

abbrev pub decreases-write_node : goal.decreases-write_node
decreases-write_node g l = 2 * height l.x.now

-- a list's items are lower than the list
abbrev pub decreases-write_list : goal.decreases-write_list
decreases-write_list g l = 2 * height l.content.now + 1

abbrev pub decreases-write_row : goal.decreases-write_row
decreases-write_row g l = 2 * heights (layouts_from l.contents.now) + 1

-- some items are put, and those from place j on are left
abbrev pub invariant-write_list-loop-j : goal.invariant-write_list-loop-j
invariant-write_list-loop-j g l = record {
  places : PlacesLeft (codes ",") (g.K.Sink.written l.fn.sink)
      (g.K.Sink.written l.sink) l.out l.fn.out.held (span_text l.content l.lo l.hi)
      (layout_text l.content) l.lo l.j l.hi (codes "]");
  flushes : g.K.Sink.flushes l.sink ≡ g.K.Sink.flushes l.fn.sink;
  later : g.K.Sink.faults l.fn.sink ≤ g.K.Sink.faults l.sink;
  cost : IsPaid (2 * height l.content) l.fn.steps l.steps
      (to_come (layout_text l.content) l.lo l.j l.hi ++ codes "]")
      (span_text l.content l.lo l.hi);
}

-- some members are put, and those from place k on are left
abbrev pub invariant-write_row-loop-k : goal.invariant-write_row-loop-k
invariant-write_row-loop-k g l = record {
  places : PlacesLeft (codes ",") (g.K.Sink.written l.fn.sink)
      (g.K.Sink.written l.sink) l.out l.fn.out.held
      (row_text (names_shown l.names) l.contents l.place)
      (member_text (names_shown l.names) l.contents l.place) 0 l.k (length l.contents)
      (codes "}");
  flushes : g.K.Sink.flushes l.sink ≡ g.K.Sink.flushes l.fn.sink;
  later : g.K.Sink.faults l.fn.sink ≤ g.K.Sink.faults l.sink;
  cost : IsPaid (2 * heights (layouts_from l.contents)) l.fn.steps l.steps
      (to_come (member_text (names_shown l.names) l.contents l.place) 0 l.k (length l.contents)
      ++ codes "}")
      (row_text (names_shown l.names) l.contents l.place);
}
