use Rattle.std.specs.Prelude.{◌≡◌, ◌+◌, length}
use Rattle.std.specs.List.{range_with_len}
use Rattle.awk_counts.specs.Counted.{first_of, span_at}
use Rattle.awk_columns.proofs.spans.is_row.Given as goal

abbrev pub invariant-loop-i : goal.invariant-loop-i
invariant-loop-i l =
    let places = first_of (span_at l.starts l.stops) l.i in
    record {
      end : l.end ≡ l.first + length places;
      row : places ≡ range_with_len l.first (length places);
    }
