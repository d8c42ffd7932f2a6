use Rattle.std.proofs.Common.{arith}
use Rattle.awk_layout.specs.Laws.{len-fits}
use Rattle.awk_layout.specs.Valid.{len}
use Rattle.awk_columns.proofs.JoinedLists.{spans_wider}
use Rattle.awk_columns.proofs.joining.all_items.Goals as goal

pub index_of-requires : goal.index_of-requires
index_of-requires g c = c.requires.spans.start_kind

pub index_of-requires-2 : goal.index_of-requires-2
index_of-requires-2 g c = c.requires.spans.stop_kind

pub total-requires : goal.total-requires
total-requires g c = record {
  spans = rw (c.in_ok-starts.ensures, c.in_ok-stops.ensures)
      (spans_wider c.args.starts.now c.args.stops.now (len c.args.content.now) 9223372036854775807
      (omega (arith, len-fits c.args.content.now c.len.ensures.valid)) c.requires.spans);
}

pub joined_items-requires-clause-spans : goal.joined_items-requires-clause-spans
joined_items-requires-clause-spans g c =
    rw (c.in_ok-starts.ensures, c.in_ok-stops.ensures) c.requires.spans

pub returns-in-Some : goal.returns-in-Some
returns-in-Some g c = record {
  reached = rw (c.in_ok-starts.ensures, c.in_ok-stops.ensures) at c.joined_items.ensures.reached;
}
