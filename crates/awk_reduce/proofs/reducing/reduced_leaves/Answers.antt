use Rattle.std.proofs.Common.{ap, sym, ◌∙◌, subst, arith}
use Rattle.awk_lanes.specs.Column.{Column}
use Rattle.awk_lanes.specs.Places.{size_of, IsIndexKind}
use Rattle.awk_layout.specs.Valid.{len}
use Rattle.awk_reduce.proofs.SpanLaws.{ends_same, ends_ordered}
use Rattle.awk_reduce.proofs.reducing.reduced_leaves.Goals as goal

pub spans_of-requires-clause-starts : goal.spans_of-requires-clause-starts
spans_of-requires-clause-starts g c =
    subst (λ (s : Column). IsIndexKind s.kind) (sym c.starts.ensures)
    c.content.ensures.lists.spans.start_kind

pub spans_of-requires-clause-stops : goal.spans_of-requires-clause-stops
spans_of-requires-clause-stops g c =
    subst (λ (s : Column). IsIndexKind s.kind) (sym c.stops.ensures)
    c.content.ensures.lists.spans.stop_kind

pub spans_of-requires-clause-same : goal.spans_of-requires-clause-same
spans_of-requires-clause-same g c =
    ap size_of c.stops.ensures ∙ sym c.content.ensures.lists.spans.same_size
    ∙ sym (ap size_of c.starts.ensures)

pub lengths-requires-clause-ordered : goal.lengths-requires-clause-ordered
lengths-requires-clause-ordered g c =
    let l = c.args.lists.now in
    let p = c.in_ok-spans.spans in
    ends_ordered l.starts l.stops p
    (ends_same c.starts.result.now c.stops.result.now l.starts l.stops p c.starts.ensures
    c.stops.ensures c.in_ok-spans.ensures)
    (len l.content) (len l.content) c.content.ensures.lists.spans (omega arith)

pub reduced_plain-requires-clause-ordered : goal.reduced_plain-requires-clause-ordered
reduced_plain-requires-clause-ordered g c =
    let l = c.args.lists.now in
    let p = c.in_ok-spans.spans in
    ends_ordered l.starts l.stops p
    (ends_same c.starts.result.now c.stops.result.now l.starts l.stops p c.starts.ensures
    c.stops.ensures c.in_ok-spans.ensures)
    (len l.content) (len l.content) c.content.ensures.lists.spans (omega arith)
