use Rattle.std.proofs.Common.{arith, subst}
use Rattle.std.specs.Prelude.{IfSome}
use Rattle.awk_base.proofs.Results.{IfOk-both}
use Rattle.awk_layout.specs.Laws.{len-fits}
use Rattle.awk_layout.specs.Valid.{len}
use Rattle.awk_counts.specs.Counted.{IsRow}
use Rattle.awk_columns.proofs.JoinedLists.{spans_wider, row_reached}
use Rattle.awk_columns.proofs.joining.joined_items.Goals as goal

pub row_start-requires-clause-spans : goal.row_start-requires-clause-spans
row_start-requires-clause-spans g c =
    spans_wider c.args.starts.now c.args.stops.now (len c.args.content.now) 9223372036854775807
    (omega (arith, len-fits c.args.content.now c.len.ensures.valid)) c.requires.spans

pub returns-in-Some : goal.returns-in-Some
returns-in-Some g c =
    let s = c.args.starts.now in
    let t = c.args.stops.now in
    let row : IsRow s t c.len.result c.in-Some.first = subst
    (λ o. IfSome o (IsRow s t c.len.result)) c.in-Some.is c.row_start.ensures in
    let row' : IsRow s t (len c.args.content.now) c.in-Some.first = subst
    (λ n. IsRow s t n c.in-Some.first) c.len.ensures.len row in
    record {
      reached = IfOk-both c.range.result _ _ _
          (λ r i k. row_reached s t c.args.content.now r c.in-Some.first c.args.n c.requires.spans
          row' c.requires.total k i) c.range.ensures.items c.range.ensures.typ;
    }
