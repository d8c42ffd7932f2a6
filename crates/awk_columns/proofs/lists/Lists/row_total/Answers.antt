use Rattle.std.proofs.Common.{◌≡◌, ◌-◌, ap, arith, subst}
use Rattle.awk_lanes.specs.Counted.{before}
use Rattle.awk_lanes.specs.Places.{size_of}
use Rattle.awk_layout.specs.Valid.{len}
use Rattle.awk_columns.specs.Lists.{Listed, span_length}
use Rattle.awk_columns.proofs.RowLaws.{row_total}
use Rattle.awk_columns.proofs.lists.Lists.row_total.Goals as goal

pub overflow_sub-result : goal.overflow_sub-result
overflow_sub-result g c =
    let x = c.self.inside in
    let t = row_total x.starts x.stops (len x.content) c.self.invariant.0.spans
    (c.self.invariant.1 c.if-not-self.false) c.len-n.result c.len-n.ensures.len
    (omega (arith, c.if-n-eq0.false)) in
    omega (arith, t, c.end_in-first.ensures, c.end_in-last.ensures)

pub returns : goal.returns
returns g c =
    let x = c.self.inside in
    let m = span_length x.starts x.stops in
    let t = row_total x.starts x.stops (len x.content) c.self.invariant.0.spans
    (c.self.invariant.1 c.if-not-self.false) c.len-n.result c.len-n.ensures.len
    (omega (arith, c.if-n-eq0.false)) in
    let e : before m c.len-n.result ≡ before m (size_of x.starts) =
    ap (before m) c.len-n.ensures.len in
    let result : c.end_in-last.result - c.end_in-first.result ≡ before m (size_of x.starts) =
    omega (arith, t, e, c.end_in-first.ensures, c.end_in-last.ensures) in
    subst (λ (l : Listed). c.end_in-last.result - c.end_in-first.result
    ≡ before (span_length l.starts l.stops) (size_of l.starts)) c.self.view_is result
