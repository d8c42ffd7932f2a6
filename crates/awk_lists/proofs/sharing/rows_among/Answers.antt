use Rattle.std.specs.Prelude.{Some, None}
use Rattle.std.proofs.Common.{arith}
use Rattle.awk_base.proofs.Results.{none_left}
use Rattle.awk_lists.specs.Shared.{IsSum}
use Rattle.awk_lists.proofs.OneRow.{holds_all}
use Rattle.awk_lists.proofs.SharedRows.{rows_spoilt, rows_few, are_spanned}
use Rattle.awk_lists.proofs.sharing.rows_among.Goals as goal

pub returns-in_default : goal.returns-in_default
returns-in_default g c =
    let l = c.args.lists.now in
    let r = c.in_ok-rows.rows in
    let none = none_left _ (λ k e. c.in_default.not-Some k e) in
    let many : IsSum r.starts r.stops None =
    rw (none, c.in_ok-starts.ensures, c.in_ok-stops.ensures) at c.sum_of.ensures in
    rows_spoilt l.starts l.stops l.content r.starts r.stops c.in_ok-rows.ensures many

pub returns : goal.returns
returns g c =
    let l = c.args.lists.now in
    let i = c.args.inner.now in
    let r = c.in_ok-rows.rows in
    let z = c.in_ok-items.items in
    let sum : IsSum r.starts r.stops (Some c.in-Some.reached) =
    rw (c.in-Some.is, c.in_ok-starts.ensures, c.in_ok-stops.ensures) at c.sum_of.ensures in
    let all = holds_all i.class i.starts i.stops i.content l.content z c.requires.opens
    c.in_ok-items.ensures c.len.ensures.valid in
    rw (c.in_ok-content.ensures, c.node.ensures) (
      rows_few l.starts l.stops l.content r.starts r.stops c.in_ok-rows.ensures
          (omega (arith, sum.0, sum.1)),
      (
        tt,
        are_spanned l.starts l.stops l.content r.starts r.stops c.in_ok-rows.ensures z all
            c.len.ensures.items c.content.ensures.lists.fits,
      ),
    )
