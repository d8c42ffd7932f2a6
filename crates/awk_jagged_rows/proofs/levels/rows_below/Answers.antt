use Rattle.std.proofs.Common.{subst}
use Rattle.awk_base.proofs.Results.{if_ok}
use Rattle.awk_jagged_rows.specs.InOrder.{AreFirsts}
use Rattle.awk_jagged_rows.specs.RowLists.{AreRowsOf}
use Rattle.awk_jagged_rows.proofs.LevelLaws.{rows-made}
use Rattle.awk_jagged_rows.proofs.OrderLaws.{rows-ordered, first-within, second-within}
use Rattle.awk_jagged_rows.proofs.levels.rows_below.Goals as goal

pub rows_in_order-requires-clause-x_within : goal.rows_in_order-requires-clause-x_within
rows_in_order-requires-clause-x_within g c =
    let x : AreRowsOf c.args.xs.now.content c.in_ok-x.x =
    subst (λ y. AreRowsOf y c.in_ok-x.x) c.content-first.ensures.content c.in_ok-x.ensures in
    let w : AreRowsOf c.args.ws.now.content c.in_ok-w.w =
    subst (λ y. AreRowsOf y c.in_ok-w.w) c.content-second.ensures.content c.in_ok-w.ensures in
    let f : AreFirsts c.args.xs.now c.args.ws.now c.in_ok-x.x c.in_ok-w.w c.in-Some.firsts =
    rw c.in-Some.is at c.firsts_of.ensures in
    first-within c.args.xs.now c.args.ws.now c.in_ok-x.x c.in_ok-w.w c.requires.pairs
    c.requires.alike x w c.in-Some.firsts f c.args.offsets.now.total c.requires.total

pub rows_in_order-requires-clause-w_within : goal.rows_in_order-requires-clause-w_within
rows_in_order-requires-clause-w_within g c =
    let x : AreRowsOf c.args.xs.now.content c.in_ok-x.x =
    subst (λ y. AreRowsOf y c.in_ok-x.x) c.content-first.ensures.content c.in_ok-x.ensures in
    let w : AreRowsOf c.args.ws.now.content c.in_ok-w.w =
    subst (λ y. AreRowsOf y c.in_ok-w.w) c.content-second.ensures.content c.in_ok-w.ensures in
    let f : AreFirsts c.args.xs.now c.args.ws.now c.in_ok-x.x c.in_ok-w.w c.in-Some.firsts =
    rw c.in-Some.is at c.firsts_of.ensures in
    second-within c.args.xs.now c.args.ws.now c.in_ok-x.x c.in_ok-w.w c.requires.pairs
    c.requires.alike x w c.in-Some.firsts f c.args.offsets.now.total c.requires.total

pub returns-in-Some : goal.returns-in-Some
returns-in-Some g c =
    let x : AreRowsOf c.args.xs.now.content c.in_ok-x.x =
    subst (λ y. AreRowsOf y c.in_ok-x.x) c.content-first.ensures.content c.in_ok-x.ensures in
    let w : AreRowsOf c.args.ws.now.content c.in_ok-w.w =
    subst (λ y. AreRowsOf y c.in_ok-w.w) c.content-second.ensures.content c.in_ok-w.ensures in
    let f : AreFirsts c.args.xs.now c.args.ws.now c.in_ok-x.x c.in_ok-w.w c.in-Some.firsts =
    rw c.in-Some.is at c.firsts_of.ensures in
    if_ok _ _ c.rows_in_order.result
    (λ r h. rows-ordered c.args.xs.now c.args.ws.now c.in_ok-x.x c.in_ok-w.w c.requires.pairs
    c.requires.alike x w c.in-Some.firsts f c.content-first.ensures.lists.spans
    c.content-second.ensures.lists.spans c.args.offsets.now r c.requires.total c.requires.few
    c.requires.offsets h) c.rows_in_order.ensures

pub returns : goal.returns
returns g c =
    let x : AreRowsOf c.args.xs.now.content c.in_ok-x.x =
    subst (λ y. AreRowsOf y c.in_ok-x.x) c.content-first.ensures.content c.in_ok-x.ensures in
    let w : AreRowsOf c.args.ws.now.content c.in_ok-w.w =
    subst (λ y. AreRowsOf y c.in_ok-w.w) c.content-second.ensures.content c.in_ok-w.ensures in
    if_ok _ _ c.rows_by.result
    (λ r h. rows-made c.args.xs.now c.args.ws.now c.in_ok-x.x c.in_ok-w.w c.requires.pairs
    c.requires.alike c.content-first.ensures.lists.spans c.content-second.ensures.lists.spans x w
    c.args.offsets.now.lane r c.requires.few c.requires.offsets h) c.rows_by.ensures
