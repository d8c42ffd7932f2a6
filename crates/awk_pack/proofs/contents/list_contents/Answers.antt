use Rattle.std.proofs.Common.{◌≡◌, Err, arith, sym, ◌∙◌}
use Rattle.awk_types.specs.View.{typ_of}
use Rattle.awk_pack.proofs.ContentLaws.{left_var, left_regular}
use Rattle.awk_pack.proofs.LargeLaws.{large_lists}
use Rattle.awk_pack.proofs.SizeLaws.{size_on}
use Rattle.awk_pack.proofs.contents.list_contents.Goals as goal

pub joined-requires-clause-small : goal.joined-requires-clause-small
joined-requires-clause-small g c = rw c.starts.ensures c.content.ensures.lists.fits

pub joined-requires-clause-spans : goal.joined-requires-clause-spans
joined-requires-clause-spans g c =
    rw (c.starts.ensures, c.stops.ensures, c.content.ensures.content) c.content.ensures.lists.spans

pub returns-in_err-lists-clause-size : goal.returns-in_err-lists-clause-size
returns-in_err-lists-clause-size g c vs h =
    let e = c.in_err-lists.field-0.0 in
    let failed : c.from_residual-in_err-lists.result ≡ Err e = grind arith in
    let size = rw (c.starts.ensures, c.stops.ensures, c.content.ensures.content) at
    c.in_err-lists.ensures.size in
    size_on c.from_residual-in_err-lists.result e _ _ failed size
    (λ large. large_lists (typ_of c.args.typ.now) vs c.args.opened.now large h)

pub returns-then-is_sized-clause-left : goal.returns-then-is_sized-clause-left
returns-then-is_sized-clause-left g c vs h =
    let joined = rw (c.starts.ensures, c.stops.ensures, c.content.ensures.content) at
    c.in_ok-lists.ensures.joined in
    left_regular (typ_of c.args.typ.now) vs c.args.lanes.now c.args.opened.now
    c.in_ok-lists.lists.offsets c.in_ok-lists.lists.content c.in_ok-only.field-0
    (sym c.is_sized.ensures ∙ c.if-is_sized.true) joined c.in_ok-only.ensures h

pub returns-clause-left : goal.returns-clause-left
returns-clause-left g c vs h =
    let joined = rw (c.starts.ensures, c.stops.ensures, c.content.ensures.content) at
    c.in_ok-lists.ensures.joined in
    left_var (typ_of c.args.typ.now) vs c.args.lanes.now c.push.new.self c.args.opened.now
    c.in_ok-lists.lists.offsets c.in_ok-lists.lists.content c.in_ok-only-2.field-0
    (sym c.is_sized.ensures ∙ c.if-is_sized.false) joined c.in_ok-push.ensures.ok
    c.in_ok-only-2.ensures h
