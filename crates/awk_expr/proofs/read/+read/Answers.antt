use Rattle.std.proofs.Common.{◌≡◌, Ok, Err, map, arith, sym, ap, ◌∙◌, subst}
use Rattle.awk_types.specs.Gives.{Gives}
use Rattle.serde_json.specs.View.{view}
use Rattle.awk_types.proofs.RefusalLaws.{Gives-Err}
use Rattle.awk_expr.specs.Reading.{list_head}
use Rattle.awk_expr.specs.View.{expr_of, exprs_of}
use Rattle.awk_expr.specs.Told.{unread_told}
use Rattle.awk_expr.specs.ArgsView.{args_view}
use Rattle.awk_expr.proofs.Levels.{levels, list-shallow}
use Rattle.awk_expr.proofs.Heads.{string-value, number-value, truth-value, null-value, object-value}
use Rattle.awk_expr.proofs.Heads.{array-expr, array-levels, item-levels, call-done, call-told}
use Rattle.awk_expr.proofs.Heads.{head-told, call-levels}
use Rattle.awk_expr.proofs.read.+read.Goals as goal

pub read_expr-call-requires : goal.read_expr-call-requires
read_expr-call-requires t c = (
  omega (
    arith,
    array-levels c.args.value.now c.in-Array.values c.deref-in-Array.result.now
        c.in-Array.is c.deref-in-Array.ensures.value,
  ),
  tt,
)

pub exprs-read_expr-requires : goal.exprs-read_expr-requires
exprs-read_expr-requires t c = (
  omega (
    arith,
    item-levels c.args.values.now c.loop-value.value-index c.value-item.result
        c.value-item.result (omega arith) c.value-item.is,
  ),
  tt,
)

pub call-exprs-requires : goal.call-exprs-requires
call-exprs-requires t c =
    let values = map view c.args.values.now in
    let within =
    call-levels (levels values) c.in_ok-op.op (args_view c.in_ok-op.read)
    (list_head values) c.in_ok-op.ensures (list-shallow (levels values) values (omega arith)) in
    (omega (arith, within, ap (λ vs. levels (map (λ v. view v.now) vs)) c.deref.ensures.value), tt)

pub call-returns-in_err-op : goal.call-returns-in_err-op
call-returns-in_err-op t c =
    let e = c.in_err-op.field-0.0 in
    let failed : c.from_residual.result ≡ Err e = grind arith in
    Gives-Err _ _ _ e _ failed
    (head-told (unread_told e) (list_head (map view c.args.values.now)) c.in_err-op.ensures)

pub call-returns-in_err-args : goal.call-returns-in_err-args
call-returns-in_err-args t c =
    let e = c.in_err-args.field-0.0 in
    let failed : c.from_residual-in_err-args.result ≡ Err e = grind arith in
    Gives-Err _ _ _ e _ failed
    (call-told (unread_told e) c.in_ok-op.op (args_view c.in_ok-op.read)
    (list_head (map view c.args.values.now)) c.in_ok-op.ensures
    (rw c.deref.ensures.value at c.in_err-args.ensures))

pub call-returns : goal.call-returns
call-returns t c =
    call-done c.in_ok-op.op (args_view c.in_ok-op.read) (list_head (map view c.args.values.now))
    (exprs_of c.in_ok-args.args) c.in_ok-op.ensures
    (rw c.deref.ensures.value at c.in_ok-args.ensures)
    ∙ ap Ok (sym c.made_call.ensures)

pub read_expr-returns-in-String : goal.read_expr-returns-in-String
read_expr-returns-in-String t c =
    subst (Gives expr_of unread_told c.variable.result)
    (string-value c.args.value.now c.in-String.name c.deref.result.now c.in-String.is
    c.deref.ensures) c.variable.ensures

pub read_expr-returns-in-Number : goal.read_expr-returns-in-Number
read_expr-returns-in-Number t c =
    subst (Gives expr_of unread_told c.whole.result)
    (number-value c.args.value.now c.in-Number.field-0 c.in-Number.is) c.whole.ensures

pub read_expr-returns-in-Bool : goal.read_expr-returns-in-Bool
read_expr-returns-in-Bool t c = truth-value c.args.value.now c.in-Bool.b c.in-Bool.is
    ∙ ap Ok (sym c.made_truth.ensures)

pub read_expr-returns-in-Null : goal.read_expr-returns-in-Null
read_expr-returns-in-Null t c = null-value c.args.value.now c.in-Null.is

pub read_expr-returns-in-Object : goal.read_expr-returns-in-Object
read_expr-returns-in-Object t c = object-value c.args.value.now c.in-Object.field-0 c.in-Object.is

pub read_expr-returns-in-Array : goal.read_expr-returns-in-Array
read_expr-returns-in-Array t c =
    subst (Gives expr_of unread_told c.call.result)
    (array-expr c.args.value.now c.in-Array.values c.deref-in-Array.result.now c.in-Array.is
    c.deref-in-Array.ensures.value) c.call.ensures
