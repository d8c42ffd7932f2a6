use Rattle.std.proofs.Common.{◌≡◌, ◌+◌, ◌∷◌, Err, map, drop, arith, ap, sym, ◌∙◌}
use Rattle.std.proofs.lemmas.List.{drop_more, length-map}
use Rattle.serde_json.specs.View.{view}
use Rattle.awk_types.proofs.RefusalLaws.{Gives-Err}
use Rattle.awk_expr.specs.ArgsView.{args_view}
use Rattle.awk_expr.specs.Told.{unread_told, or_query}
use Rattle.awk_expr.proofs.ArgLaws.{args-uneven, args-more, args-told}
use Rattle.awk_expr.proofs.arguments.read_args.Goals as goal

pub returns-then-kinds-values : goal.returns-then-kinds-values
returns-then-kinds-values c =
    ap or_query
    (args-uneven c.args.kinds.now (map view c.args.values.now)
    (λ e. c.if-kinds-values.true (e ∙ length-map c.args.values.now view)))

pub returns-in_err-read_part : goal.returns-in_err-read_part
returns-in_err-read_part c =
    let e = c.in_err-read_part.field-0.0 in
    let i = c.loop-i.i in
    let failed : c.from_residual.result ≡ Err e = grind arith in
    Gives-Err _ _ _ e _ failed
    (args-told
    (args_view c.loop-i.args) c.args.kinds.now c.args.values.now i _ c.index-values-i.result
    (drop_more c.args.kinds.now i _ (omega arith))
    (drop_more c.args.values.now i c.index-values-i.result (omega arith)
    ∙ ap (λ v. v ∷ drop (i + 1) c.args.values.now) (sym c.index-values-i.is)) c.loop-i.invariant
    (unread_told e) c.in_err-read_part.ensures)

pub loop-i-preserved : goal.loop-i-preserved
loop-i-preserved c =
    let i = c.loop-i.i in
    args-more
    (args_view c.loop-i.args) c.args.kinds.now c.args.values.now i _ c.index-values-i.result
    (drop_more c.args.kinds.now i _ (omega arith))
    (drop_more c.args.values.now i c.index-values-i.result (omega arith)
    ∙ ap (λ v. v ∷ drop (i + 1) c.args.values.now) (sym c.index-values-i.is)) c.loop-i.invariant
    (args_view c.read_part.new.args) c.in_ok-read_part.ensures
