use Rattle.std.proofs.Common.{◌≡◌, ◌+◌, ◌∷◌, Err, map, drop, arith, ap, sym, ◌∙◌}
use Rattle.std.proofs.lemmas.List.{drop_more}
use Rattle.serde_json.specs.Find.{as_str}
use Rattle.serde_json.specs.View.{view}
use Rattle.awk_types.proofs.RefusalLaws.{Gives-Err}
use Rattle.awk_expr.specs.Arguments.{items_in}
use Rattle.awk_expr.specs.Told.{unread_told}
use Rattle.awk_expr.proofs.Traversed.{all-told, all-done, texts-told, texts-done}
use Rattle.awk_expr.proofs.values.texts.Goals as goal

pub returns-in_err-text : goal.returns-in_err-text
returns-in_err-text c =
    let e = c.in_err-text.field-0.0 in
    let vs = c.in_ok-values.values.now in
    let i = c.loop-value.value-index in
    let v = c.value-item.result in
    let failed : c.from_residual-in_err-text.result ≡ Err e = grind arith in
    Gives-Err _ _ _ e _ failed
    (texts-told (items_in (view c.args.value.now)) (map view vs) c.in_ok-values.ensures
    (unread_told e)
    (all-told as_str c.loop-value.names vs i v
    (drop_more vs i v (omega arith)
    ∙ ap (λ x. x ∷ drop (i + 1) vs) (sym c.value-item.is)) c.loop-value.invariant
    (unread_told e) c.in_err-text.ensures))

pub returns : goal.returns
returns c =
    let vs = c.in_ok-values.values.now in
    texts-done (items_in (view c.args.value.now))
    (map view vs) c.in_ok-values.ensures c.loop-value.names
    (all-done as_str c.loop-value.names vs c.loop-value.value-index
    (omega arith) c.loop-value.invariant)
    (sym c.in_ok-are_distinct.ensures ∙ c.if-not-branch.false)
