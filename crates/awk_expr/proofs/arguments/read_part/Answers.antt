use Rattle.std.proofs.Common.{option_map, ap, ◌∙◌}
use Rattle.serde_json.specs.View.{view}
use Rattle.awk_expr.specs.Arguments.{both, fixed_of}
use Rattle.awk_expr.specs.ArgsView.{args_view}
use Rattle.awk_expr.specs.Told.{or_query}
use Rattle.awk_expr.proofs.ArgLaws.{part-fixed, fixed-done}
use Rattle.awk_expr.proofs.arguments.read_part.Goals as goal

pub returns-in_ok-push-in_default : goal.returns-in_ok-push-in_default
returns-in_ok-push-in_default c =
    let old = args_view c.args.args.now in
    let o = c.in_default in
    ap (λ p. or_query (option_map (both old) p))
    (part-fixed c.args.kind (view c.args.value.now) o.not-Expr o.not-Exprs o.not-NamedExprs)
    ∙ fixed-done old.exprs old.fixed c.push-in_default.new.self
    (fixed_of c.args.kind
    (view c.args.value.now)) c.in_ok-arg-in_default.arg c.in_ok-arg-in_default.ensures
    c.in_ok-push-in_default.ensures.ok
