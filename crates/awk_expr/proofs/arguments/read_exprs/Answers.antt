use Rattle.std.proofs.Common.{◌+◌, ◌<◌, ◌++◌, Ok, length, map, drop, arith, ap, sym, ◌∙◌, refl}
use Rattle.std.proofs.lemmas.List.{length-map}
use Rattle.serde_json.specs.View.{view}
use Rattle.awk_expr.specs.Arguments.{Args, items_in}
use Rattle.awk_expr.specs.ArgsView.{args_view}
use Rattle.awk_expr.proofs.ArgLaws.{exprs-more, exprs-all, exprs-done}
use Rattle.awk_expr.proofs.arguments.read_exprs.Goals as goal

pub loop-value-init : goal.loop-value-init
loop-value-init c = record { exprs = refl; fixed = refl }

pub loop-value-preserved : goal.loop-value-preserved
loop-value-preserved c =
    let vs = c.in_ok-values.values.now in
    let i = c.loop-value.value-index in
    record {
      exprs =
          ap (λ xs. map (λ v. view v.now) xs ++ map view
          (drop (i + 1) vs)) c.in_ok-push.ensures.items
          ∙ exprs-more c.loop-value.args.exprs.items _ vs i c.value-item.result
          (omega arith) c.value-item.is
          ∙ c.loop-value.invariant.exprs;
      fixed = c.loop-value.invariant.fixed;
    }

pub returns : goal.returns
returns c =
    let vs = c.in_ok-values.values.now in
    let before = args_view c.args.args.now in
    let made = args_view c.loop-value.args in
    let some : 0 < length vs = grind arith in
    exprs-done (items_in (view c.args.value.now))
    (map view vs) before.exprs made.exprs before.fixed c.in_ok-values.ensures
    (omega (arith, some, length-map vs view))
    (exprs-all made.exprs before.exprs vs c.loop-value.value-index
    (omega arith) c.loop-value.invariant.exprs)
    ∙ ap (λ f. Ok (let t : Args = record { exprs = made.exprs; fixed = f } in t))
    (sym c.loop-value.invariant.fixed)
