use Rattle.std.proofs.Common.{◌≡◌, ◌+◌, ◌<◌, ◌++◌, ◌∷◌, [], true, false, Err, map, drop, length}
use Rattle.std.proofs.Common.{arith, ap, sym, ◌∙◌, refl, append-nil}
use Rattle.std.proofs.lemmas.List.{drop_more, length-map, map-append}
use Rattle.serde_json.specs.View.{view}
use Rattle.awk_types.proofs.RefusalLaws.{Gives-Err}
use Rattle.awk_types.specs.Names.{are_distinct}
use Rattle.awk_expr.specs.Arguments.{items_in, pair_in}
use Rattle.awk_expr.specs.declared.fixed.FixedArg.TheVariants.{Texts}
use Rattle.awk_expr.specs.ArgsView.{args_view}
use Rattle.awk_expr.specs.Told.{unread_told}
use Rattle.awk_expr.proofs.Traversed.{all-told, all-done}
use Rattle.awk_expr.proofs.Pairs.{none-read, pair-read, named-told, named-said, named-made}
use Rattle.awk_expr.proofs.arguments.read_named_exprs.Goals as goal

pub loop-pair-init : goal.loop-pair-init
loop-pair-init c =
    record {
      read =
          rw c.new-names.ensures (none-read _ c.in_ok-pairs.pairs.now (sym (append-nil _)));
      fixed =
          refl;
    }

pub returns-in_err-name : goal.returns-in_err-name
returns-in_err-name c =
    let e = c.in_err-name.field-0.0 in
    let vs = c.in_ok-pairs.pairs.now in
    let i = c.loop-pair.pair-index in
    let v = c.pair-item.result in
    let r = c.loop-pair.invariant.read in
    let failed : c.from_residual-in_err-name.result ≡ Err e = grind arith in
    Gives-Err _ _ _ e _ failed
    (named-told (args_view c.args.args.now) (items_in (view c.args.value.now))
    (map view vs) c.in_ok-pairs.ensures (unread_told e)
    (all-told pair_in r.made vs i v
    (drop_more vs i v (omega arith) ∙ ap (λ x. x ∷ drop (i + 1) vs) (sym c.pair-item.is)) r.rest
    (unread_told e) c.in_err-name.ensures))

pub loop-pair-preserved : goal.loop-pair-preserved
loop-pair-preserved c =
    let vs = c.in_ok-pairs.pairs.now in
    let i = c.loop-pair.pair-index in
    let v = c.pair-item.result in
    record {
      read = pair-read v
          (c.in_ok-name.name.now, view c.in_ok-name.value.now) c.loop-pair.invariant.read
          (drop_more vs i v (omega arith)
          ∙ ap (λ x. x ∷ drop (i + 1) vs) (sym c.pair-item.is)) c.in_ok-name.ensures
          (c.in_ok-push.ensures.ok ∙ ap (λ n. c.loop-pair.names ++ n ∷ []) c.in_ok-new.ensures)
          (ap (map (λ x. view x.now)) c.in_ok-push-2.ensures.items
          ∙ map-append (λ x. view x.now) c.loop-pair.args.exprs.items
          (c.in_ok-name.value ∷ []));
      fixed = c.loop-pair.invariant.fixed;
    }

pub returns-then-not-branch : goal.returns-then-not-branch
returns-then-not-branch c =
    let vs = c.in_ok-pairs.pairs.now in
    let r = c.loop-pair.invariant.read in
    let some : 0 < length vs = grind arith in
    named-said (args_view c.args.args.now) (items_in (view c.args.value.now))
    (map view vs) c.in_ok-pairs.ensures r.made (omega (arith, some, length-map vs view))
    (all-done pair_in r.made vs c.loop-pair.pair-index (omega arith) r.rest) false
    (ap are_distinct (sym r.names_of) ∙ sym c.in_ok-are_distinct.ensures
    ∙ (let repeated : c.in_ok-are_distinct.field-0 ≡ false = grind arith in repeated))

pub returns : goal.returns
returns c =
    let vs = c.in_ok-pairs.pairs.now in
    let r = c.loop-pair.invariant.read in
    let old = args_view c.args.args.now in
    let some : 0 < length vs = grind arith in
    named-said old (items_in (view c.args.value.now)) (map view vs) c.in_ok-pairs.ensures r.made
    (omega (arith, some, length-map vs view))
    (all-done pair_in r.made vs c.loop-pair.pair-index (omega arith) r.rest) true
    (ap are_distinct (sym r.names_of) ∙ sym c.in_ok-are_distinct.ensures ∙ c.if-not-branch.false)
    ∙ named-made old c.loop-pair.names _ c.push-2.new.self r.made r.names_of r.exprs_of
    (c.in_ok-push-3.ensures.ok
    ∙ ap (λ f. f ++ Texts c.loop-pair.names ∷ []) c.loop-pair.invariant.fixed)
