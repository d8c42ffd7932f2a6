use Rattle.std.proofs.Common.{◌≡◌, ◌+◌, ◌++◌, ◌∷◌, [], true, false, drop, sym, ap, ◌∙◌, subst}
use Rattle.std.proofs.lemmas.Bool.{not-false}
use Rattle.awk_types.specs.Names.{same_name}
use Rattle.awk_view.specs.Choice.{apart_from}
use Rattle.awk_view.proofs.Beside.{apart_left, apart_kept, not_true}
use Rattle.awk_view.proofs.choice.names_apart.Goals.{then-ne+in_ok-copy+in_ok-push, else-ne}
use Rattle.awk_view.proofs.choice.names_apart.Goals as goal

pub loop-i-preserved : goal.loop-i-preserved
loop-i-preserved c =
    let names = c.args.names.now in
    let name = c.args.name.now in
    elim c.if-ne.branch [
      | then-ne+in_ok-copy+in_ok-push w ↦
          let other : same_name c.get-item.result.now name ≡ false = ap (λ n. same_name n name)
          (sym c.as_str.ensures) ∙ not_true _ (sym c.ne.ensures ∙ w.if-ne.true) in
          let made = w.made-is ∙ w.in_ok-push.ensures.ok in
          subst (λ ys. ys ++ apart_from name (drop (c.loop-i.i + 1) names)
          (drop (c.loop-i.i + 1) names) ≡ apart_from name names names) (sym made)
          (subst (λ k. (c.loop-i.made ++ k ∷ []) ++ apart_from name (drop (c.loop-i.i + 1) names)
          (drop (c.loop-i.i + 1) names) ≡ apart_from name names names)
          (sym w.in_ok-copy.ensures)
          (apart_kept name names names c.loop-i.made c.loop-i.i c.get-item.result.now
          c.get-item.result.now c.get-item.ensures c.get-item.ensures other c.loop-i.invariant))
      | else-ne w ↦
          let same : same_name c.get-item.result.now name ≡ true = ap (λ n. same_name n name)
          (sym c.as_str.ensures) ∙ not-false _ (sym c.ne.ensures ∙ w.if-ne.false) in
          subst (λ ys. ys ++ apart_from name (drop (c.loop-i.i + 1) names)
          (drop (c.loop-i.i + 1) names) ≡ apart_from name names names) (sym w.made-is)
          (apart_left name names names c.loop-i.made c.loop-i.i c.get-item.result.now
          c.get-item.result.now c.get-item.ensures c.get-item.ensures same c.loop-i.invariant)
    ]
