use Rattle.std.proofs.Common.{◌≡◌, ◌++◌, ◌∷◌, [], decimal, sym, ap₂, ◌∙◌, arith}
use Rattle.std.proofs.lemmas.List.FromFn.{map-range_with_len_more}
use Rattle.awk_view.proofs.choice.decimals.Goals as goal

pub loop-i-preserved : goal.loop-i-preserved
loop-i-preserved c =
    let name : c.in_ok-new.field-0 ≡ decimal c.loop-i.i-counter = c.in_ok-new.ensures ∙
    c.deref.ensures ∙ c.in_ok-text.ensures.ok in
    c.in_ok-push.ensures.ok
    ∙ ap₂ (λ ns n. ns ++ n ∷ []) c.loop-i.invariant name
    ∙ sym (map-range_with_len_more decimal 0 c.loop-i.i-counter c.loop-i.i-counter (omega arith))
