use Rattle.std.proofs.Common.{◌∙◌, ◌+◌, ◌++◌, ◌∷◌, [], ap, arith, drop, subst, sym}
use Rattle.serde_json.specs.Data.{item}
use Rattle.serde_json.specs.View.{items_view, view}
use Rattle.awk_plain.proofs.TypeSteps.{item_next}
use Rattle.awk_build.specs.Numbers.{AreNumbersOf}
use Rattle.awk_build.proofs.NumberLaws.{number_again, numbers_more}
use Rattle.awk_build.proofs.numbers.numbers_of.Goals as goal

pub loop-item-preserved : goal.loop-item-preserved
loop-item-preserved c =
    let vs = c.args.items.now in
    let ds = items_view vs in
    let v = c.item-item.result in
    let zs = c.loop-item.numbers.items in
    let rest = items_view (drop (c.loop-item.item-index + 1) vs) in
    let left : AreNumbersOf ds zs (item (view v) rest) =
    subst (AreNumbersOf ds zs)
    (item_next vs c.loop-item.item-index v (omega arith) c.item-item.is) c.loop-item.invariant in
    let z = c.in-Some.z in
    subst (λ ys. AreNumbersOf ds ys rest)
    (sym (c.in_ok-push-in-Some.ensures.items
    ∙ ap (λ y. zs ++ y ∷ []) (number_again (view v) z c.in-Some.ensures)))
    (numbers_more ds zs (view v) rest z left c.in-Some.ensures)
