use Rattle.std.proofs.Common.{◌≡◌, ◌++◌, ◌∷◌, [], ap, ◌∙◌, sym, subst}
use Rattle.awk_pair_present.specs.Present.{ArePresent}
use Rattle.awk_pair_present.proofs.OneOption.{one_present}
use Rattle.awk_pair_present.proofs.present.present_items.Goals as goal

pub returns : goal.returns
returns g c =
    let o = c.in_ok-index.field-0 in
    let e : c.push.new.self ≡ o.content ∷ [] =
    c.in_ok-push.ensures.ok ∙ ap (λ ys. ys ++ o.content ∷ []) c.new-arrays.ensures in
    subst (ArePresent c.args.n (c.args.x.now ∷ []) o.index c.len-count.result) (sym e)
    (one_present c.args.n c.args.x.now o.content o.index c.len-count.result
    c.requires.long c.in_ok-index.ensures.opened c.in_ok-index.ensures.inner
    c.in_ok-index.ensures.order c.len-count.ensures.len)
