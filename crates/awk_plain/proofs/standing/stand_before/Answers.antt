use Rattle.std.proofs.Common.{◌≡◌, ◌∙◌, ◌+◌, ap, arith, drop, refl, subst, sym}
use Rattle.serde_json.specs.Data.{item}
use Rattle.serde_json.specs.View.{items_view, view}
use Rattle.awk_types.specs.View.{typ_of}
use Rattle.awk_plain.proofs.StandingLaws.{suited_next}
use Rattle.awk_plain.proofs.TypeSteps.{item_next}
use Rattle.awk_plain.specs.IsPlain.{ArePlain}
use Rattle.awk_plain.specs.Suits.{all_suit}
use Rattle.awk_plain.proofs.standing.stand_before.Goals as goal

pub loop-i-preserved : goal.loop-i-preserved
loop-i-preserved c =
    let vs = c.args.items.now in
    let t = typ_of c.args.typ.now in
    let i = c.loop-i.i in
    let v = c.index-items-i.result in
    let left = items_view (drop (i + 1) vs) in
    let next : items_view (drop i vs) ≡ item (view v) left =
    item_next vs i v (omega (arith, c.loop-i-test.true, c.requires.from)) c.index-items-i.is in (
      c.loop-i.invariant.0 ∙ ap (all_suit t) next
          ∙ suited_next t (view v) left (sym c.if-not-suits.ensures.value),
      λ p. c.loop-i.invariant.1
          (subst ArePlain (sym next) (c.if-not-suits.ensures.plain refl, p)),
    )
