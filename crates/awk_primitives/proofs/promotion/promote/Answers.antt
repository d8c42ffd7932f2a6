use Rattle.std.proofs.Common.{rules, ◌≡◌, sym, subst}
use Rattle.std.specs.Prelude.{Option, IfSome}
use Rattle.awk_types.specs.declared.primitive.Primitive.{Primitive}
use Rattle.awk_primitives.specs.Promotion.{HoldsAll, promotion}
use Rattle.awk_primitives.proofs.PromotionLaws.{promotion_holds}
use Rattle.awk_primitives.proofs.promotion.promote.Goals as goal

pub returns-then-is_whole-2-clause-holds_both : goal.returns-then-is_whole-2-clause-holds_both
returns-then-is_whole-2-clause-holds_both c =
    let value : c.promote_whole.result ≡ promotion c.args.a c.args.b = search rules in
    let P : Option Primitive → Type 0 = λ o. IfSome o
    (λ r. HoldsAll c.args.a r × HoldsAll c.args.b r) in
    subst P (sym value) (promotion_holds c.args.a c.args.b)
