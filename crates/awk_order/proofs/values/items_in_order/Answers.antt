use Rattle.std.proofs.Common.{◌≡◌, ◌∙◌, sym, ap, subst}
use Rattle.std.proofs.lemmas.Result.{IfOk-weaker}
use Rattle.awk_types.specs.Predicates.{is_unknown}
use Rattle.awk_types.specs.Simple.{present}
use Rattle.awk_layout.specs.Layout.{Layout}
use Rattle.awk_layout.specs.Typing.{array_type}
use Rattle.awk_order.specs.Lists.{AreMade}
use Rattle.awk_order.specs.Order.{items_in_order}
use Rattle.awk_order.proofs.NodeLaws.{unknown_made}
use Rattle.awk_order.proofs.values.items_in_order.Goals as goal

pub returns-then-are_unknown : goal.returns-then-are_unknown
returns-then-are_unknown g c =
    let x = c.args.x.now in
    let z : Layout = x.items.now in
    let unknown_type = ap (λ t. is_unknown (present t)) (sym c.typ.ensures.typ)
    ∙ sym c.are_unknown.ensures ∙ c.if-are_unknown.true in
    IfOk-weaker c.copy.result (λ y. y ≡ c.node.result.now)
    (AreMade (array_type z) (items_in_order c.args.up) z x.offsets.now x.count)
    (λ y e. subst (AreMade (array_type z) (items_in_order c.args.up) z x.offsets.now x.count)
    (sym (e ∙ c.node.ensures))
    (unknown_made z x.offsets.now x.count c.requires.items c.len.ensures.items c.args.up
    c.len.ensures.valid unknown_type))
    c.copy.ensures
