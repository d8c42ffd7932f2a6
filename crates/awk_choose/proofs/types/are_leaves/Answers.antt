use Rattle.std.proofs.Common.{◌∙◌, ap, sym, arith, map}
use Rattle.awk_types.specs.Predicates.{is_leaf}
use Rattle.awk_types.specs.Simple.{present}
use Rattle.awk_layout.specs.Typing.{array_type}
use Rattle.awk_pair_sides.proofs.TestLaws.{all-map, all_next, all_not, all_end}
use Rattle.awk_choose.proofs.types.are_leaves.Goals as goal

pub loop-i-init : goal.loop-i-init
loop-i-init c =
    all-map (λ t. is_leaf (present t)) array_type c.args.columns.now
    ∙ all-map is_leaf present (map array_type c.args.columns.now)

pub returns-then-not-is_leaf : goal.returns-then-not-is_leaf
returns-then-not-is_leaf c =
    all_not (λ x. is_leaf (present (array_type x))) c.args.columns.now c.loop-i.i c.get.result.now _
    c.get.ensures
    (ap (λ t. is_leaf (present t)) (sym c.typ.ensures.typ)
    ∙ ap is_leaf (sym c.present_type.ensures) ∙ sym c.is_leaf.ensures ∙ c.if-not-is_leaf.true)
    c.loop-i.invariant

pub loop-i-preserved : goal.loop-i-preserved
loop-i-preserved c =
    all_next (λ x. is_leaf (present (array_type x))) c.args.columns.now c.loop-i.i
    c.get.result.now _ c.get.ensures
    (ap (λ t. is_leaf (present t)) (sym c.typ.ensures.typ)
    ∙ ap is_leaf (sym c.present_type.ensures) ∙ sym c.is_leaf.ensures ∙ c.if-not-is_leaf.false)
    c.loop-i.invariant

pub returns : goal.returns
returns c =
    all_end (λ x. is_leaf (present (array_type x))) c.args.columns.now c.loop-i.i _
    (omega (arith, c.loop-i-test.false, c.len-i-end.ensures)) c.loop-i.invariant
