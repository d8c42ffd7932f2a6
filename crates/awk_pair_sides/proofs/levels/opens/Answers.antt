use Rattle.std.proofs.Common.{◌∙◌, ap, sym, arith}
use Rattle.awk_types.specs.Predicates.{is_list}
use Rattle.awk_types.specs.Simple.{present}
use Rattle.awk_layout.specs.Typing.{array_type}
use Rattle.awk_pair_sides.proofs.LevelTypes.{opens_first}
use Rattle.awk_pair_sides.proofs.TestLaws.{any_next, any_found, any_end}
use Rattle.awk_pair_sides.proofs.levels.opens.Goals as goal

pub loop-i-init : goal.loop-i-init
loop-i-init c = opens_first c.args.xs.now

pub returns-then-is_list : goal.returns-then-is_list
returns-then-is_list c =
    any_found (λ x. is_list (present (array_type x))) c.args.xs.now c.loop-i.i c.get.result.now _
    c.get.ensures
    (ap (λ t. is_list (present t)) (sym c.typ.ensures.typ)
    ∙ ap is_list (sym c.present_type.ensures) ∙ sym c.is_list.ensures ∙ c.if-is_list.true)
    c.loop-i.invariant

pub loop-i-preserved : goal.loop-i-preserved
loop-i-preserved c =
    any_next (λ x. is_list (present (array_type x))) c.args.xs.now c.loop-i.i c.get.result.now _
    c.get.ensures
    (ap (λ t. is_list (present t)) (sym c.typ.ensures.typ)
    ∙ ap is_list (sym c.present_type.ensures) ∙ sym c.is_list.ensures ∙ c.if-is_list.false)
    c.loop-i.invariant

pub returns : goal.returns
returns c =
    any_end (λ x. is_list (present (array_type x))) c.args.xs.now c.loop-i.i _
    (omega (arith, c.loop-i-test.false, c.len-i-end.ensures)) c.loop-i.invariant
