use Rattle.std.proofs.Common.{◌∙◌, ap, sym, arith}
use Rattle.awk_types.specs.Simple.{is_option}
use Rattle.awk_layout.specs.Typing.{array_type}
use Rattle.awk_pair_sides.proofs.LevelTypes.{some_option_first}
use Rattle.awk_pair_sides.proofs.TestLaws.{any_next, any_found, any_end}
use Rattle.awk_pair_sides.proofs.levels.some_option.Goals as goal

pub loop-i-init : goal.loop-i-init
loop-i-init c = some_option_first c.args.xs.now

pub returns-then-is_optional : goal.returns-then-is_optional
returns-then-is_optional c =
    any_found (λ x. is_option (array_type x)) c.args.xs.now c.loop-i.i c.get.result.now _
    c.get.ensures
    (ap is_option (sym c.typ.ensures.typ) ∙ sym c.is_optional.ensures ∙ c.if-is_optional.true)
    c.loop-i.invariant

pub loop-i-preserved : goal.loop-i-preserved
loop-i-preserved c =
    any_next (λ x. is_option (array_type x)) c.args.xs.now c.loop-i.i c.get.result.now _
    c.get.ensures
    (ap is_option (sym c.typ.ensures.typ) ∙ sym c.is_optional.ensures ∙ c.if-is_optional.false)
    c.loop-i.invariant

pub returns : goal.returns
returns c =
    any_end (λ x. is_option (array_type x)) c.args.xs.now c.loop-i.i _
    (omega (arith, c.loop-i-test.false, c.len-i-end.ensures)) c.loop-i.invariant
