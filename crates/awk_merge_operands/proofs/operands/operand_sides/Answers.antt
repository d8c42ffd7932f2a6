use Rattle.std.proofs.Common.{◌∙◌, ap, arith}
use Rattle.awk_types.specs.View.{typ_of}
use Rattle.awk_unify.specs.View.{lift_of, lifts_of}
use Rattle.awk_merge_sides.specs.Sides.{sides_of, with_side}
use Rattle.awk_merge_operands.proofs.OperandLaws.{length-lifts}
use Rattle.awk_merge_operands.proofs.StackLaws.{one_taken, all_taken}
use Rattle.awk_merge_operands.proofs.operands.operand_sides.Goals as goal

pub get-requires-in-loop-i : goal.get-requires-in-loop-i
get-requires-in-loop-i c =
    omega (
      arith,
      c.loop-i-test.true,
      c.len-i-end.ensures,
      length-lifts c.args.xs.now (lifts_of c.args.whole.now.lifts) (typ_of c.args.whole.now.typ)
          c.requires,
    )

pub loop-i-preserved : goal.loop-i-preserved
loop-i-preserved c = (
  one_taken c.args.xs.now (lifts_of c.args.whole.now.lifts) (typ_of c.args.whole.now.typ)
      c.loop-i.i (sides_of c.loop-i.sides) (sides_of c.push.new.self) c.get.result.now
      (lift_of c.get-in-loop-i.result.now) c.get.ensures.item c.get-in-loop-i.ensures.item
      (c.in_ok-push.ensures.sides
      ∙ ap (λ x. with_side (sides_of c.loop-i.sides) x (lift_of c.get-in-loop-i.result.now))
      (c.in_ok-column.ensures ∙ c.kept.ensures)) c.loop-i.invariant.0,
  c.in_ok-push.ensures.counted,
)

pub returns-clause-items : goal.returns-clause-items
returns-clause-items c =
    all_taken c.args.xs.now (lifts_of c.args.whole.now.lifts) (typ_of c.args.whole.now.typ)
    c.loop-i.i (sides_of c.loop-i.sides) c.requires
    (omega (arith, c.loop-i-test.false, c.len-i-end.ensures)) c.loop-i.invariant.0

pub returns-clause-sides : goal.returns-clause-sides
returns-clause-sides c = c.loop-i.invariant.0.sides
