use Rattle.std.proofs.Common.{◌∙◌, ap, arith, sym}
use Rattle.awk_unify.specs.View.{lift_of, lifts_of}
use Rattle.awk_merge_sides.specs.Sides.{sides_of, with_side}
use Rattle.awk_build.proofs.SideLaws.{all_columns, column_more}
use Rattle.awk_build.proofs.joining.columns.Goals as goal

pub get-requires-in-loop-i : goal.get-requires-in-loop-i
get-requires-in-loop-i c =
    omega (arith, c.loop-i-test.true, c.len-n.ensures, c.requires)

pub loop-i-preserved : goal.loop-i-preserved
loop-i-preserved c =
    let f = lift_of c.get-in-loop-i.result.now in (
      column_more (lifts_of c.args.lifts.now) c.args.xs.now c.len-n.result c.loop-i.i
          (sides_of c.loop-i.sides) (sides_of c.push.new.self) c.get.result.now f
          (c.requires ∙ sym c.len-n.ensures) (omega (arith, c.loop-i-test.true)) c.get.ensures
          c.get-in-loop-i.ensures.item
          (c.in_ok-push.ensures.sides
          ∙ ap (λ x. with_side (sides_of c.loop-i.sides) x f) c.in_ok-column.ensures)
          c.loop-i.invariant.0,
      c.in_ok-push.ensures.counted,
    )

pub returns-clause-sides : goal.returns-clause-sides
returns-clause-sides c =
    all_columns (lifts_of c.args.lifts.now) c.args.xs.now c.loop-i.i (sides_of c.loop-i.sides)
    (omega (arith, c.loop-i-test.false, c.len-n.ensures)) c.loop-i.invariant.0
