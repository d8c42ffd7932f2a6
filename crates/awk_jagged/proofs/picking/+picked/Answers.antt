use Rattle.std.specs.Prelude.{◌+◌}
use Rattle.std.proofs.Common.{arith, sym, subst}
use Rattle.awk_base.proofs.Results.{if_ok}
use Rattle.awk_layout.specs.Typing.{array_type}
use Rattle.awk_jagged_rows.specs.Levels.{AreRows, AreUnlike}
use Rattle.awk_jagged.specs.Outcomes.{IsTold}
use Rattle.awk_jagged.specs.declared.picking.Told.TheVariants as told
use Rattle.awk_jagged.proofs.OverLaws.{can-hold, outcome-over}
use Rattle.awk_jagged.proofs.PickLaws.{unlike-rows}
use Rattle.awk_jagged.proofs.PickedTypes.{rows-picked, rows-index}
use Rattle.awk_jagged.proofs.ToldLaws.{AreToldTo, told-outside, told-nothing, told-many, one-told}
use Rattle.awk_jagged.proofs.picking.+picked.Goals as goal
use Rattle.awk_jagged.proofs.picking.+picked.Goals.{picked_apart-in-Outside}
use Rattle.awk_jagged.proofs.picking.+picked.Goals.{picked_apart-in-Nothing}

pub picked_apart-loop-i-preserved : goal.picked_apart-loop-i-preserved
picked_apart-loop-i-preserved g t c =
    elim c.match-branch-2.branch [
      | picked_apart-in-Outside w ↦
          let h : IsTold c.args.xs.now c.args.ws.now c.loop-i.i told.Outside =
          rw w.in-Outside.is at c.in_ok-told_of.ensures in
          subst (AreToldTo c.args.xs.now c.args.ws.now (c.loop-i.i + 1)) (sym w.outside-is)
          (told-outside c.args.xs.now c.args.ws.now c.loop-i.i c.loop-i.outside
          c.loop-i.invariant h)
      | picked_apart-in-Nothing w ↦
          let h : IsTold c.args.xs.now c.args.ws.now c.loop-i.i told.Nothing =
          rw w.in-Nothing.is at c.in_ok-told_of.ensures in
          subst (AreToldTo c.args.xs.now c.args.ws.now (c.loop-i.i + 1)) (sym w.outside-is)
          (told-nothing c.args.xs.now c.args.ws.now c.loop-i.i c.loop-i.outside
          c.loop-i.invariant h)
    ]

pub picked_apart-returns : goal.picked_apart-returns
picked_apart-returns g t c =
    told-many c.args.xs.now c.args.ws.now c.loop-i.i
    (omega (arith, c.loop-i-test.false, c.loop-i.auto.i-end, c.len-i-end.ensures.len))
    c.requires.rows c.requires.many.0 c.requires.many.1
    (subst (AreToldTo c.args.xs.now c.args.ws.now c.loop-i.i) c.if-outside.false
    c.loop-i.invariant)

pub picked_level-put_over-requires : goal.picked_level-put_over-requires
picked_level-put_over-requires g t c =
    let h : AreRows c.args.xs.now c.args.ws.now c.in-Rows.rows =
    rw c.in-Rows.is at c.requires.level in
    can-hold c.args.xs.now c.args.ws.now c.in-Rows.rows h c.requires.rows
    c.in_ok-below-in-Rows.below c.in_ok-below-in-Rows.ensures

pub picked_level-returns-in-Uneven : goal.picked_level-returns-in-Uneven
picked_level-returns-in-Uneven g t c =
    let h : AreUnlike c.args.xs.now c.args.ws.now = rw c.in-Uneven.is at c.requires.level in
    unlike-rows c.args.xs.now c.args.ws.now c.requires.rows h

pub picked_level-returns-in_ok-below-in-Rows : goal.picked_level-returns-in_ok-below-in-Rows
picked_level-returns-in_ok-below-in-Rows g t c =
    let h : AreRows c.args.xs.now c.args.ws.now c.in-Rows.rows =
    rw c.in-Rows.is at c.requires.level in
    if_ok _ _ c.put_over.result
    (λ r q. outcome-over c.args.xs.now c.args.ws.now c.in-Rows.rows h c.requires.rows
    c.in_ok-below-in-Rows.below r c.in_ok-below-in-Rows.ensures q) c.put_over.ensures

pub told_of-rows_of_one-requires-clause-rows : goal.told_of-rows_of_one-requires-clause-rows
told_of-rows_of_one-requires-clause-rows g t c =
    rows-picked (array_type c.args.ws.now.content) (array_type c.args.xs.now.content)
    c.requires.rows c.requires.types

pub told_of-rows_of_one-requires-clause-index : goal.told_of-rows_of_one-requires-clause-index
told_of-rows_of_one-requires-clause-index g t c =
    rows-index (array_type c.args.ws.now.content) c.requires.rows

pub told_of-returns : goal.told_of-returns
told_of-returns g t c =
    one-told c.args.xs.now c.args.ws.now c.args.i c.in_ok-rows.rows c.in_ok-rows.ensures
    c.requires.rows c.in_ok-outcome.outcome c.told_by.result c.in_ok-outcome.ensures
    c.told_by.ensures
