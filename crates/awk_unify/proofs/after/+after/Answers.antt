use Rattle.std.proofs.Common.{arith, List, ap, sym, ◌∙◌}
use Rattle.std.proofs.lemmas.Result.{IfOk-weaker}
use Rattle.awk_unify.specs.Carry.{Carry}
use Rattle.awk_unify.specs.View.{lift_step, lifts_step, lift_of}
use Rattle.awk_unify.specs.declared.lift.Lift.TheVariants.{rolls-Items}
use Rattle.awk_unify.specs.declared.lift.Lift.TheOpen.{Lift-F}
use Rattle.awk_unify.specs.declared.lift.Lift.TheFolds.{fold-roll-Lift}
use Rattle.awk_unify.proofs.Afters.{loop_step, put_step, put_last}
use Rattle.awk_unify.proofs.Views.{parts_after, alternatives_after, first_after_other, other}
use Rattle.awk_unify.proofs.Views.{other_of, first_after_rows}
use Rattle.awk_unify.proofs.after.+after.Goals as goal

pub after-returns-in_ok-each_after-in-Parts-f : goal.after-returns-in_ok-each_after-in-Parts-f
after-returns-in_ok-each_after-in-Parts-f t c =
    parts_after _ _ _ _ _ _ _ _ c.in-Parts.is c.in-Parts-f.is c.in_ok-places_made-in-Parts-f.ensures
    c.in_ok-each_after-in-Parts-f.ensures

pub each_after-loop-i-preserved : goal.each_after-loop-i-preserved
each_after-loop-i-preserved t c =
    loop_step _ _ _ _ _ _ c.loop-i.invariant (put_step _ _ _ c.loop-i.i _ _ _ c.get.ensures
    c.get-in-loop-i.ensures.item c.in_ok-after_at.ensures) c.in_ok-push.ensures.ok

pub each_after-returns : goal.each_after-returns
each_after-returns t c =
    put_last _ _ _ _ c.loop-i.i c.loop-i.invariant
    (omega (
      arith,
      c.loop-i-test.false,
      c.loop-i.auto.i-end,
      c.min-i-end.ensures,
      c.len.ensures,
      c.len-2.ensures,
    ))

pub after-returns-in_ok-each_after-in-Alternatives-f :
    goal.after-returns-in_ok-each_after-in-Alternatives-f
after-returns-in_ok-each_after-in-Alternatives-f t c =
    alternatives_after _ _ _ _ _ _ _ _ c.in-Alternatives.is c.in-Alternatives-f.is
    c.in_ok-tags_made-in-Alternatives-f.ensures c.in_ok-each_after-in-Alternatives-f.ensures

pub after-returns-in-Items-f-2 : goal.after-returns-in-Items-f-2
after-returns-in-Items-f-2 t c =
    IfOk-weaker c.first_after.result _ _ (λ h e. first_after_other _ c.args.f.now h _ _
    c.in-Alternatives.is (other_of c.args.f.now _ c.in-Items-f-2.is
    (ap other (ap lift_of (sym (rolls-Items c.in-Items-f-2.field-0)) ∙ fold-roll-Lift Carry
    (List Carry) lift_step lifts_step (Lift-F.Items c.in-Items-f-2.field-0)))) e)
    c.first_after.ensures

pub after-returns-in-Parts-f-2 : goal.after-returns-in-Parts-f-2
after-returns-in-Parts-f-2 t c =
    IfOk-weaker c.first_after-in-Parts-f-2.result _ _
    (λ h e. first_after_rows _ _ h _ _ _ _ c.in-Alternatives.is c.in-Parts-f-2.is e)
    c.first_after-in-Parts-f-2.ensures
