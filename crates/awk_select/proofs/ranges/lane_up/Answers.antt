use Rattle.std.proofs.Common.{◌≡◌, ◌+◌, ◌-◌, ◌*◌, arith, ap, ◌∙◌}
use Rattle.std.specs.Prelude.{pos}
use Rattle.awk_lanes.specs.Numbers.{int_of}
use Rattle.awk_lanes.specs.declared.kind.Kind.TheVariants.{I64}
use Rattle.awk_lanes.proofs.MadeLanes.{so_far_pushed}
use Rattle.awk_select.specs.Places.{multiples_below}
use Rattle.awk_select.proofs.RangePlaces.{multiple-below, lane-up, end-is}
use Rattle.awk_select.proofs.ranges.lane_up.Goals as goal

pub place_up-requires-clause-below : goal.place_up-requires-clause-below
place_up-requires-clause-below c =
    let n : c.multiples_below-n.result ≡ multiples_below (c.args.hi - c.args.lo) c.args.step =
    c.multiples_below-n.ensures ∙ ap (λ d. multiples_below d c.args.step)
    c.saturating_sub.ensures in
    multiple-below (c.args.hi - c.args.lo) c.args.step c.loop-j.j c.requires.step
    (omega (arith, n, c.loop-j-test.true))

pub loop-j-preserved : goal.loop-j-preserved
loop-j-preserved c =
    so_far_pushed _ _ (λ j. pos (c.args.lo + j * c.args.step)) c.loop-j.j (int_of c.number.result)
    c.loop-j.maker c.push.new.self c.push.ensures
    (c.number.ensures.number ∙ ap pos c.place_up.ensures.place) c.loop-j.invariant

pub returns : goal.returns
returns c =
    let n : c.multiples_below-n.result ≡ multiples_below (c.args.hi - c.args.lo) c.args.step =
    c.multiples_below-n.ensures ∙ ap (λ d. multiples_below d c.args.step)
    c.saturating_sub.ensures in
    record {
      lane =
          lane-up c.args.lo c.args.hi c.args.step c.finish.result
          (c.finish.ensures
          ∙ ap (λ zs. record { kind = I64; items = zs })
          (c.loop-j.invariant.items ∙ end-is
          (λ j. pos (c.args.lo + j * c.args.step)) c.loop-j.j c.multiples_below-n.result
          (multiples_below (c.args.hi - c.args.lo) c.args.step)
          (omega (arith, c.loop-j-test.false, c.loop-j.auto)) n));
    }
