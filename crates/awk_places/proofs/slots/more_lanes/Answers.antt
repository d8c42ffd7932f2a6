use Rattle.std.proofs.Common.{◌≡◌, ◌+◌, ◌-◌, ◌<◌, ◌≤◌, ap, sym, refl, ◌∙◌, arith, subst}
use Rattle.std.specs.List.{flat_map, AllByRecursion}
use Rattle.awk_types.specs.ItemLimit.{item_limit}
use Rattle.awk_lanes.specs.Counted.{before}
use Rattle.awk_lanes.specs.Places.{size_of}
use Rattle.awk_lanes.specs.Words.{column, integers}
use Rattle.awk_lanes.specs.declared.kind.Kind.TheVariants.{I64}
use Rattle.awk_places.specs.Begun.{longer, again, pair_firsts, pair_seconds, Fits, IsFew}
use Rattle.awk_places.specs.Slots.{tuple_count}
use Rattle.awk_places.proofs.SlotLaws.{step_begun, rests_few, rests_lane, lanes_more, fits_after}
use Rattle.awk_places.proofs.SlotLaws.{two_more}
use Rattle.awk_places.proofs.slots.more_lanes.Goals as goal

pub slot_lane-requires-clause-fits : goal.slot_lane-requires-clause-fits
slot_lane-requires-clause-fits g c =
    let rep = c.args.rising.replacement in
    let left = c.args.rising.slots - 1 - c.loop-slot.slot in
    let q = c.in_ok-begun-2.ensures ∙ ap (flat_map (longer rep left)) c.deref.ensures.value in
    subst (AllByRecursion Fits) (sym c.deref-in-loop-slot.ensures.value)
    (fits_after rep left c.loop-slot.begun.items c.in_ok-begun-2.begun.items
    c.loop-slot.invariant.fits q)

pub slot_lane-requires-clause-few : goal.slot_lane-requires-clause-few
slot_lane-requires-clause-few g c =
    let rep = c.args.rising.replacement in
    let n = c.args.rising.slots in
    let j = c.loop-slot.slot in
    let s = c.args.firsts.now in
    let e = c.args.ends.now in
    let l : j < n - 1 = omega (arith, c.loop-slot-test.true) in
    let q = c.in_ok-begun-2.ensures
    ∙ ap (flat_map (longer rep (n - 1 - j))) c.deref.ensures.value in
    let f : before (tuple_count rep n s e) (size_of s) ≤ item_limit =
    omega (arith, c.requires.total, c.requires.few) in
    subst (AllByRecursion (IsFew rep (n - 1 - j))) (sym c.deref-in-loop-slot.ensures.value)
    (rests_few rep n j s e c.in_ok-begun-2.begun.items c.requires.places l
    (step_begun rep n j s e c.loop-slot.begun.items c.in_ok-begun-2.begun.items l
    c.loop-slot.invariant.begun q) f)

pub loop-slot-preserved : goal.loop-slot-preserved
loop-slot-preserved g c =
    let rep = c.args.rising.replacement in
    let n = c.args.rising.slots in
    let j = c.loop-slot.slot in
    let s = c.args.firsts.now in
    let e = c.args.ends.now in
    let left = n - 1 - j in
    let l : j < n - 1 = omega (arith, c.loop-slot-test.true) in
    let q = c.in_ok-begun-2.ensures ∙ ap (flat_map (longer rep left)) c.deref.ensures.value in
    let b = step_begun rep n j s e c.loop-slot.begun.items c.in_ok-begun-2.begun.items l
    c.loop-slot.invariant.begun q in
    record {
      begun = b;
      fits = fits_after rep left c.loop-slot.begun.items c.in_ok-begun-2.begun.items
          c.loop-slot.invariant.fits q;
      lanes = lanes_more rep n j s e c.loop-slot.lanes c.push.new.self
          c.in_ok-slot_lane.field-0 c.loop-slot.invariant.lanes
          (c.in_ok-slot_lane.ensures
          ∙ ap (λ bs. column I64 (integers (flat_map (again rep left) bs)))
          c.deref-in-loop-slot.ensures.value
          ∙ rests_lane rep n j s e c.in_ok-begun-2.begun.items
          (flat_map (again rep left) c.in_ok-begun-2.begun.items) c.requires.places l b refl)
          c.in_ok-push.ensures.ok;
      few = omega (arith, c.loop-slot-test.true);
    }

pub returns : goal.returns
returns g c =
    let rep = c.args.rising.replacement in
    let n = c.args.rising.slots in
    let j = c.loop-slot.slot in
    let s = c.args.firsts.now in
    let e = c.args.ends.now in
    let l : n ≡ j + 2 =
    omega (arith, c.loop-slot-test.false, c.loop-slot.invariant.few, c.requires.some) in
    two_more rep n j s e c.loop-slot.begun.items c.loop-slot.lanes c.push-2.new.self
    c.push-3.new.self c.in_ok-first_lane.field-0 c.in_ok-second_lane.field-0 c.requires.places l
    c.loop-slot.invariant.begun c.loop-slot.invariant.lanes
    (c.in_ok-first_lane.ensures
    ∙ ap (λ bs. column I64 (integers (flat_map (pair_firsts rep) bs))) c.deref-2.ensures.value)
    c.in_ok-push-2.ensures.ok
    (c.in_ok-second_lane.ensures
    ∙ ap (λ bs. column I64 (integers (flat_map (pair_seconds rep) bs))) c.deref-3.ensures.value)
    c.in_ok-push-3.ensures.ok
