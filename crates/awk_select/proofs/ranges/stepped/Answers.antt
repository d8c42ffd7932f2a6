use Rattle.std.proofs.Common.{◌≡◌, ap, ◌∙◌, subst}
use Rattle.std.specs.Int.{w64}
use Rattle.std.proofs.lemmas.Int.{to_z-of_z}
use Rattle.std.proofs.lemmas.Result.{IfOk-weaker}
use Rattle.awk_lanes.specs.Places.{IsIndex}
use Rattle.awk_layout.specs.Typing.{array_items}
use Rattle.awk_layout.specs.Valid.{len}
use Rattle.awk_counts.specs.Counted.{places_lane}
use Rattle.awk_select.specs.Places.{range_places}
use Rattle.awk_select.proofs.RangePlaces.{range_places-index, pick-places}
use Rattle.awk_select.proofs.ranges.stepped.Goals as goal

pub gather-requires-clause-places : goal.gather-requires-clause-places
gather-requires-clause-places g c =
    let lane : c.in_ok-places.places ≡ places_lane
    (range_places c.len.result c.args.lo c.args.hi c.args.step) =
    c.in_ok-places.ensures.lane ∙ ap (λ s. places_lane
    (range_places c.len.result c.args.lo c.args.hi s))
    (to_z-of_z w64 c.args.step c.ranges.step) in
    subst (IsIndex c.in_ok-places.places) c.len.ensures.len
    (range_places-index c.len.result c.args.lo c.args.hi c.args.step c.in_ok-places.places
    c.requires lane)

pub returns-clause-items : goal.returns-clause-items
returns-clause-items g c =
    let lane : c.in_ok-places.places ≡ places_lane
    (range_places (len c.args.x.now) c.args.lo c.args.hi c.args.step) =
    c.in_ok-places.ensures.lane ∙ ap (λ s. places_lane
    (range_places c.len.result c.args.lo c.args.hi s)) (to_z-of_z w64 c.args.step c.ranges.step)
    ∙ ap (λ n. places_lane (range_places n c.args.lo c.args.hi c.args.step))
    c.len.ensures.len in
    IfOk-weaker c.gather.result _ _ (λ r w. w.items ∙ pick-places (array_items c.args.x.now)
    (range_places (len c.args.x.now) c.args.lo c.args.hi c.args.step) c.in_ok-places.places
    lane) c.gather.ensures.gathered
