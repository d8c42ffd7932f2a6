use Rattle.std.proofs.Common.{◌≡◌, ◌+◌, ◌-◌, map, ap, sym, refl, ◌∙◌, arith}
use Rattle.std.specs.List.{flat_map, range_with_len}
use Rattle.awk_lanes.specs.Words.{column, integers}
use Rattle.awk_lanes.specs.declared.kind.Kind.TheVariants.{I64}
use Rattle.awk_places.specs.Begun.{places_of}
use Rattle.awk_places.specs.Slots.{slot_lane}
use Rattle.awk_places.proofs.SlotLaws.{all_first, last_lane, lanes_more}
use Rattle.awk_places.proofs.slots.one_lane.Goals as goal

pub returns : goal.returns
returns g c =
    let rep = c.args.rising.replacement in
    let n = c.args.rising.slots in
    let s = c.args.firsts.now in
    let e = c.args.ends.now in
    let l : n ≡ 0 + 1 = omega (arith, c.requires.one) in
    lanes_more rep n 0 s e c.new-lanes.result c.push.new.self c.in_ok-last_lane.field-0
    c.new-lanes.ensures
    (c.in_ok-last_lane.ensures
    ∙ ap (λ bs. column I64 (integers (flat_map places_of bs))) c.deref.ensures.value
    ∙ last_lane rep n 0 s e c.in_ok-begun.begun.items
    (flat_map places_of c.in_ok-begun.begun.items) c.requires.places l
    (c.in_ok-begun.ensures.begun ∙ all_first rep (n - 0) s e) refl) c.in_ok-push.ensures.ok
    ∙ ap (λ k. map (slot_lane rep n s e) (range_with_len 0 k)) (sym l)
