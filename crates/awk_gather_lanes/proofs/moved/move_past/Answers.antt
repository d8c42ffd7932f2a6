use Rattle.std.proofs.Common.{◌≡◌, ◌≤◌, length, ap, ◌∙◌, arith, sym}
use Rattle.std.specs.Prelude.{◌/◌}
use Rattle.std.specs.Simd.{first_chunks}
use Rattle.std.specs.List.{flat_map}
use Rattle.awk_lanes.specs.Numbers.{width, numbers}
use Rattle.awk_lanes.specs.Places.{size_of}
use Rattle.awk_lanes.proofs.WordLaws.{width-small}
use Rattle.awk_lanes.proofs.MadeLanes.{lane_is}
use Rattle.awk_gather_lanes.specs.Moved.{groups_past}
use Rattle.awk_gather_lanes.proofs.MovedGroups.{places_past, length-groups, numbers-moved}
use Rattle.awk_gather_lanes.proofs.moved.move_past.Goals as goal

pub groups_past-requires : goal.groups_past-requires
groups_past-requires g c =
    let small : width c.args.lane.now.kind ≤ 8 = width-small c.args.lane.now.kind in
    let groups : length c.as_chunks.result.0.now ≡ size_of c.args.lane.now =
    ap length {y = first_chunks g.row.W (length c.in_ok-bytes.bytes.now / g.row.W)
    c.in_ok-bytes.bytes.now}
    c.as_chunks.ensures.front
    ∙ ap (λ w. length (first_chunks w (length c.in_ok-bytes.bytes.now / w) c.in_ok-bytes.bytes.now))
    (sym c.requires.width)
    ∙ length-groups c.args.lane.now c.in_ok-bytes.bytes.now c.in_ok-bytes.ensures.size
    c.in_ok-bytes.ensures.numbers in
    let past = places_past c.args.places.now c.in_ok-rows.rows.now (size_of c.args.lane.now)
    c.args.distance c.requires.index c.in_ok-rows.ensures.size c.in_ok-rows.ensures.numbers
    c.requires.places in
    (omega (arith, c.requires.width), rw (groups, c.as_chunks-2.ensures.front) past)

pub returns : goal.returns
returns g c =
    let flat : c.as_flattened.result.now ≡ flat_map (λ x. x) c.in_ok-moved.moved.now =
    c.as_flattened.ensures.value in
    let moved : c.in_ok-moved.moved.now ≡ groups_past c.args.distance c.as_chunks.result.0.now
    c.as_chunks-2.result.0.now = c.in_ok-moved.ensures in
    let items = numbers-moved c.args.lane.now c.args.places.now c.in_ok-bytes.bytes.now
    c.in_ok-rows.rows.now c.args.distance g.row.W c.requires.kind c.requires.width c.requires.some
    c.in_ok-bytes.ensures.size c.in_ok-bytes.ensures.numbers c.requires.index
    c.in_ok-rows.ensures.size
    c.in_ok-rows.ensures.numbers c.requires.places c.in_ok-moved.moved.now
    (rw (← c.as_chunks.ensures.front, ← c.as_chunks-2.ensures.front) moved)
    c.as_flattened.result.now flat c.as_flattened.ensures.len in
    record {
      lane = lane_is _ _ (c.new.ensures.kind ∙ c.kind.ensures)
          (c.new.ensures.items ∙ ap (λ k. numbers k (length c.as_flattened.result.now / width k)
          c.as_flattened.result.now) c.kind.ensures ∙ items);
    }
