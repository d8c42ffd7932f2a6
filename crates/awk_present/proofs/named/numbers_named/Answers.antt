use Rattle.std.proofs.Common.{◌≡◌, ◌≤◌, length, ap, ap₂, sym, subst, ◌∙◌, arith, map, get_or, []}
use Rattle.std.specs.Prelude.{◌/◌}
use Rattle.std.specs.Simd.{first_chunks}
use Rattle.awk_lanes.specs.Numbers.{width, numbers}
use Rattle.awk_lanes.specs.Places.{size_of}
use Rattle.awk_lanes.proofs.WordLaws.{width-small}
use Rattle.awk_lanes.proofs.MadeLanes.{lane_is}
use Rattle.awk_counts.specs.Counted.{first_of, present_at}
use Rattle.awk_open.proofs.OrderedOptions.{option_below}
use Rattle.awk_present.specs.Named.{named_places, ArePlacesOf}
use Rattle.awk_present.proofs.NamedLaws.{named_same, places_within, groups-count, numbers-named}
use Rattle.awk_present.proofs.named.numbers_named.Goals as goal

pub groups_named-requires : goal.groups_named-requires
groups_named-requires g c =
    let small : width c.args.lane.now.kind ≤ 8 = width-small c.args.lane.now.kind in
    let count : length c.as_chunks.result.0.now ≡ size_of c.args.lane.now =
    ap length {y = first_chunks g.row.W (length c.in_ok-bytes.bytes.now / g.row.W)
    c.in_ok-bytes.bytes.now}
    c.as_chunks.ensures.front
    ∙ groups-count c.args.lane.now c.in_ok-bytes.bytes.now g.row.W c.requires.kind c.requires.width
    c.requires.some c.in_ok-bytes.ensures.size c.in_ok-bytes.ensures.numbers in
    let within : ArePlacesOf (size_of c.args.lane.now) c.as_chunks-2.result.0.now =
    subst (ArePlacesOf (size_of c.args.lane.now)) (sym c.as_chunks-2.ensures.front)
    (places_within c.args.index.now c.in_ok-rows.rows.now c.requires.wide c.in_ok-rows.ensures.size
    c.in_ok-rows.ensures.numbers (size_of c.args.lane.now) c.requires.index) in
    let places : length (named_places c.as_chunks-2.result.0.now)
    ≡ length (first_of (present_at c.args.index.now) (size_of c.args.index.now)) =
    ap (λ ps. length (named_places ps)) c.as_chunks-2.ensures.front
    ∙ ap length (named_same c.args.index.now c.in_ok-rows.rows.now c.requires.wide
    c.in_ok-rows.ensures.size c.in_ok-rows.ensures.numbers) in (
      omega (arith, c.requires.width, small),
      (
        subst (λ n. ArePlacesOf n c.as_chunks-2.result.0.now) (sym count) within,
        c.requires.count ∙ sym places,
      ),
    )

pub returns : goal.returns
returns g c =
    let index = c.args.index.now in
    let lane = c.args.lane.now in
    let named = c.in_ok-named.ensures
    ∙ ap₂ (λ gs ks. map (λ k. get_or gs k []) ks) c.as_chunks.ensures.front
    (ap named_places c.as_chunks-2.ensures.front
    ∙ named_same index c.in_ok-rows.rows.now c.requires.wide c.in_ok-rows.ensures.size
    c.in_ok-rows.ensures.numbers) in
    let items = numbers-named lane c.in_ok-bytes.bytes.now g.row.W c.requires.kind c.requires.width
    c.requires.some c.in_ok-bytes.ensures.size c.in_ok-bytes.ensures.numbers
    (first_of (present_at index) (size_of index))
    (option_below index (size_of lane) c.requires.index) c.as_flattened.result.now
    c.in_ok-named.named.now named c.as_flattened.ensures.value c.as_flattened.ensures.len in
    lane_is _ _ (c.new.ensures.kind ∙ c.kind.ensures)
    (c.new.ensures.items
    ∙ ap (λ k. numbers k (length c.as_flattened.result.now / width k) c.as_flattened.result.now)
    c.kind.ensures
    ∙ items)
