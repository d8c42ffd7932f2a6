use Rattle.std.proofs.Common.{◌≡◌, ◌≤◌, length, ap, ◌∙◌, arith, sym}
use Rattle.std.specs.Prelude.{◌/◌}
use Rattle.std.specs.Simd.{first_chunks}
use Rattle.awk_lanes.specs.Numbers.{width, numbers}
use Rattle.awk_lanes.specs.Places.{size_of}
use Rattle.awk_lanes.proofs.WordLaws.{width-small}
use Rattle.awk_lanes.proofs.MadeLanes.{lane_is}
use Rattle.awk_gather_lanes.proofs.MovedGroups.{length-groups}
use Rattle.awk_list_numbers.proofs.ListNumbers.{moved_numbers}
use Rattle.awk_list_numbers.proofs.moved.wide_numbers.Goals as goal

pub list_groups-requires : goal.list_groups-requires
list_groups-requires g c =
    let small : width c.args.lane.now.kind ≤ 8 = width-small c.args.lane.now.kind in
    let same = length-groups c.args.lane.now c.in_ok-bytes.bytes.now c.in_ok-bytes.ensures.size
    c.in_ok-bytes.ensures.numbers in
    let groups : length c.as_chunks.result.0.now ≡ size_of c.args.lane.now =
    ap length {y = first_chunks g.row.W (length c.in_ok-bytes.bytes.now / g.row.W)
    c.in_ok-bytes.bytes.now}
    c.as_chunks.ensures.front
    ∙ ap (λ w. length (first_chunks w (length c.in_ok-bytes.bytes.now / w) c.in_ok-bytes.bytes.now))
    (sym c.requires.width)
    ∙ same in (
      omega (arith, small, c.requires.width),
      (
        c.requires.ready,
        (
          c.requires.within,
          (c.requires.total, (λ i k a b. omega (arith, groups, c.requires.places i k a b))),
        ),
      ),
    )

pub returns : goal.returns
returns g c =
    lane_is _ _ (c.new.ensures.kind ∙ c.kind.ensures)
    (c.new.ensures.items
    ∙ ap (λ k. numbers k (length c.as_flattened.result.now / width k) c.as_flattened.result.now)
    c.kind.ensures
    ∙ moved_numbers c.args.lane.now c.in_ok-bytes.bytes.now g.row.W c.args.n
    (g.S.Lengths.length c.args.source.now) (g.S.Places.place c.args.source.now) c.requires.width
    c.requires.some c.in_ok-bytes.ensures.size c.in_ok-bytes.ensures.numbers c.requires.places
    c.in_ok-moved.moved.now (rw (← c.as_chunks.ensures.front) c.in_ok-moved.ensures)
    c.as_flattened.result.now c.as_flattened.ensures.value c.as_flattened.ensures.len)
