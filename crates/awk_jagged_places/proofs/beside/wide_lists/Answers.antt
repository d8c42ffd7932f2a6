use Rattle.std.proofs.Common.{◌≡◌, ◌≤◌, length, ap, ◌∙◌, sym, arith}
use Rattle.std.specs.Prelude.{◌/◌}
use Rattle.std.specs.List.{flat_map}
use Rattle.std.specs.Simd.{first_chunks}
use Rattle.awk_lanes.specs.declared.kind.Kind.TheVariants.{I64}
use Rattle.awk_lanes.specs.Numbers.{width, numbers}
use Rattle.awk_lanes.specs.Places.{size_of}
use Rattle.awk_lanes.proofs.WordLaws.{width-small}
use Rattle.awk_lanes.proofs.MadeLanes.{lane_is}
use Rattle.awk_gather_lanes.proofs.MovedGroups.{length-groups}
use Rattle.awk_jagged_places.specs.Beside.{IsBeside, places_beside}
use Rattle.awk_jagged_places.proofs.KeptLanes.{numbers-kept}
use Rattle.awk_jagged_places.proofs.beside.wide_lists.Goals as goal

pub groups_of-requires : goal.groups_of-requires
groups_of-requires g c =
    let groups : length c.as_chunks.result.0.now ≡ size_of c.args.lane.now =
    ap length {y = first_chunks g.row.W (length c.in_ok-bytes.bytes.now / g.row.W)
    c.in_ok-bytes.bytes.now}
    c.as_chunks.ensures.front
    ∙ ap (λ w. length (first_chunks w (length c.in_ok-bytes.bytes.now / w) c.in_ok-bytes.bytes.now))
    (sym c.requires.width)
    ∙ length-groups c.args.lane.now c.in_ok-bytes.bytes.now c.in_ok-bytes.ensures.size
    c.in_ok-bytes.ensures.numbers in
    let small : g.row.W ≤ 8 =
    omega (arith, c.requires.width, width-small c.args.lane.now.kind) in (
      omega (arith, small),
      (
        small,
        (
          c.requires.leaves,
          (
            c.requires.alike,
            (
              c.requires.content ∙ sym groups,
              (
                c.requires.within,
                (c.requires.room, (c.requires.few, c.in_ok-offsets.ensures)),
              ),
            ),
          ),
        ),
      ),
    )

pub returns : goal.returns
returns g c =
    let xs = c.args.picks.now.xs.now in
    let ws = c.args.picks.now.ws.now in
    let flat : c.as_flattened.result.now ≡ flat_map (λ x. x) c.in_ok-moved.moved.now =
    c.as_flattened.ensures.value in
    let moved : IsBeside xs ws c.args.n c.as_chunks.result.0.now c.in_ok-moved.moved.now =
    c.in_ok-moved.ensures.groups in
    let items = numbers-kept c.args.lane.now c.in_ok-bytes.bytes.now g.row.W c.requires.plain
    c.requires.width c.requires.some c.in_ok-bytes.ensures.size c.in_ok-bytes.ensures.numbers
    (places_beside xs ws c.args.n).items c.requires.index c.in_ok-moved.moved.now
    (rw (← c.as_chunks.ensures.front) moved)
    c.as_flattened.result.now flat c.as_flattened.ensures.len in
    let lane = lane_is _ _ (c.new-2.ensures.kind ∙ c.kind.ensures)
    (c.new-2.ensures.items ∙ ap (λ k. numbers k (length c.as_flattened.result.now / width k)
    c.as_flattened.result.now) c.kind.ensures ∙ items) in (
      c.finish.ensures ∙ ap (λ zs. record { kind = I64; items = zs }) c.in_ok-moved.ensures.offsets,
      lane,
    )
