use Rattle.std.proofs.Common.{◌/◌, length, ◌∙◌}
use Rattle.std.specs.Prelude.{◌^◌}
use Rattle.awk_lanes.specs.declared.kind.Kind.TheVariants as Kind
use Rattle.awk_lanes.specs.Numbers.{numbers}
use Rattle.awk_lanes.proofs.MadeLanes.{lane_is}
use Rattle.awk_gather_lanes.proofs.MovedGroups.{places_past, numbers-narrow}
use Rattle.awk_gather_lanes.proofs.moved.narrowed.Goals as goal

pub narrow_groups-requires : goal.narrow_groups-requires
narrow_groups-requires g c =
    let past = places_past c.args.places.now c.in_ok-bytes.bytes.now (2 ^ 32) 0 c.requires.index
    c.in_ok-bytes.ensures.size c.in_ok-bytes.ensures.numbers c.requires.few in
    record { places = rw (c.as_chunks.ensures.front) past }

pub returns : goal.returns
returns g c =
    let items = numbers-narrow c.args.places.now c.in_ok-bytes.bytes.now c.requires.index
    c.in_ok-bytes.ensures.size c.in_ok-bytes.ensures.numbers c.requires.few
    c.in_ok-groups.groups.now
    (rw (← c.as_chunks.ensures.front) c.in_ok-groups.ensures) c.as_flattened.result.now
    c.as_flattened.ensures.value c.as_flattened.ensures.len in
    record {
      lane = lane_is _ _ c.new.ensures.kind
          (◌∙◌ {b = numbers Kind.U32 (length c.as_flattened.result.now / 4)
          c.as_flattened.result.now}
          c.new.ensures.items items);
      cost = c.bulk.ensures.cost;
    }
