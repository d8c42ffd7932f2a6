use Rattle.std.proofs.Common.{◌≡◌, ◌+◌, ◌<◌, length, [], get_or, refl, ap, ◌∙◌, arith}
use Rattle.std.proofs.lemmas.List.{get_or_read}
use Rattle.awk_lanes.specs.Numbers.{nat_of}
use Rattle.awk_gather_lanes.specs.Moved.{eight, group_past}
use Rattle.awk_gather_lanes.proofs.MovedGroups.{group_pushed}
use Rattle.awk_gather_lanes.proofs.moved.groups_past.Goals as goal

pub loop-i-preserved : goal.loop-i-preserved
loop-i-preserved g c =
    let place : c.place_of.result ≡ nat_of (eight (get_or c.args.places.now c.loop-i.i [])) =
    c.place_of.ensures in
    let within : c.place_of.result + c.args.distance < length c.args.groups.now = rw place
    (c.requires.places c.loop-i.i c.loop-i-test.true).1 in
    let group : c.index-groups-place_of.result ≡ group_past c.args.distance c.args.groups.now
    c.args.places.now c.loop-i.i =
    get_or_read c.args.groups.now (c.place_of.result + c.args.distance)
    c.index-groups-place_of.result within c.index-groups-place_of.is []
    ∙ ap (λ q. get_or c.args.groups.now (q + c.args.distance) []) place in
    record {
      end = refl;
      count = omega (arith, c.push_reserved.ensures.len, c.loop-i.invariant.count);
      room = c.push_reserved.ensures.capacity ∙ c.loop-i.invariant.room;
      items =
          group_pushed (group_past c.args.distance c.args.groups.now c.args.places.now) c.loop-i.i
          c.index-groups-place_of.result c.loop-i.moved.items _ c.push_reserved.ensures.items group
          c.loop-i.invariant.items;
    }
