use Rattle.std.proofs.Common.{◌≡◌, ◌<◌, length, [], get_or, ap, ◌∙◌, arith}
use Rattle.std.proofs.lemmas.List.{get_or_read}
use Rattle.awk_lanes.proofs.CountedLanes.{before-next}
use Rattle.awk_list_numbers.proofs.ListNumbers.{item_room, group_pushed, list_done}
use Rattle.awk_list_numbers.proofs.moved.list_groups.Goals as goal

pub bounds-groups-place : goal.bounds-groups-place
bounds-groups-place g c =
    omega (
      arith,
      c.place-place.ensures.place,
      c.requires.places c.loop-i.i c.loop-k.k
          (omega (arith, c.loop-i-test.true)) (omega (arith, c.loop-k-test.true)),
    )

pub push_reserved-requires : goal.push_reserved-requires
push_reserved-requires g c =
    let room = item_room (g.S.Lengths.length c.args.source.now)
    (g.S.Places.place c.args.source.now) c.args.n c.loop-i.i c.loop-k.k
    (omega (arith, c.loop-i-test.true)) (omega (arith, c.loop-k-test.true)) in
    omega (
      arith,
      c.loop-k.invariant.count,
      c.loop-k.invariant.room,
      c.requires.total,
      room,
    )

pub loop-k-preserved : goal.loop-k-preserved
loop-k-preserved g c =
    let place : c.place-place.result ≡ g.S.Places.place c.args.source.now c.loop-i.i c.loop-k.k =
    c.place-place.ensures.place in
    let within : c.place-place.result < length c.args.groups.now =
    omega (
      arith,
      place,
      c.requires.places c.loop-i.i c.loop-k.k
          (omega (arith, c.loop-i-test.true)) (omega (arith, c.loop-k-test.true)),
    ) in
    let group : c.index-groups-place.result ≡ get_or c.args.groups.now
    (g.S.Places.place c.args.source.now c.loop-i.i c.loop-k.k) [] =
    get_or_read c.args.groups.now c.place-place.result c.index-groups-place.result within
    c.index-groups-place.is []
    ∙ ap (λ q. get_or c.args.groups.now q []) place in
    record {
      count = omega (arith, c.push_reserved.ensures.len, c.loop-k.invariant.count);
      room = omega (arith, c.push_reserved.ensures.capacity, c.loop-k.invariant.room);
      items = group_pushed (g.S.Lengths.length c.args.source.now)
          (g.S.Places.place c.args.source.now) c.args.groups.now c.loop-i.i c.loop-k.k
          c.index-groups-place.result c.loop-k.moved.items _ c.push_reserved.ensures.items group
          c.loop-k.invariant.items;
    }

pub loop-i-preserved : goal.loop-i-preserved
loop-i-preserved g c =
    let done : c.loop-k.k ≡ g.S.Lengths.length c.args.source.now c.loop-i.i =
    omega (arith, c.loop-k-test.false) in
    record {
      count = omega (
        arith,
        c.loop-k.invariant.count,
        done,
        before-next (g.S.Lengths.length c.args.source.now) c.loop-i.i,
      );
      room = c.loop-k.invariant.room;
      items = list_done (g.S.Lengths.length c.args.source.now)
          (g.S.Places.place c.args.source.now) c.args.groups.now c.loop-i.i c.loop-k.k
          c.loop-k.moved.items done c.loop-k.invariant.items;
    }
