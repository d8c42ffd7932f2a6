use Rattle.std.proofs.Common.{◌≡◌, ◌+◌, ◌*◌, length, ap, ◌∙◌, arith}
use Rattle.std.proofs.lemmas.List.FromFn.{length-map-range_with_len}
use Rattle.awk_lanes.specs.Making.{Making}
use Rattle.awk_lanes.specs.Numbers.{int_of}
use Rattle.awk_lanes.specs.Places.{size_of, place_at}
use Rattle.awk_gather_lanes.specs.Lanes.{block_at}
use Rattle.awk_gather_lanes.proofs.PickedLanes.{block_pushed, room_left}
use Rattle.awk_gather_lanes.proofs.lanes_at.block_lane.Goals as goal

pub push-requires-clause-room : goal.push-requires-clause-room
push-requires-clause-room g c =
    let e : length c.loop-k.maker.items ≡ c.loop-i.i * c.args.size + c.loop-k.k = ap length
    c.loop-k.invariant.items ∙ length-map-range_with_len
    (block_at c.args.size c.args.places.now) 0 (c.loop-i.i * c.args.size + c.loop-k.k) in
    let w = room_left c.args.size (size_of c.args.places.now) c.loop-i.i c.loop-k.k (omega arith)
    (omega arith) in
    omega (arith, c.loop-k.invariant.room)

pub finish-requires : goal.finish-requires
finish-requires g c =
    let e : length c.loop-i.maker.items ≡ c.loop-i.i * c.args.size = ap length
    c.loop-i.invariant.items ∙ length-map-range_with_len
    (block_at c.args.size c.args.places.now) 0 (c.loop-i.i * c.args.size) in
    let f : c.loop-i.i ≡ size_of c.args.places.now = omega arith in
    let h : c.loop-i.i * c.args.size ≡ size_of c.args.places.now * c.args.size = ap
    (λ z. z * c.args.size) f in
    cc

pub loop-k-preserved : goal.loop-k-preserved
loop-k-preserved g c =
    let z : c.place_in.result * c.args.size ≡ place_at c.args.places.now c.loop-i.i * c.args.size =
    ap (λ z. z * c.args.size) c.place_in.ensures.value in
    record {
      kind = ap (λ (m : Making). m.kind) c.push.ensures ∙ c.loop-k.invariant.kind;
      room = ap (λ (m : Making). m.room) c.push.ensures ∙ c.loop-k.invariant.room;
      items =
          block_pushed c.args.size c.args.places.now c.loop-i.i c.loop-k.k c.first_of-first.result
          (int_of c.number.result) c.loop-k.maker c.push.new.self c.loop-k-test.true c.push.ensures
          c.number.ensures.number (c.first_of-first.ensures ∙ z) c.loop-k.invariant.items;
    }
