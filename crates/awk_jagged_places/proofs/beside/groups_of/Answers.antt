use Rattle.std.proofs.Common.{◌≡◌, ◌+◌, arith, length, ap, ◌∙◌}
use Rattle.std.specs.Prelude.{pos}
use Rattle.awk_lanes.specs.Counted.{before}
use Rattle.awk_lanes.specs.declared.kind.Kind.TheVariants.{I64}
use Rattle.awk_lanes.proofs.CountedLanes.{before_mono}
use Rattle.awk_lanes.proofs.MadeLanes.{so_far_pushed, made_size}
use Rattle.awk_jagged_places.specs.Beside.{kept_length}
use Rattle.awk_jagged_places.proofs.BesideLaws.{lists-next, total-next, lists-room, offset-next}
use Rattle.awk_jagged_places.proofs.beside.groups_of.Goals as goal

pub put_list-requires : goal.put_list-requires
put_list-requires g c =
    let room = lists-room c.args.picks.now.xs.now c.args.picks.now.ws.now c.args.groups.now
    c.loop-i.i c.args.n c.args.room _ _ (omega (arith, c.loop-i-test.true)) c.requires.room
    c.loop-i.invariant.room c.loop-i.invariant.count in (
      omega (arith, c.requires.small),
      (
        c.requires.small,
        (
          c.requires.leaves,
          (
            c.requires.alike,
            (
              c.requires.content,
              (omega (arith, c.loop-i-test.true, c.requires.within), room),
            ),
          ),
        ),
      ),
    )

pub number-requires-in-loop-i : goal.number-requires-in-loop-i
number-requires-in-loop-i g c =
    let m = kept_length c.args.picks.now.xs.now c.args.picks.now.ws.now in
    let end : c.len.result ≡ before m (c.loop-i.i + 1) =
    c.len.ensures ∙ offset-next c.args.picks.now.xs.now c.args.picks.now.ws.now
    c.args.groups.now c.loop-i.i _ _ c.loop-i.invariant.count c.put_list.ensures.len in
    omega (
      arith,
      end,
      before_mono m (c.loop-i.i + 1) c.args.n (omega (arith, c.loop-i-test.true)),
      c.requires.room,
      c.requires.few,
    )

pub push-requires-in-loop-i-clause-room : goal.push-requires-in-loop-i-clause-room
push-requires-in-loop-i-clause-room g c =
    let m = kept_length c.args.picks.now.xs.now c.args.picks.now.ws.now in
    let e : length c.loop-i.offsets.items ≡ c.loop-i.i + 1 =
    made_size (λ j. pos (before m j)) (c.loop-i.i + 1) _ c.loop-i.invariant.ends.items in
    omega (arith, e, c.loop-i.invariant.ends.room, c.loop-i-test.true)

pub loop-i-preserved : goal.loop-i-preserved
loop-i-preserved g c =
    let m = kept_length c.args.picks.now.xs.now c.args.picks.now.ws.now in
    let end : c.len.result ≡ before m (c.loop-i.i + 1) =
    c.len.ensures ∙ offset-next c.args.picks.now.xs.now c.args.picks.now.ws.now
    c.args.groups.now c.loop-i.i _ _ c.loop-i.invariant.count c.put_list.ensures.len in
    record {
      items = lists-next c.args.picks.now.xs.now c.args.picks.now.ws.now c.args.groups.now
          c.loop-i.i _ _ c.loop-i.invariant.items c.put_list.ensures.items;
      count = total-next c.args.picks.now.xs.now c.args.picks.now.ws.now c.args.groups.now
          c.loop-i.i _ _ c.loop-i.invariant.count c.put_list.ensures.len;
      room = omega (arith, c.put_list.ensures.capacity, c.loop-i.invariant.room);
      ends = so_far_pushed I64 (c.args.n + 1) (λ j. pos (before m j)) (c.loop-i.i + 1) _
          c.loop-i.offsets c.push-in-loop-i.new.self c.push-in-loop-i.ensures
          (c.number-in-loop-i.ensures.number ∙ ap pos end) c.loop-i.invariant.ends;
    }
