use Rattle.std.proofs.Common.{◌≡◌, ◌<◌, Some, None, length, arith, ap, ◌∙◌, subst}
use Rattle.awk_base.proofs.Results.{none_left}
use Rattle.awk_lanes.specs.Made.{lane_of}
use Rattle.awk_lanes.specs.Numbers.{int_of}
use Rattle.awk_lanes.specs.declared.kind.Kind.TheVariants.{I64}
use Rattle.awk_lanes.proofs.MadeLanes.{made_size, so_far_pushed}
use Rattle.awk_layout.specs.Valid.{len}
use Rattle.awk_gather.specs.Arrays.{array_item}
use Rattle.awk_select.specs.Cells.{IsTaken, take_number}
use Rattle.awk_select.proofs.PickedPlaces.{outside-here, inside-more, inside-all}
use Rattle.awk_select.proofs.indexes.places_in.Goals as goal

pub returns-in_default : goal.returns-in_default
returns-in_default g c =
    let i : c.loop-i.i < len c.args.ix.now =
    omega (arith, c.loop-i-test.true, c.len-count.ensures.len) in
    let none = none_left _ (λ k e. c.in_default.not-Some k e) in
    let outside : IsTaken c.args.n (array_item c.args.ix.now c.loop-i.i) None =
    rw none at c.taken_place.ensures.place in
    outside-here c.args.n c.args.ix.now c.loop-i.i i outside

pub push-requires-clause-room : goal.push-requires-clause-room
push-requires-clause-room g c =
    let e : length c.loop-i.maker.items ≡ c.loop-i.i =
    made_size (take_number c.args.n c.args.ix.now) c.loop-i.i _ c.loop-i.invariant.made.items in
    omega (arith, e, c.loop-i.invariant.made.room, c.loop-i-test.true)

pub loop-i-preserved : goal.loop-i-preserved
loop-i-preserved g c =
    let i : c.loop-i.i < len c.args.ix.now =
    omega (arith, c.loop-i-test.true, c.len-count.ensures.len) in
    let named : IsTaken c.args.n (array_item c.args.ix.now c.loop-i.i) (Some c.in-Some.place) =
    rw c.in-Some.is at c.taken_place.ensures.place in
    record {
      made = so_far_pushed I64 c.len-count.result (take_number c.args.n c.args.ix.now) c.loop-i.i
          (int_of c.in-Some.place) c.loop-i.maker c.push.new.self c.push.ensures named.1
          c.loop-i.invariant.made;
      inside = inside-more c.args.n c.args.ix.now c.loop-i.i i c.loop-i.invariant.inside named.0;
    }

pub returns : goal.returns
returns g c =
    let all : c.loop-i.i ≡ len c.args.ix.now =
    omega (arith, c.loop-i-test.false, c.loop-i.auto, c.len-count.ensures.len) in
    let lane : c.finish.result ≡ lane_of I64 c.loop-i.i (take_number c.args.n c.args.ix.now) =
    c.finish.ensures
    ∙ ap (λ zs. record { kind = I64; items = zs }) c.loop-i.invariant.made.items in (
      inside-all c.args.n c.args.ix.now c.loop-i.i (omega (arith, all)) c.loop-i.invariant.inside,
      subst (λ k. c.finish.result ≡ lane_of I64 k (take_number c.args.n c.args.ix.now)) all lane,
    )
