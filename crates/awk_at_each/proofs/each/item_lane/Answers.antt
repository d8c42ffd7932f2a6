use Rattle.std.proofs.Common.{◌≡◌, ◌<◌, Some, arith, ap, sym, ◌∙◌, w64, to_z, of_z}
use Rattle.awk_lanes.specs.Numbers.{int_of}
use Rattle.awk_lanes.specs.declared.kind.Kind.TheVariants.{I64}
use Rattle.awk_lanes.proofs.MadeLanes.{so_far_pushed}
use Rattle.awk_layout.specs.Valid.{len}
use Rattle.awk_at_each.specs.Each.{item_place, item_number, number_by}
use Rattle.awk_at_each.proofs.EachItems.{AllHave-more}
use Rattle.awk_at_each.proofs.each.item_lane.Goals as goal

pub read-requires : goal.read-requires
read-requires g c =
    let within : c.in-Some.place < len c.args.lists.now.content =
    rw c.in-Some.is at c.item_place.ensures.within in
    omega (arith, within, c.requires)

pub loop-j-preserved : goal.loop-j-preserved
loop-j-preserved g c =
    let s = c.args.lists.now.starts in
    let t = c.args.lists.now.stops in
    let i = to_z w64 (of_z w64 c.args.i) in
    let f = g.S.AtPlaces.at c.args.source.now in
    let e : item_place i s t c.loop-j.j ≡ Some c.in-Some.place =
    sym {b = item_place i s t c.loop-j.j} c.item_place.ensures.place ∙ c.in-Some.is in
    record {
      made = so_far_pushed I64 c.len-n.result (item_number i s t f) c.loop-j.j
          (int_of c.read.result) c.loop-j.maker c.push.new.self c.push.ensures
          (c.read.ensures.number ∙ sym (ap (number_by f) e)) c.loop-j.invariant.made;
      have = AllHave-more i s t c.loop-j.j c.in-Some.place c.loop-j.invariant.have e;
    }
