use Rattle.std.proofs.Common.{arith, refl, ap, sym, ◌∙◌}
use Rattle.awk_lanes.specs.Column.{Column}
use Rattle.std.specs.Prelude.{None}
use Rattle.awk_types.specs.DataType.{var}
use Rattle.awk_merge_sides.specs.Sides.{side_of, sides_of}
use Rattle.awk_merge_lists.proofs.CarriedLists.{side_lists}
use Rattle.awk_merge_lists.proofs.ListLaws.{listing_none, listing_room, listing_next}
use Rattle.awk_merge_lists.proofs.ListLaws.{level_listed}
use Rattle.awk_merge_sides.proofs.SideLaws.{IsSide-get}
use Rattle.awk_merge_lists.proofs.lists.list_level.Goals as goal

pub loop-i-init : goal.loop-i-init
loop-i-init g c =
    listing_none (sides_of c.args.sides.now) c.total.result c.total-2.result
    (record {
      starts = c.in_ok-new.field-0;
      stops = c.in_ok-new-2.field-0;
      sides = c.new-3.result;
    })
    (c.total.ensures ∙ c.requires.counted.total) (c.total-2.ensures ∙ c.requires.counted.total)
    c.in_ok-new.ensures c.in_ok-new-2.ensures c.new-3.ensures.none
    c.new-3.ensures.counted

pub put-requires-clause-lists : goal.put-requires-clause-lists
put-requires-clause-lists g c =
    let u = c.requires.lists.0 in
    let x = side_of c.get-side.result.now in
    side_lists None u x (IsSide-get (var u) (sides_of c.args.sides.now) c.loop-i.i x
    c.get-side.ensures c.requires.lists.1) c.len.ensures.items

pub put-requires-clause-starts : goal.put-requires-clause-starts
put-requires-clause-starts g c =
    (listing_room (sides_of c.args.sides.now) c.loop-i.i (side_of c.get-side.result.now)
    c.loop-i.maker c.get-side.ensures c.requires.lists c.loop-i.invariant).0

pub put-requires-clause-stops : goal.put-requires-clause-stops
put-requires-clause-stops g c =
    (listing_room (sides_of c.args.sides.now) c.loop-i.i (side_of c.get-side.result.now)
    c.loop-i.maker c.get-side.ensures c.requires.lists c.loop-i.invariant).1

pub loop-i-preserved : goal.loop-i-preserved
loop-i-preserved g c =
    listing_next (sides_of c.args.sides.now) c.loop-i.i (side_of c.get-side.result.now)
    c.loop-i.maker c.put.new.self c.get-side.ensures c.len.ensures.items c.in_ok-put.ensures
    c.loop-i.invariant

pub returns : goal.returns
returns g c =
    level_listed (sides_of c.args.sides.now) c.loop-i.i c.loop-i.maker
    (record {
      starts = c.finish.result;
      stops = c.finish-2.result;
      sides = c.loop-i.maker.sides;
    })
    (omega (arith, c.loop-i-test.false, c.len-i-end.ensures))
    (omega (arith, c.requires.counted.total, c.requires.counted.fits))
    (ap (λ (w : Column). w.kind) c.finish.ensures ∙ sym c.loop-i.invariant.starts_kind)
    (ap (λ (w : Column). w.items) c.finish.ensures)
    (ap (λ (w : Column). w.kind) c.finish-2.ensures ∙ sym c.loop-i.invariant.stops_kind)
    (ap (λ (w : Column). w.items) c.finish-2.ensures) refl
    c.loop-i.invariant
