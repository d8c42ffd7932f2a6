use Rattle.std.proofs.Common.{arith, ap, ◌∙◌}
use Rattle.std.specs.Prelude.{Some}
use Rattle.awk_types.specs.DataType.{reg}
use Rattle.awk_merge_sides.specs.Sides.{side_of, sides_of, with_side}
use Rattle.awk_merge_lists.proofs.CarriedLists.{side_lists}
use Rattle.awk_merge_lists.proofs.RegularLaws.{filled_none, filled_next, level_filled}
use Rattle.awk_merge_sides.proofs.SideLaws.{IsSide-get}
use Rattle.awk_merge_lists.proofs.lists.part_level.Goals as goal

pub loop-i-init : goal.loop-i-init
loop-i-init g c =
    filled_none (sides_of c.args.sides.now) c.new-items.result c.new-items.ensures.none
    c.new-items.ensures.counted

pub items_of-requires : goal.items_of-requires
items_of-requires g c =
    let n = c.requires.lists.0 in
    let u = c.requires.lists.1.0 in
    let x = side_of c.get-side.result.now in
    side_lists (Some n) u x (IsSide-get (reg n u) (sides_of c.args.sides.now) c.loop-i.i x
    c.get-side.ensures c.requires.lists.1.1) c.len.ensures.items

pub loop-i-preserved : goal.loop-i-preserved
loop-i-preserved g c =
    filled_next (sides_of c.args.sides.now) c.loop-i.i (side_of c.get-side.result.now)
    c.in_ok-content.content c.loop-i.items c.push.new.self c.get-side.ensures
    c.len.ensures.items c.in_ok-content.ensures (c.in_ok-push.ensures.sides
    ∙ ap (λ f. with_side (sides_of c.loop-i.items) c.in_ok-content.content f)
    c.in_ok-items_lift.ensures) c.in_ok-push.ensures.counted c.loop-i.invariant

pub returns : goal.returns
returns g c =
    level_filled (sides_of c.args.sides.now) c.loop-i.i c.loop-i.items
    (omega (arith, c.loop-i-test.false, c.len-i-end.ensures)) c.loop-i.invariant
