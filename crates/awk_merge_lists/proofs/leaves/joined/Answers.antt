use Rattle.std.proofs.Common.{◌+◌, take, subst, sym}
use Rattle.awk_merge_sides.specs.Sides.{side_of, sides_of, merged_items}
use Rattle.awk_merge_lists.proofs.NumberLaws.{AreBytesOf, bytes_next}
use Rattle.awk_merge_lists.proofs.leaves.joined.Goals as goal

pub loop-i-preserved : goal.loop-i-preserved
loop-i-preserved g c =
    subst (AreBytesOf c.args.kind (merged_items
    (take (c.loop-i.i + 1) (sides_of c.args.sides.now))))
    (sym c.in_ok-extend_from_slice.ensures.items)
    (bytes_next c.args.kind (sides_of c.args.sides.now) c.loop-i.i (side_of c.get.result.now)
    c.in_ok-lane.lane c.loop-i.bytes.items c.in_ok-moved.moved.now c.get.ensures
    c.in_ok-lane.ensures.kind
    c.in_ok-lane.ensures.values c.in_ok-moved.ensures.numbers c.in_ok-moved.ensures.size
    c.loop-i.invariant)
