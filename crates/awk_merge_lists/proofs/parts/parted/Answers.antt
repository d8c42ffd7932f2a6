use Rattle.awk_merge_sides.specs.Sides.{side_of, sides_of}
use Rattle.awk_merge_lists.proofs.PartedLaws.{parted-next}
use Rattle.awk_merge_lists.proofs.parts.parted.Goals as goal

pub loop-i-preserved : goal.loop-i-preserved
loop-i-preserved g c =
    parted-next (sides_of c.args.sides.now) c.loop-i.i (side_of c.get.result.now) c.loop-i.made
    c.put_parts.new.made c.get.ensures c.in_ok-put_parts.ensures.put
    c.in_ok-put_parts.ensures.counted c.loop-i.invariant
