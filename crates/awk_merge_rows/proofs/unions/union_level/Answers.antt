use Rattle.std.proofs.Common.{take, arith}
use Rattle.awk_types.specs.View.{typs_of}
use Rattle.awk_merge_sides.specs.Sides.{side_of, sides_of, merged_items}
use Rattle.awk_merge_rows.proofs.UnionSides.{level-none, level-few, level-ready, level-next}
use Rattle.awk_merge_rows.proofs.UnionSides.{level-all}
use Rattle.awk_merge_rows.proofs.UnionSides.{level-tags, level-places, level-made}
use Rattle.awk_merge_rows.proofs.unions.union_level.Goals as goal

pub loop-i-init : goal.loop-i-init
loop-i-init g c =
    level-none (typs_of c.args.alternatives.now) c.args.sides.now.total c.len.result
    c.total.result c.total-2.result c.in_ok-groups.groups
    (record { tags = c.in_ok-new.field-0; index = c.in_ok-new-2.field-0 })
    c.in_ok-groups.ensures.groups c.len.ensures c.in_ok-groups.ensures.counted c.total.ensures
    c.total-2.ensures c.in_ok-new.ensures.begun c.in_ok-new-2.ensures.begun

pub put_side-requires-clause-few : goal.put_side-requires-clause-few
put_side-requires-clause-few g c =
    level-few (typs_of c.args.alternatives.now) c.args.sides.now.total
    (merged_items (take c.loop-i.i (sides_of c.args.sides.now))) c.loop-i.groups c.loop-i.made
    c.requires.lawful c.loop-i.invariant

pub put_side-requires-clause-ready : goal.put_side-requires-clause-ready
put_side-requires-clause-ready g c =
    level-ready (typs_of c.args.alternatives.now) c.args.sides.now.total
    (sides_of c.args.sides.now) c.loop-i.i (side_of c.get.result.now) c.loop-i.groups
    c.loop-i.made c.get.ensures c.requires.counted.total c.loop-i.invariant

pub loop-i-preserved : goal.loop-i-preserved
loop-i-preserved g c =
    level-next (typs_of c.args.alternatives.now) c.args.sides.now.total
    (sides_of c.args.sides.now) c.loop-i.i (side_of c.get.result.now) c.loop-i.groups
    c.put_side.new.groups c.loop-i.made c.put_side.new.made c.get.ensures c.requires.lawful
    c.requires.sides c.loop-i.invariant c.in_ok-put_side.ensures

pub finish-requires : goal.finish-requires
finish-requires g c =
    level-tags (typs_of c.args.alternatives.now) c.args.sides.now.total
    (sides_of c.args.sides.now) c.loop-i.groups c.loop-i.made c.requires.counted.total
    (level-all (typs_of c.args.alternatives.now) c.args.sides.now.total
    (sides_of c.args.sides.now) c.loop-i.i c.loop-i.groups c.loop-i.made (omega arith)
    c.loop-i.invariant)

pub finish-requires-2 : goal.finish-requires-2
finish-requires-2 g c =
    level-places (typs_of c.args.alternatives.now) c.args.sides.now.total
    (sides_of c.args.sides.now) c.loop-i.groups c.loop-i.made c.requires.counted.total
    (level-all (typs_of c.args.alternatives.now) c.args.sides.now.total
    (sides_of c.args.sides.now) c.loop-i.i c.loop-i.groups c.loop-i.made (omega arith)
    c.loop-i.invariant)

pub returns : goal.returns
returns g c =
    level-made (typs_of c.args.alternatives.now) c.args.sides.now.total
    (sides_of c.args.sides.now) c.loop-i.groups c.loop-i.made c.finish.result c.finish-2.result
    c.requires.counted.fits c.requires.counted.total
    (level-all (typs_of c.args.alternatives.now) c.args.sides.now.total
    (sides_of c.args.sides.now) c.loop-i.i c.loop-i.groups c.loop-i.made (omega arith)
    c.loop-i.invariant)
    c.finish.ensures.kind c.finish.ensures.items c.finish-2.ensures.kind c.finish-2.ensures.items
