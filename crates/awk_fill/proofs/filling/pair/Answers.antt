use Rattle.awk_types.specs.View.{typ_of}
use Rattle.awk_unify.specs.View.{lift_of}
use Rattle.awk_merge_sides.specs.Sides.{sides_of}
use Rattle.awk_fill.proofs.FillLaws.{pair_given}
use Rattle.awk_fill.proofs.filling.pair.Goals as goal

pub returns-in_ok-node-in-Ok : goal.returns-in_ok-node-in-Ok
returns-in_ok-node-in-Ok g c =
    pair_given c.args.x.now c.args.y.now c.in_ok-copy-in-Ok.field-0 c.in_ok-copy-in-Ok-2.field-0
    c.in_ok-node-in-Ok.node (typ_of c.typ.result.now) (typ_of c.typ-2.result.now)
    (typ_of c.in-Ok.made.typ) (lift_of c.in-Ok.made.left) (lift_of c.in-Ok.made.right)
    (sides_of c.new-sides.result) (sides_of c.push.new.self) (sides_of c.push-in-Ok.new.self)
    c.typ.ensures.typ c.typ-2.ensures.typ c.typ.ensures.lawful.is_type
    c.typ-2.ensures.lawful.is_type c.in-Ok.ensures.gives c.in-Ok.ensures.laws
    c.new-sides.ensures.none c.in_ok-copy-in-Ok.ensures c.in_ok-push-in-Ok.ensures.sides
    c.in_ok-copy-in-Ok-2.ensures c.in_ok-push-in-Ok-2.ensures.sides c.len.ensures.items
    c.len-2.ensures.items c.len-in-Ok.ensures.valid c.in_ok-node-in-Ok.ensures
