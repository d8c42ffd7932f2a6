use Rattle.std.proofs.Common.{ap, subst, sym, ◌∙◌}
use Rattle.awk_types.specs.View.{typ_of}
use Rattle.awk_layout.specs.Datum.{first_item}
use Rattle.awk_layout.specs.Typing.{array_type}
use Rattle.awk_unify.proofs.Views.{lift_of-Same}
use Rattle.awk_merge_sides.specs.Sides.{sides_of, with_side}
use Rattle.awk_fill.specs.Filled.{IsFirst}
use Rattle.awk_fill.proofs.FillLaws.{twice_first}
use Rattle.awk_fill.proofs.filling.twice.Goals as goal

pub returns : goal.returns
returns g c =
    subst (IsFirst (array_type c.args.x.now) (first_item c.args.x.now)) (sym c.with_type.ensures)
    (twice_first c.args.x.now c.in_ok-copy.field-0 c.in_ok-copy-2.field-0 c.in_ok-node.node
    (typ_of c.typ.result.now) (sides_of c.new-sides.result) (sides_of c.push.new.self)
    (sides_of c.push-2.new.self) c.new-sides.ensures.none c.in_ok-copy.ensures
    (c.in_ok-push.ensures.sides
    ∙ ap (with_side (sides_of c.new-sides.result) c.in_ok-copy.field-0) lift_of-Same)
    c.in_ok-copy-2.ensures
    (c.in_ok-push-2.ensures.sides
    ∙ ap (with_side (sides_of c.push.new.self) c.in_ok-copy-2.field-0) lift_of-Same)
    c.typ.ensures.typ c.requires c.in_ok-node.ensures)
