use Rattle.std.proofs.Common.{sym, subst, ◌∙◌}
use Rattle.awk_types.specs.View.{typ_of}
use Rattle.awk_heights.specs.Low.{IsLowArray}
use Rattle.awk_heights.proofs.ArrayLaws.{made_array, made_typed}
use Rattle.awk_heights.proofs.low.rebuild.Goals as goal

pub with_type-requires : goal.with_type-requires
with_type-requires g c =
    made_typed c.args.x.now c.in_ok-node.node c.typ.ensures.lawful c.in_ok-node.ensures
    (typ_of c.in_ok-typ.typ) (c.in_ok-typ.ensures ∙ c.typ.ensures.typ)

pub returns : goal.returns
returns g c =
    subst (IsLowArray c.args.x.now) (sym c.with_type.ensures)
    (made_array c.args.x.now c.in_ok-node.node c.typ.ensures.lawful c.in_ok-node.ensures
    c.len.ensures.valid c.len.ensures.numbered)
