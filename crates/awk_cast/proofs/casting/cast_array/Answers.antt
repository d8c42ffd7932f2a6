use Rattle.std.proofs.Common.{sym, subst}
use Rattle.std.specs.Prelude.{Ok}
use Rattle.awk_cast.specs.Casting.{IsMade}
use Rattle.awk_cast.proofs.ArrayLaws.{made_array, made_limit}
use Rattle.awk_cast.proofs.casting.cast_array.Goals as goal

pub of_node-requires : goal.of_node-requires
of_node-requires g c =
    made_limit c.args.to c.args.x.now c.in_ok-node.node c.typ.ensures.lawful c.in_ok-node.ensures.1

pub returns : goal.returns
returns g c =
    let p = c.args.to in
    let x = c.args.x.now in
    let cast = c.in_ok-node.ensures in
    subst (λ y. IsMade p x (Ok y)) (sym c.in_ok-of_node.ensures) (
      cast.0,
      made_array p x c.in_ok-node.node c.typ.ensures.lawful cast.1 c.len.ensures.valid
          c.len.ensures.numbered,
    )
