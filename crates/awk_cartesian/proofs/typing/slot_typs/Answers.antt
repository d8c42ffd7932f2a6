use Rattle.std.proofs.Common.{◌≡◌, ◌++◌, ◌∷◌, [], ◌∙◌, Some, ap, sym, arith}
use Rattle.std.specs.Prelude.{⊤}
use Rattle.std.specs.Option.{option_map}
use Rattle.std.proofs.lemmas.Option.{MatchOption-at_some}
use Rattle.awk_types.specs.Simple.{IsSimple}
use Rattle.awk_types.specs.View.{typ_of, typs_of}
use Rattle.awk_layout.specs.Datum.{datum_of}
use Rattle.awk_combi.specs.Combinations.{slot_type}
use Rattle.awk_cartesian.specs.Cartesian.{operand_item}
use Rattle.awk_cartesian.proofs.TypeLaws.{types_next, types_none, types_last, simple_more}
use Rattle.awk_cartesian.proofs.typing.slot_typs.Goals as goal

pub loop-j-preserved : goal.loop-j-preserved
loop-j-preserved c =
    let t = typ_of c.in-Some.item.now in
    let some : Some t ≡ operand_item c.args.axis (datum_of c.get.result.now) =
    ap (option_map (λ u. typ_of u.now)) (sym c.in-Some.is) ∙ c.operand_item.ensures.typ in
    let more : typs_of c.push.new.self ≡ typs_of c.loop-j.types ++ slot_type c.args.places t ∷ [] =
    c.in_ok-push-in-Some.ensures.ok
    ∙ ap (λ u. typs_of c.loop-j.types ++ u ∷ []) c.in_ok-slot_typ-in-Some.ensures in
    record {
      types = types_next c.args.axis c.args.places c.args.xs.now c.loop-j.j c.get.result.now t
          (typs_of c.loop-j.types) (typs_of c.push.new.self) c.get.ensures.item some more
          c.loop-j.invariant.types;
      simple = simple_more c.args.places t (typs_of c.loop-j.types) (typs_of c.push.new.self) more
          (MatchOption-at_some ⊤ (λ u. IsSimple (typ_of u.now)) c.in-Some.item c.in-Some.is
          c.operand_item.ensures.simple) c.loop-j.invariant.simple;
    }

pub returns-in-None-clause-types : goal.returns-in-None-clause-types
returns-in-None-clause-types c =
    types_none c.args.axis c.args.places c.args.xs.now c.loop-j.j c.get.result.now
    (typs_of c.loop-j.types) c.get.ensures.item
    (ap (option_map (λ u. typ_of u.now)) (sym c.in-None.is) ∙ c.operand_item.ensures.typ)
    c.loop-j.invariant.types

pub returns-clause-types : goal.returns-clause-types
returns-clause-types c =
    types_last c.args.axis c.args.places c.args.xs.now c.loop-j.j (typs_of c.loop-j.types)
    (omega (arith, c.loop-j-test.false, c.len-j-end.ensures)) c.loop-j.invariant.types
