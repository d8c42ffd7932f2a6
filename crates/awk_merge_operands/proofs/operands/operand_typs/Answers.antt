use Rattle.std.proofs.Common.{◌≡◌, ◌∙◌, Some, ap, sym, arith}
use Rattle.std.specs.Prelude.{⊤}
use Rattle.std.specs.Option.{option_map}
use Rattle.std.proofs.lemmas.Option.{MatchOption-at_some}
use Rattle.awk_types.specs.IsType.{IsType}
use Rattle.awk_types.specs.Simple.{IsSimple}
use Rattle.awk_types.specs.View.{typ_of, typs_of}
use Rattle.awk_layout.specs.Datum.{datum_of}
use Rattle.awk_merge_operands.specs.Concatenate.{operand_type}
use Rattle.awk_merge_operands.proofs.OperandLaws.{types_next, types_none, types_last, lawful_more}
use Rattle.awk_merge_operands.proofs.operands.operand_typs.Goals as goal

pub loop-i-preserved : goal.loop-i-preserved
loop-i-preserved c =
    let some : Some (typ_of c.in-Some.typ) ≡ operand_type c.args.axis (datum_of c.get.result.now) =
    ap (option_map typ_of) (sym c.in-Some.is) ∙ c.in_ok-typ.ensures.typ in (
      types_next c.args.axis c.args.xs.now c.loop-i.i c.get.result.now (typ_of c.in-Some.typ)
          (typs_of c.loop-i.types) (typs_of c.push.new.self) _ c.get.ensures.item some
          c.in_ok-push-in-Some.ensures.ok c.loop-i.invariant.0,
      lawful_more (typs_of c.loop-i.types) (typs_of c.push.new.self) (typ_of c.in-Some.typ)
          c.in_ok-push-in-Some.ensures.ok
          (MatchOption-at_some ⊤ (λ t. IsType (typ_of t) × IsSimple (typ_of t)) c.in-Some.typ
          c.in-Some.is c.in_ok-typ.ensures.lawful)
          c.loop-i.invariant.1,
    )

pub returns-in-None-clause-types : goal.returns-in-None-clause-types
returns-in-None-clause-types c =
    types_none c.args.axis c.args.xs.now c.loop-i.i c.get.result.now (typs_of c.loop-i.types) _
    c.get.ensures.item (ap (option_map typ_of) (sym c.in-None.is) ∙ c.in_ok-typ.ensures.typ)
    c.loop-i.invariant.0

pub returns-clause-types : goal.returns-clause-types
returns-clause-types c =
    types_last c.args.axis c.args.xs.now c.loop-i.i (typs_of c.loop-i.types) _
    (omega (arith, c.loop-i-test.false, c.len-i-end.ensures)) c.loop-i.invariant.0
