use Rattle.std.proofs.Common.{◌≡◌, ◌∙◌, Some, ap, sym, subst, map}
use Rattle.std.specs.Option.{option_map}
use Rattle.std.specs.Prelude.{⊤}
use Rattle.std.proofs.lemmas.Option.{MatchOption-at_some}
use Rattle.awk_types.specs.Faults.{fault_told}
use Rattle.awk_types.specs.Gives.{Gives}
use Rattle.awk_types.specs.View.{typ_of, typs_of}
use Rattle.awk_layout.specs.Datum.{datum_of}
use Rattle.awk_layout.specs.Typing.{array_datum}
use Rattle.awk_unify.specs.View.{all_of, lifts_of}
use Rattle.awk_merge_operands.specs.Concatenate.{operand_types}
use Rattle.awk_merge_operands.specs.Operands.{AreLawful, IsRowsType}
use Rattle.awk_merge_operands.proofs.AnswerLaws.{limit_gives, joined_is, none_joined, array_type_is}
use Rattle.awk_merge_operands.proofs.OperandLaws.{carried_operands}
use Rattle.awk_merge.proofs.RowTypeLaws.{joined_are_rows}
use Rattle.awk_merge.proofs.joining.joined_at.Goals as goal

pub unify_all-requires : goal.unify_all-requires
unify_all-requires g c =
    (MatchOption-at_some ⊤ (λ us. AreLawful (typs_of us)) c.in-Some.types c.in-Some.is
    c.in_ok-types.ensures.lawful).are_simple

pub returns-in_err-whole-in-Some : goal.returns-in_err-whole-in-Some
returns-in_err-whole-in-Some g c =
    let e : operand_types c.args.axis (map datum_of c.args.xs.now) ≡ Some (typs_of c.in-Some.types)
    =
    sym c.in_ok-types.ensures.types ∙ ap (option_map typs_of) c.in-Some.is in
    limit_gives c.args.axis c.args.xs.now (typs_of c.in-Some.types) e
    c.in_err-whole-in-Some.field-0.0
    c.from_residual-in_err-whole-in-Some.result c.from_residual-in_err-whole-in-Some.ensures.1
    c.in_err-whole-in-Some.ensures.gives

pub joined-requires-clause-lawful : goal.joined-requires-clause-lawful
joined-requires-clause-lawful g c =
    array_type_is (typs_of c.in-Some.types) (all_of c.in_ok-whole-in-Some.whole)
    (MatchOption-at_some ⊤ (λ us. AreLawful (typs_of us)) c.in-Some.types c.in-Some.is
    c.in_ok-types.ensures.lawful) c.in_ok-whole-in-Some.ensures.laws
    c.in_ok-whole-in-Some.ensures.within_limits

pub joined-requires-clause-carried : goal.joined-requires-clause-carried
joined-requires-clause-carried g c =
    let e : operand_types c.args.axis (map datum_of c.args.xs.now) ≡ Some (typs_of c.in-Some.types)
    =
    sym c.in_ok-types.ensures.types ∙ ap (option_map typs_of) c.in-Some.is in
    let lawful : AreLawful (typs_of c.in-Some.types) =
    MatchOption-at_some ⊤ (λ us. AreLawful (typs_of us)) c.in-Some.types c.in-Some.is
    c.in_ok-types.ensures.lawful in
    carried_operands c.args.axis c.args.xs.now (typs_of c.in-Some.types)
    (lifts_of c.in_ok-whole-in-Some.whole.lifts) (typ_of c.in_ok-whole-in-Some.whole.typ) e
    (c.in_ok-whole-in-Some.ensures.laws.values lawful.are_types lawful.are_simple)

pub joined-requires-clause-rows : goal.joined-requires-clause-rows
joined-requires-clause-rows g c =
    let e : operand_types c.args.axis (map datum_of c.args.xs.now) ≡ Some (typs_of c.in-Some.types)
    =
    sym c.in_ok-types.ensures.types ∙ ap (option_map typs_of) c.in-Some.is in
    λ h.
    subst (λ u. IsRowsType u.typ) (sym c.in_ok-whole-in-Some.ensures.laws.from_left)
    (joined_are_rows c.args.xs.now (typs_of c.in-Some.types) c.requires.some
    (subst (λ a. operand_types a (map datum_of c.args.xs.now) ≡ Some (typs_of c.in-Some.types)) h
    e))

pub returns-in_ok-whole-in-Some : goal.returns-in_ok-whole-in-Some
returns-in_ok-whole-in-Some g c =
    let e : operand_types c.args.axis (map datum_of c.args.xs.now) ≡ Some (typs_of c.in-Some.types)
    =
    sym c.in_ok-types.ensures.types ∙ ap (option_map typs_of) c.in-Some.is in
    subst (Gives array_datum fault_told c.joined.result)
    (joined_is c.args.axis c.args.xs.now (typs_of c.in-Some.types) e
    (typ_of c.in_ok-whole-in-Some.whole.typ) (lifts_of c.in_ok-whole-in-Some.whole.lifts)
    c.in_ok-whole-in-Some.ensures.gives) c.joined.ensures

pub returns-in-None : goal.returns-in-None
returns-in-None g c =
    none_joined c.args.axis c.args.xs.now
    (sym c.in_ok-types.ensures.types ∙ ap (option_map typs_of) c.in-None.is)
