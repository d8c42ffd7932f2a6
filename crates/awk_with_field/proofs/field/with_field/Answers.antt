use Rattle.std.proofs.Common.{◌≡◌, ◌∙◌, ap, ap₂, sym, subst, true, false, arith}
use Rattle.std.specs.Prelude.{Err}
use Rattle.awk_types.specs.Datum.{datum_type}
use Rattle.awk_types.specs.Faults.{fault_told}
use Rattle.awk_types.specs.Gives.{Gives}
use Rattle.awk_types.specs.Simple.{IsSimple}
use Rattle.awk_types.proofs.RefusalLaws.{Gives-Err}
use Rattle.awk_layout.specs.Datum.{datum_of}
use Rattle.awk_layout.specs.Typing.{array_type}
use Rattle.awk_pair_operands.specs.First.{all_data}
use Rattle.awk_put_field.specs.Ends.{ends_at_records}
use Rattle.awk_with_field.specs.WithField.{is_wrong, with_field_of}
use Rattle.awk_with_field.proofs.RefusedLaws.{type-kept, wrong_answer, right-told}
use Rattle.awk_with_field.proofs.RefusedLaws.{both-are, two-are, same-answer}
use Rattle.awk_with_field.proofs.field.with_field.Goals as goal

pub returns-then-not-ends_at_records-clause-answer
    : goal.returns-then-not-ends_at_records-clause-answer
returns-then-not-ends_at_records-clause-answer g c =
    let x = c.args.x.now in
    let same : datum_type (datum_of x) ≡ array_type c.kept.result.now =
    type-kept x ∙ ap array_type (sym c.kept.ensures) in
    let wrong : ends_at_records (datum_type (datum_of x)) ≡ false =
    ap ends_at_records (same ∙ sym c.typ.ensures.typ) ∙ sym c.ends_at_records.ensures
    ∙ c.if-not-ends_at_records.true in
    wrong_answer c.args.name.now (datum_of x) (datum_of c.args.v.now)
    (subst IsSimple (sym same) c.typ.ensures.lawful.is_simple) wrong

pub beside-requires-clause-records : goal.beside-requires-clause-records
beside-requires-clause-records g c =
    let x = c.args.x.now in
    ap ends_at_records (type-kept x ∙ ap array_type (sym c.kept.ensures) ∙ sym c.typ.ensures.typ)
    ∙ sym c.ends_at_records.ensures ∙ c.if-not-ends_at_records.false

pub returns-in_err-beside-clause-answer : goal.returns-in_err-beside-clause-answer
returns-in_err-beside-clause-answer g c =
    let e = c.in_err-beside.field-0.0 in
    let failed : c.from_residual.result ≡ Err e = grind arith in
    Gives-Err datum_of fault_told c.from_residual.result e
    (with_field_of c.args.name.now (datum_of c.args.x.now) (datum_of c.args.v.now)) failed
    c.in_err-beside.ensures.fault

pub joined-requires-clause-two : goal.joined-requires-clause-two
joined-requires-clause-two g c =
    two-are c.in_ok-xs.xs (datum_of c.args.x.now) (datum_of c.in_ok-beside.beside)
    c.in_ok-xs.ensures

pub joined-requires-clause-records : goal.joined-requires-clause-records
joined-requires-clause-records g c =
    let x = c.args.x.now in
    let same : datum_type (datum_of x) ≡ array_type c.kept.result.now =
    type-kept x ∙ ap array_type (sym c.kept.ensures) in
    let right : ends_at_records (datum_type (datum_of x)) ≡ true =
    ap ends_at_records (same ∙ sym c.typ.ensures.typ) ∙ sym c.ends_at_records.ensures
    ∙ c.if-not-ends_at_records.false in
    ap₂ is_wrong c.levels_of.ensures
    (both-are (datum_of x) (datum_of c.args.v.now) (datum_of c.in_ok-beside.beside)
    (all_data c.in_ok-xs.xs) c.in_ok-xs.ensures c.in_ok-beside.ensures.datum)
    ∙ right-told (datum_of x) (datum_of c.args.v.now)
    (subst IsSimple (sym same) c.typ.ensures.lawful.is_simple) right

pub returns-clause-answer : goal.returns-clause-answer
returns-clause-answer g c =
    let x = datum_of c.args.x.now in
    let v = datum_of c.args.v.now in
    subst (λ said. Gives datum_of fault_told c.joined.result said)
    (same-answer c.args.name.now x v c.levels_of.result (all_data c.in_ok-xs.xs)
    c.levels_of.ensures
    (both-are x v (datum_of c.in_ok-beside.beside) (all_data c.in_ok-xs.xs) c.in_ok-xs.ensures
    c.in_ok-beside.ensures.datum)) c.joined.ensures.answer
