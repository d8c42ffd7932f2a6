use Rattle.std.proofs.Common.{◌≡◌, Err, arith, sym, ap, ◌∙◌, subst}
use Rattle.awk_types.specs.Gives.{Told, refused_or}
use Rattle.awk_types.specs.Simple.{simple}
use Rattle.awk_types.proofs.RefusalLaws.{Told-first, Told-later, refused_or-Ok, refused_or-None}
use Rattle.awk_types.proofs.RefusalLaws.{or-None, Gives-Err}
use Rattle.serde_json.specs.View.{view}
use Rattle.awk_form.specs.FormType.{type_of}
use Rattle.awk_form.specs.Lawful.{IsLawful}
use Rattle.awk_form.specs.Reading.{first_break, passed_limit, form_of}
use Rattle.awk_form.specs.Told.{refusal_told, fault_of}
use Rattle.awk_form.specs.View.{form_of as made}
use Rattle.awk_form.proofs.LawfulReads.{lawful-read}
use Rattle.awk_form.proofs.Refusals.{told_limit, no_limit}
use Rattle.awk_form.proofs.read.read_typed_form.Goals as goal

pub type_of_form-requires : goal.type_of_form-requires
type_of_form-requires c =
    let read = refused_or-Ok _ _ _ c.in_ok-form.ensures.gives in
    subst IsLawful read.1 (lawful-read (view c.args.json.now) 0 read.0)

pub returns-in_err-form-clause-gives : goal.returns-in_err-form-clause-gives
returns-in_err-form-clause-gives c =
    let e = c.in_err-form.field-0.0 in
    let d = view c.args.json.now in
    let failed : c.from_residual.result ≡ Err e = grind arith in
    Gives-Err _ _ _ e _ failed
    (Told-first (refusal_told e) (first_break d) (passed_limit (form_of d)) _ (form_of d)
    c.in_err-form.ensures.gives)

pub returns-in_err-typ-clause-gives : goal.returns-in_err-typ-clause-gives
returns-in_err-typ-clause-gives c =
    let e = c.in_err-typ.field-0.0 in
    let d = view c.args.json.now in
    let f = made c.in_ok-form.form in
    let read = refused_or-Ok _ _ _ c.in_ok-form.ensures.gives in
    let failed : c.from_residual-in_err-typ.result ≡ Err (fault_of e) = grind arith in
    let told = told_limit e (simple (type_of f)) f c.in_err-typ.ensures in
    Gives-Err _ _ _ (fault_of e) _ failed
    (Told-later (refusal_told (fault_of e)) (first_break d) (passed_limit (form_of d)) f (form_of d)
    read.0
    (subst (λ g. Told (refusal_told (fault_of e)) (refused_or (passed_limit g) f)) (sym read.1)
    told))

pub returns-clause-gives : goal.returns-clause-gives
returns-clause-gives c =
    let d = view c.args.json.now in
    let f = made c.in_ok-form.form in
    let read = refused_or-Ok _ _ _ c.in_ok-form.ensures.gives in
    refused_or-None _ (form_of d) f
    (or-None (first_break d) (passed_limit (form_of d)) read.0 ∙ ap passed_limit read.1
    ∙ no_limit (simple (type_of f)) _ c.in_ok-typ.ensures)
    read.1

pub returns-clause-lawful : goal.returns-clause-lawful
returns-clause-lawful c =
    let read = refused_or-Ok _ _ _ c.in_ok-form.ensures.gives in
    subst IsLawful read.1 (lawful-read (view c.args.json.now) 0 read.0)
