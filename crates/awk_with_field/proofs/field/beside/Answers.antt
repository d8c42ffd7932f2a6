use Rattle.std.proofs.Common.{◌≡◌, sym, subst, arith}
use Rattle.std.specs.Prelude.{Err, IfErr}
use Rattle.awk_types.specs.Faults.{fault_told}
use Rattle.awk_types.specs.Gives.{Told}
use Rattle.awk_types.specs.View.{typ_of}
use Rattle.awk_layout.specs.Datum.{datum_of}
use Rattle.awk_with_field.specs.WithField.{with_field_of}
use Rattle.awk_with_field.proofs.RefusedLaws.{list-fault}
use Rattle.awk_with_field.proofs.field.beside.Goals as goal

pub returns-in_err-list-in-Arr-v-clause-fault : goal.returns-in_err-list-in-Arr-v-clause-fault
returns-in_err-list-in-Arr-v-clause-fault g c =
    let x = c.args.x.now in
    let v = c.args.v.now in
    let n = c.args.name.now in
    let e = c.in_err-list-in-Arr-v.field-0.0 in
    let said = with_field_of n (datum_of x) (datum_of v) in
    let failed : c.from_residual-in_err-list-in-Arr-v.result ≡ Err e = grind arith in
    subst (λ r. IfErr r (λ f. Told (fault_told f) said)) (sym failed)
    (list-fault n x v c.in-One.x c.in-Arr-v.v (typ_of c.typ.result.now) e c.in-One.is c.in-Arr-v.is
    c.typ.ensures.typ c.typ.ensures.lawful.is_simple c.requires.records
    c.in_err-list-in-Arr-v.ensures.fault)
