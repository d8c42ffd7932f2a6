use Rattle.std.proofs.Common.{◌≡◌, ◌∙◌, ap, sym, subst}
use Rattle.awk_types.specs.Gives.{Told}
use Rattle.awk_types.specs.Datum.{arr, one}
use Rattle.awk_types.specs.Limit.{limit_told}
use Rattle.awk_types.specs.View.{typ_of}
use Rattle.awk_layout.specs.Array.{array_of}
use Rattle.awk_layout.specs.Typing.{array_type, array_items}
use Rattle.awk_layout.specs.Valid.{len}
use Rattle.awk_put_field.specs.Depths.{list_told}
use Rattle.awk_with_field.specs.WithField.{with_field_of}
use Rattle.awk_with_field.proofs.RefusedLaws.{one_datum, list_refused}
use Rattle.awk_with_field.proofs.field.list_beside.Goals as goal

pub returns-in-Ok-clause-datum : goal.returns-in-Ok-clause-datum
returns-in-Ok-clause-datum g c =
    let v = c.args.v.now in
    let same : c.in-Ok.list ≡ c.in_ok-list.list = c.in-Ok.ensures.node in
    one_datum v c.in-Ok.list (array_type v) (ap array_type same ∙ c.in_ok-list.ensures.typ)
    (ap array_items same ∙ c.in_ok-list.ensures.items) (ap len same ∙ c.in_ok-list.ensures.size)

pub returns-in-Ok-clause-one : goal.returns-in-Ok-clause-one
returns-in-Ok-clause-one g c =
    let same : c.in-Ok.list ≡ c.in_ok-list.list = c.in-Ok.ensures.node in
    ap len same ∙ c.in_ok-list.ensures.size

pub returns-in-Err-clause-fault : goal.returns-in-Err-clause-fault
returns-in-Err-clause-fault g c =
    λ w ws s r.
    let n = c.args.name.now in
    let t = typ_of c.args.t.now in
    let u = array_type c.args.v.now in
    let y = c.in_ok-list.list in
    let said = with_field_of n (one t w) (arr u ws) in
    let told : Told (limit_told c.in-Err.fault) (array_of y) =
    c.in-Err.ensures.gives in
    subst (λ o. Told o said)
    (sym (c.list_fault.ensures ∙ ap (λ k. list_told n t k c.in-Err.fault) c.typ.ensures.typ))
    (list_refused n t u w ws c.in-Err.fault y c.in_ok-list.ensures.typ
    c.typ.ensures.lawful.within_limits told s r)
