use Rattle.std.proofs.Common.{ap, subst, ◌∙◌}
use Rattle.awk_layout.specs.Typing.{array_type, array_items}
use Rattle.awk_form.specs.View.{form_of}
use Rattle.awk_pack.specs.Packing.{IsPut}
use Rattle.awk_pack.specs.PackedForm.{packed_form}
use Rattle.awk_pack.proofs.CanonLaws.{canon-packed}
use Rattle.awk_pack.proofs.LawfulForms.{lawful-form}
use Rattle.awk_pack.proofs.packing.pack.Goals as goal

pub returns-clause-packed : goal.returns-clause-packed
returns-clause-packed g c =
    let x = c.args.x.now in
    canon-packed x (form_of c.in_ok-form.form) c.put_lanes.new.lanes c.len.result
    (c.in_ok-form.ensures ∙ ap (packed_form 0) c.typ.ensures.typ)
    (subst (λ cs. IsPut (array_type x) (array_items x) cs c.put_lanes.new.lanes) c.new-lanes.ensures
    c.in_ok-put_lanes.ensures.put) c.len.ensures.len

pub returns-clause-lawful : goal.returns-clause-lawful
returns-clause-lawful g c =
    let a = c.typ.ensures.lawful in
    lawful-form (array_type c.args.x.now) (form_of c.in_ok-form.form)
    (c.in_ok-form.ensures ∙ ap (packed_form 0) c.typ.ensures.typ) a.is_type a.within_limits
