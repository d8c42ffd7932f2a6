use Rattle.std.proofs.Common.{◌≡◌, ◌∙◌, ap, sym, subst, false}
use Rattle.std.specs.Prelude.{IfOk}
use Rattle.std.specs.Simd.Lanes.{zip2}
use Rattle.awk_types.specs.Parts.{is_record, names_of_fields}
use Rattle.awk_types.specs.Simple.{is_option}
use Rattle.awk_types.proofs.SimpleLaws.{present_stays}
use Rattle.awk_layout.specs.Typing.{array_type, array_items}
use Rattle.awk_put_field.specs.Field.{field_value}
use Rattle.awk_put_field.proofs.ends.with_column.Goals as goal

pub present_with-requires-clause-records : goal.present_with-requires-clause-records
present_with-requires-clause-records g c =
    let t = array_type c.args.records.now in
    let bare : is_option t ≡ false =
    ap is_option (sym c.typ.ensures.typ) ∙ sym c.is_optional.ensures ∙ c.if-is_optional.false in
    ap is_record (sym (present_stays t bare)) ∙ c.requires.records

pub returns-else-is_optional-clause-items : goal.returns-else-is_optional-clause-items
returns-else-is_optional-clause-items g c =
    let t = array_type c.args.records.now in
    let bare : is_option t ≡ false =
    ap is_option (sym c.typ.ensures.typ) ∙ sym c.is_optional.ensures ∙ c.if-is_optional.false in
    subst (λ u. IfOk c.present_with.result (λ y. array_items y
    ≡ zip2 (field_value c.args.name.now (names_of_fields u)) (array_items c.args.records.now)
    (array_items c.args.column.now))) (sym (present_stays t bare)) c.present_with.ensures.items
