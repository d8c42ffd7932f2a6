use Rattle.std.proofs.Common.{◌≡◌, ◌∙◌, ap, subst, Some}
use Rattle.std.specs.Simd.Lanes.{zip2}
use Rattle.awk_base.proofs.Results.{if_ok}
use Rattle.awk_layout.specs.Contents.{count-layouts_from}
use Rattle.awk_layout.specs.Typing.{array_type, array_items}
use Rattle.awk_open.specs.Opens.{Opens, OpensRow}
use Rattle.awk_open.specs.declared.opening.Opened.TheVariants.{Row}
use Rattle.awk_types.specs.Parts.{names_of_fields}
use Rattle.awk_put_field.specs.Field.{field_type, field_value}
use Rattle.awk_put_field.proofs.RowLaws.{made, items-made, type-made}
use Rattle.awk_put_field.proofs.ends.present_with.Goals as goal

pub records_of-requires-clause-names : goal.records_of-requires-clause-names
records_of-requires-clause-names g c =
    let r : Opens c.args.records.now (Row c.in-Row.names c.in-Row.columns) =
    rw c.in-Row.is at c.in_ok-names.ensures in
    let o : OpensRow (Some c.in-Some.names) c.in-Row.columns c.args.records.now =
    subst (λ m. OpensRow m c.in-Row.columns c.args.records.now) c.in-Some.is r in
    (o.are_names.0 ∙ count-layouts_from c.in-Row.columns, o.are_names.1)

pub returns-clause-typ : goal.returns-clause-typ
returns-clause-typ g c =
    let x = c.args.records.now in
    let v = c.args.column.now in
    let n = c.args.name.now in
    let r : Opens x (Row c.in-Row.names c.in-Row.columns) =
    rw c.in-Row.is at c.in_ok-names.ensures in
    let o : OpensRow (Some c.in-Some.names) c.in-Row.columns x =
    subst (λ m. OpensRow m c.in-Row.columns x) c.in-Some.is r in
    if_ok (λ y. y ≡ made n c.in-Some.names c.len-n.result v x c.in-Row.columns o)
    (λ y. array_type y ≡ field_type n (array_type x) (array_type v)) c.records_of.result
    (λ y e. ap array_type e
    ∙ type-made n c.in-Some.names c.len-n.result v x c.in-Row.columns o) c.records_of.ensures

pub returns-clause-items : goal.returns-clause-items
returns-clause-items g c =
    let x = c.args.records.now in
    let v = c.args.column.now in
    let n = c.args.name.now in
    let r : Opens x (Row c.in-Row.names c.in-Row.columns) =
    rw c.in-Row.is at c.in_ok-names.ensures in
    let o : OpensRow (Some c.in-Some.names) c.in-Row.columns x =
    subst (λ m. OpensRow m c.in-Row.columns x) c.in-Some.is r in
    if_ok (λ y. y ≡ made n c.in-Some.names c.len-n.result v x c.in-Row.columns o)
    (λ y. array_items y
    ≡ zip2 (field_value n (names_of_fields (array_type x))) (array_items x) (array_items v))
    c.records_of.result
    (λ y e. ap array_items e
    ∙ items-made n c.in-Some.names c.len-n.result v x c.in-Row.columns o c.len-n.ensures.len
    c.requires.long) c.records_of.ensures
