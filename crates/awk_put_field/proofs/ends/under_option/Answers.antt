use Rattle.std.proofs.Common.{◌<◌, ◌^◌, ◌∙◌, ap, ap₂, sym, subst}
use Rattle.std.specs.Simd.Lanes.{zip2}
use Rattle.awk_types.specs.Parts.{is_record, names_of_fields}
use Rattle.awk_types.specs.Simple.{present}
use Rattle.awk_lanes.specs.Places.{size_of, IsOptionalIndex}
use Rattle.awk_layout.specs.Layout.{optional}
use Rattle.awk_layout.specs.Typing.{array_type, array_items}
use Rattle.awk_layout.specs.Valid.{len}
use Rattle.awk_open.specs.Opened.{IsOpened}
use Rattle.awk_open.specs.declared.opening.Opened.TheVariants.{Option as Optional}
use Rattle.awk_open.specs.InOrder.{IsInOrder}
use Rattle.awk_put_field.specs.Field.{field_value}
use Rattle.awk_put_field.proofs.OptionLaws.{index-kind, index-size, content-count, index-into}
use Rattle.awk_put_field.proofs.OptionLaws.{there-size, items-optional, type-optional}
use Rattle.awk_put_field.proofs.ends.under_option.Goals as goal

pub items_there-requires-clause-kind : goal.items_there-requires-clause-kind
items_there-requires-clause-kind g c =
    let i : IsInOrder (array_items c.args.records.now)
    (Optional c.args.index.now c.args.content.now) =
    c.requires.order in
    index-kind c.args.records.now c.args.content.now c.args.index.now i.0 i.1

pub items_there-requires-clause-count : goal.items_there-requires-clause-count
items_there-requires-clause-count g c =
    let i : IsInOrder (array_items c.args.records.now)
    (Optional c.args.index.now c.args.content.now) =
    c.requires.order in
    c.len.ensures.len
    ∙ content-count c.args.records.now c.args.content.now c.args.index.now i.0 i.1

pub items_there-requires-clause-long : goal.items_there-requires-clause-long
items_there-requires-clause-long g c =
    let i : IsInOrder (array_items c.args.records.now)
    (Optional c.args.index.now c.args.content.now) =
    c.requires.order in
    c.requires.long
    ∙ sym (index-size c.args.records.now c.args.content.now c.args.index.now i.0 i.1)

pub present_with-requires-clause-records : goal.present_with-requires-clause-records
present_with-requires-clause-records g c =
    let o : IsOpened c.args.records.now (Optional c.args.index.now c.args.content.now) =
    c.requires.opened in
    sym (ap (λ t. is_record (present t)) o.kind) ∙ c.requires.records

pub present_with-requires-clause-long : goal.present_with-requires-clause-long
present_with-requires-clause-long g c =
    let i : IsInOrder (array_items c.args.records.now)
    (Optional c.args.index.now c.args.content.now) =
    c.requires.order in
    there-size c.args.records.now c.args.content.now c.args.index.now i.0 i.1
    c.args.column.now c.in_ok-there.there c.requires.long
    (c.in_ok-there.ensures.items (array_items c.args.records.now) i.0)

pub indexed_option-requires-clause-length : goal.indexed_option-requires-clause-length
indexed_option-requires-clause-length g c =
    let o : IsOpened c.args.records.now (Optional c.args.index.now c.args.content.now) =
    c.requires.opened in
    subst (λ j. size_of j < 2 ^ 63) (sym c.copy.ensures) o.valid.0

pub indexed_option-requires-clause-valid : goal.indexed_option-requires-clause-valid
indexed_option-requires-clause-valid g c =
    let z = c.in_ok-boxed.boxed.value in
    let i : IsInOrder (array_items c.args.records.now)
    (Optional c.args.index.now c.args.content.now) =
    c.requires.order in
    subst (λ j. IsOptionalIndex j (len z)) (sym c.copy.ensures)
    (index-into c.args.records.now c.args.content.now c.args.index.now i.0 i.1 z
    (ap len c.in_ok-boxed.ensures.ok ∙ c.in_ok-present.ensures.size))

pub returns-clause-typ : goal.returns-clause-typ
returns-clause-typ g c =
    let x = c.args.records.now in
    let y = c.args.content.now in
    let j = c.args.index.now in
    let o : IsOpened x (Optional j y) = c.requires.opened in
    ap array_type (c.indexed_option.ensures.node
    ∙ ap₂ optional c.copy.ensures c.in_ok-boxed.ensures.ok)
    ∙ type-optional c.args.name.now x y c.args.column.now c.in_ok-there.there
    c.in_ok-present.present j o.kind
    (sym (ap (λ t. is_record (present t)) o.kind) ∙ c.requires.records)
    c.in_ok-there.ensures.typ c.in_ok-present.ensures.typ

pub returns-clause-items : goal.returns-clause-items
returns-clause-items g c =
    let x = c.args.records.now in
    let y = c.args.content.now in
    let j = c.args.index.now in
    let v = c.args.column.now in
    let n = c.args.name.now in
    let o : IsOpened x (Optional j y) = c.requires.opened in
    let i : IsInOrder (array_items x) (Optional j y) = c.requires.order in
    ap array_items (c.indexed_option.ensures.node
    ∙ ap₂ optional c.copy.ensures c.in_ok-boxed.ensures.ok)
    ∙ items-optional x y j i.0 i.1 v c.in_ok-there.there c.requires.long
    (c.in_ok-there.ensures.items (array_items x) i.0) n (names_of_fields (array_type y))
    c.in_ok-present.present c.in_ok-present.ensures.items
    ∙ ap (λ t. zip2 (field_value n (names_of_fields (present t))) (array_items x) (array_items v))
    (sym o.kind)

pub returns-clause-size : goal.returns-clause-size
returns-clause-size g c =
    let x = c.args.records.now in
    let y = c.args.content.now in
    let j = c.args.index.now in
    let i : IsInOrder (array_items x) (Optional j y) = c.requires.order in
    ap len c.indexed_option.ensures.node ∙ ap size_of c.copy.ensures
    ∙ index-size x y j i.0 i.1
