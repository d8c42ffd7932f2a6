use Rattle.std.proofs.Common.{◌≡◌, false, true, None, Some, ap, sym, ◌∙◌, subst}
use Rattle.std.specs.Prelude.{is_some}
use Rattle.awk_base.proofs.Results.{if_ok}
use Rattle.awk_types.specs.Parts.{list_item}
use Rattle.awk_types.specs.Simple.{is_option}
use Rattle.awk_layout.specs.Typing.{array_type, array_items}
use Rattle.awk_layout.specs.Valid.{len}
use Rattle.awk_gather.specs.Arrays.{array_item}
use Rattle.awk_merge_operands.specs.Operands.{values_by, IsListIndex}
use Rattle.awk_cartesian.specs.Cartesian.{rows_item}
use Rattle.awk_cartesian.specs.Sources.{IsOpened}
use Rattle.awk_cartesian.proofs.OpeningLaws.{plain_item, plain_opened, option_item, option_index}
use Rattle.awk_cartesian.proofs.OpeningLaws.{option_opened}
use Rattle.awk_cartesian.proofs.opening.rows_source.Goals as goal

pub indexed_source-requires-clause-lists : goal.indexed_source-requires-clause-lists
indexed_source-requires-clause-lists g c =
    let x = c.args.x.now in
    let e : is_option (array_type x) ≡ false =
    ap is_option (sym c.typ.ensures.typ) ∙ sym c.is_optional.ensures ∙ c.if-not-is_optional.true in
    ap is_some (plain_item (array_type x) e) ∙ c.requires.lists

pub indexed_source-requires-clause-index : goal.indexed_source-requires-clause-index
indexed_source-requires-clause-index g c = c.len-n.ensures.len

pub returns-then-not-is_optional : goal.returns-then-not-is_optional
returns-then-not-is_optional g c =
    let x = c.args.x.now in
    let e : is_option (array_type x) ≡ false =
    ap is_option (sym c.typ.ensures.typ) ∙ sym c.is_optional.ensures ∙ c.if-not-is_optional.true in
    if_ok
    (IsOpened (values_by None c.len-n.result (array_item x)) (list_item (array_type x)) false)
    (IsOpened (array_items x) (rows_item (array_type x)) (is_option (array_type x)))
    c.indexed_source.result
    (λ r a. plain_opened x r e
    (subst (λ n. IsOpened (values_by None n (array_item x)) (list_item (array_type x)) false r)
    c.len-n.ensures.len a)) c.indexed_source.ensures

pub opened_option-requires : goal.opened_option-requires
opened_option-requires g c =
    ap is_option (sym c.typ.ensures.typ) ∙ sym c.is_optional.ensures ∙ c.if-not-is_optional.false

pub indexed_source-requires-2-clause-lists : goal.indexed_source-requires-2-clause-lists
indexed_source-requires-2-clause-lists g c =
    let w = c.in_ok-rows.rows in
    ap is_some (option_item w.index w.content c.args.x.now c.in_ok-rows.ensures) ∙ c.requires.lists

pub indexed_source-requires-2-clause-index : goal.indexed_source-requires-2-clause-index
indexed_source-requires-2-clause-index g c =
    let w = c.in_ok-rows.rows in
    subst (λ n. IsListIndex (Some w.index) n (len w.content)) (sym c.len-n.ensures.len)
    (option_index w.index w.content c.args.x.now c.in_ok-rows.ensures)

pub returns : goal.returns
returns g c =
    let x = c.args.x.now in
    let w = c.in_ok-rows.rows in
    if_ok
    (IsOpened (values_by (Some w.index) c.len-n.result (array_item w.content))
    (list_item (array_type w.content)) true)
    (IsOpened (array_items x) (rows_item (array_type x)) (is_option (array_type x)))
    c.indexed_source-2.result
    (λ r a. option_opened w.index w.content x c.in_ok-rows.ensures r
    (subst (λ n. IsOpened (values_by (Some w.index) n (array_item w.content))
    (list_item (array_type w.content)) true r) c.len-n.ensures.len a))
    c.indexed_source-2.ensures
