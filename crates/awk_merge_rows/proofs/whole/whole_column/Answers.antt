use Rattle.std.proofs.Common.{◌≡◌, false, ap, sym, subst, ◌∙◌}
use Rattle.std.specs.Prelude.{None, IfOk, IfSome}
use Rattle.awk_types.specs.Limit.{limit}
use Rattle.awk_types.specs.Simple.{is_option}
use Rattle.awk_layout.specs.Typing.{array_type}
use Rattle.awk_merge_rows.specs.PresentLevels.{IsWhole}
use Rattle.awk_merge_rows.proofs.WholeLaws.{same_unmasked, whole_self}
use Rattle.awk_merge_rows.proofs.whole.whole_column.Goals as goal

pub returns-then-not-is_optional : goal.returns-then-not-is_optional
returns-then-not-is_optional c =
    let o : is_option (array_type c.args.column.now) ≡ false =
    sym (c.is_optional.ensures ∙ ap is_option c.typ.ensures.typ) ∙ c.if-not-is_optional.true in
    subst (IsWhole c.args.column.now) (sym c.in_ok-copy.ensures)
    (whole_self c.args.column.now o)

pub unmasked_items-requires : goal.unmasked_items-requires
unmasked_items-requires c =
    subst (λ x. limit (array_type x) ≡ None)
    (sym (same_unmasked c.args.column.now c.node.result.now c.in-Unmasked.content.now
    c.len.result c.node.ensures c.len.ensures.len
    c.in-Unmasked.ensures.class))
    c.typ.ensures.lawful.within_limits

pub returns-in-Unmasked : goal.returns-in-Unmasked
returns-in-Unmasked c =
    subst (λ x. IfOk c.unmasked_items.result (λ found. IfSome found (IsWhole x)))
    (same_unmasked c.args.column.now c.node.result.now c.in-Unmasked.content.now
    c.len.result c.node.ensures c.len.ensures.len
    c.in-Unmasked.ensures.class)
    c.unmasked_items.ensures
