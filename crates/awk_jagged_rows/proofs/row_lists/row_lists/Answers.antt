use Rattle.std.specs.Prelude.{false}
use Rattle.std.proofs.Common.{◌≡◌, ap, sym, ◌∙◌}
use Rattle.awk_base.proofs.Results.{if_ok}
use Rattle.awk_types.specs.Simple.{is_option}
use Rattle.awk_layout.specs.Typing.{array_type}
use Rattle.awk_open.specs.Opened.{IsOpened}
use Rattle.awk_open.specs.declared.opening.Opened.{Opened}
use Rattle.awk_open.proofs.OnlyKinds.{only_option}
use Rattle.awk_jagged_rows.proofs.RowLaws.{rows-whole, rows-option}
use Rattle.awk_jagged_rows.proofs.row_lists.row_lists.Goals as goal

pub returns-then-not-is_optional : goal.returns-then-not-is_optional
returns-then-not-is_optional g c =
    let plain : is_option (array_type c.args.x.now) ≡ false =
    ap is_option (sym c.typ.ensures.typ) ∙ sym c.is_optional.ensures ∙ c.if-not-is_optional.true in
    if_ok _ _ c.lists_at.result
    (λ r h. rows-whole c.args.x.now r c.len.ensures.valid plain h) c.lists_at.ensures

pub returns : goal.returns
returns g c =
    let o : IsOpened c.args.x.now (Opened.Option c.in-Option.index c.in-Option.content) =
    rw c.in-Option.is at c.in_ok-index.ensures.opened in
    if_ok _ _ c.lists_at-in-Option.result
    (λ r h. rows-option c.args.x.now c.in-Option.content c.in-Option.index r o h)
    c.lists_at-in-Option.ensures

pub unreachable-requires : goal.unreachable-requires
unreachable-requires g c =
    only_option (array_type c.args.x.now) c.in_ok-index.field-0 c.in_ok-index.ensures.opened.kind
    (ap is_option (sym c.typ.ensures.typ) ∙ sym c.is_optional.ensures ∙ c.if-not-is_optional.false)
    c.in_default.not-Option
