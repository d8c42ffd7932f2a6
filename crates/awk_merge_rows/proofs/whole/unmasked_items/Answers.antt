use Rattle.std.proofs.Common.{◌≡◌, false, arith, ap, sym, subst, ◌∙◌}
use Rattle.awk_types.specs.Simple.{is_option}
use Rattle.awk_layout.specs.Layout.{unmasked}
use Rattle.awk_layout.specs.Typing.{array_type}
use Rattle.awk_layout.specs.Valid.{len}
use Rattle.awk_merge_rows.specs.PresentLevels.{IsWhole}
use Rattle.awk_merge_rows.proofs.WholeLaws.{content_limit, whole_unmasked}
use Rattle.awk_merge_rows.proofs.whole.unmasked_items.Goals as goal

pub of_node-requires : goal.of_node-requires
of_node-requires c =
    rw c.in_ok-copy.ensures (content_limit (array_type c.args.content.now) c.requires)

pub returns : goal.returns
returns c =
    let e : c.in_ok-items.items ≡ c.args.content.now
    = c.in_ok-items.ensures ∙ c.in_ok-copy.ensures in
    let size : len c.args.content.now ≡ c.args.n =
    sym c.len.ensures.len ∙ grind (arith, c.if-len-n.false) in
    let o : is_option (array_type c.in_ok-items.items) ≡ false =
    ap is_option (sym c.typ.ensures.typ) ∙ sym c.if-is_optional.ensures in
    subst (IsWhole (unmasked c.args.n c.args.content.now)) (sym e)
    (whole_unmasked c.args.n c.args.content.now size
    (subst (λ y. is_option (array_type y) ≡ false) e o))
