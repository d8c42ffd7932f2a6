use Rattle.std.proofs.Common.{◌≡◌, ap, sym, ◌∙◌, subst}
use Rattle.std.specs.Prelude.{false}
use Rattle.awk_base.proofs.Results.{if_ok}
use Rattle.awk_types.specs.Simple.{is_option}
use Rattle.awk_layout.specs.Typing.{array_type}
use Rattle.awk_open.specs.Opened.{IsOpened}
use Rattle.awk_open.specs.declared.opening.Opened.TheVariants.{Option as Optional}
use Rattle.awk_open.proofs.OnlyKinds.{only_option}
use Rattle.awk_nulls.specs.Lanes.{nulls_lane, falses_lane, AreNulls}
use Rattle.awk_nulls.proofs.NullLaws.{falses_are, nulls_are}
use Rattle.awk_nulls.proofs.nulls.nulls_of.Goals as goal

pub returns-then-not-is_optional : goal.returns-then-not-is_optional
returns-then-not-is_optional g c =
    let n : is_option (array_type c.args.x.now) ≡ false =
    sym (c.is_optional.ensures ∙ ap is_option c.typ.ensures.typ) ∙ c.if-not-is_optional.true in
    if_ok (λ r. r ≡ falses_lane c.len-n.result) (AreNulls c.args.x.now) c.falses.result
    (λ r e. subst (AreNulls c.args.x.now) (sym (e ∙ ap falses_lane c.len-n.ensures.len))
    (falses_are c.args.x.now c.len-n.ensures.valid n)) c.falses.ensures

pub returns : goal.returns
returns g c =
    let o : IsOpened c.args.x.now (Optional c.in-Option.index c.in-Option._content) =
    rw c.in-Option.is at c.in_ok-index.ensures.opened in
    if_ok (λ r. r ≡ nulls_lane c.in-Option.index) (AreNulls c.args.x.now) c.nulls.result
    (λ r e. subst (AreNulls c.args.x.now) (sym e)
    (nulls_are c.args.x.now c.in-Option._content c.in-Option.index o)) c.nulls.ensures

pub unreachable-requires : goal.unreachable-requires
unreachable-requires g c =
    only_option (array_type c.args.x.now) c.in_ok-index.field-0 c.in_ok-index.ensures.opened.kind
    (ap is_option (sym c.typ.ensures.typ) ∙ sym c.is_optional.ensures ∙ c.if-not-is_optional.false)
    c.in_default.not-Option
