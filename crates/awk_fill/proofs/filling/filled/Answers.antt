use Rattle.std.proofs.Common.{◌≡◌, None, ap, sym, subst, ◌∙◌}
use Rattle.std.specs.Prelude.{false}
use Rattle.awk_base.proofs.Results.{if_ok}
use Rattle.awk_types.specs.Simple.{is_option}
use Rattle.awk_layout.specs.Filler.{filler_of}
use Rattle.awk_layout.specs.Typing.{array_type}
use Rattle.awk_fill.specs.Filled.{IsFilled, IsFilledOption}
use Rattle.awk_fill.specs.FillNone.{filler_refusal}
use Rattle.awk_fill.proofs.FillLaws.{filled_plain, filled_opened, opened_plain}
use Rattle.awk_fill.proofs.filling.filled.Goals as goal

pub returns-then-not-is_optional : goal.returns-then-not-is_optional
returns-then-not-is_optional g c =
    let f = filler_of c.args.value.now in
    let x = c.args.x.now in
    let n : is_option (array_type x) ≡ false =
    sym (c.is_optional.ensures ∙ ap is_option c.typ.ensures.typ) ∙ c.if-not-is_optional.true in
    if_ok (λ y. y ≡ c.node.result.now) (IsFilled f x) c.copy.result
    (λ y e. subst (IsFilled f x) (sym (e ∙ c.node.ensures))
    (filled_plain f x c.len.ensures.valid c.len.ensures.items n)) c.copy.ensures

pub filled_option-requires-clause-accepted : goal.filled_option-requires-clause-accepted
filled_option-requires-clause-accepted g c =
    subst (λ t. filler_refusal (filler_of c.args.value.now) t ≡ None) c.in_ok-parts.ensures.typ
    c.requires.accepted

pub filled_option-requires-clause-fits : goal.filled_option-requires-clause-fits
filled_option-requires-clause-fits g c = c.in_ok-parts.ensures.fits

pub filled_option-requires-clause-index : goal.filled_option-requires-clause-index
filled_option-requires-clause-index g c = c.in_ok-parts.ensures.index

pub filled_option-requires-clause-plain : goal.filled_option-requires-clause-plain
filled_option-requires-clause-plain g c =
    opened_plain c.in_ok-parts.parts.index c.in_ok-parts.parts.content c.args.x.now
    c.in_ok-parts.ensures

pub returns : goal.returns
returns g c =
    let f = filler_of c.args.value.now in
    if_ok (IsFilledOption f c.in_ok-parts.parts.index c.in_ok-parts.parts.content)
    (IsFilled f c.args.x.now) c.filled_option.result
    (λ w h. filled_opened f c.in_ok-parts.parts.index c.in_ok-parts.parts.content c.args.x.now w
    c.in_ok-parts.ensures h)
    c.filled_option.ensures
