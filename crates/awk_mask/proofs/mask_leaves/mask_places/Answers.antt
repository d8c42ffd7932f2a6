use Rattle.std.specs.Prelude.{false}
use Rattle.std.proofs.Common.{◌≡◌, ap, sym, ◌∙◌, subst}
use Rattle.awk_types.specs.Simple.{is_option}
use Rattle.awk_layout.specs.Typing.{array_type}
use Rattle.awk_mask.specs.MaskLeaves.{AreKept}
use Rattle.awk_mask.proofs.MaskLeaves.{bare_mask, truths_kept}
use Rattle.awk_mask.proofs.mask_leaves.mask_places.Goals as goal

pub truths_of-requires : goal.truths_of-requires
truths_of-requires g c =
    let bare : is_option (array_type c.args.m.now) ≡ false =
    ap is_option (sym c.typ.ensures.typ) ∙ sym c.is_optional.ensures ∙ c.if-is_optional.false in
    record { mask = bare_mask (array_type c.args.m.now) bare c.requires.mask }

pub returns : goal.returns
returns g c =
    subst (AreKept c.args.m.now c.args.keep) (sym c.in_ok-places.ensures)
    (truths_kept c.args.m.now c.args.keep c.in_ok-truths.truths c.in_ok-truths.ensures)
