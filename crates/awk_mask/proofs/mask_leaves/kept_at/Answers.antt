use Rattle.std.proofs.Common.{ap, sym, ◌∙◌}
use Rattle.awk_layout.specs.Item.{agrees}
use Rattle.awk_gather.specs.Peeled.{if_shown}
use Rattle.awk_mask.proofs.MaskLeaves.{truth_byte}
use Rattle.awk_mask.proofs.mask_leaves.kept_at.Goals as goal

pub returns-clause-number : goal.returns-clause-number
returns-clause-number c =
    c.place_if.ensures.number
    ∙ ap (λ b. if_shown b c.args.place) (c.is_kept-shown.ensures
    ∙ ap (agrees c.args.keep) (sym (truth_byte c.args.bytes.now c.args.k c.requires.within)))
