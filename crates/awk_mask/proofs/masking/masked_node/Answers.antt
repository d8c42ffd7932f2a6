use Rattle.std.proofs.Common.{ap, sym, ◌∙◌, subst}
use Rattle.awk_types.specs.Faults.{fault_told}
use Rattle.awk_types.specs.Gives.{Gives}
use Rattle.awk_layout.specs.Typing.{array_type, array_datum}
use Rattle.awk_mask_pairs.specs.MaskTypes.{has_ones}
use Rattle.awk_mask_pairs.specs.MaskValues.{masks}
use Rattle.awk_mask_pairs.proofs.UnsizedLaws.{ones-unsized, masks-unsized}
use Rattle.awk_mask.proofs.MaskFaults.{masked-unsized}
use Rattle.awk_mask.proofs.masking.masked_node.Goals as goal

pub paired_mask-requires-clause-sized : goal.paired_mask-requires-clause-sized
paired_mask-requires-clause-sized g c =
    ap has_ones (sym c.typ.ensures.typ) ∙ sym c.has_ones.ensures ∙ c.if-not-has_ones.true

pub paired_mask-requires-2-clause-masks : goal.paired_mask-requires-2-clause-masks
paired_mask-requires-2-clause-masks g c =
    ap (λ w. masks w (array_type c.args.x.now)) c.in_ok-mask.ensures.typ
    ∙ masks-unsized (array_type c.args.m.now) (array_type c.args.x.now) ∙ c.requires

pub paired_mask-requires-2-clause-sized : goal.paired_mask-requires-2-clause-sized
paired_mask-requires-2-clause-sized g c =
    ap has_ones c.in_ok-mask.ensures.typ ∙ ones-unsized (array_type c.args.m.now)

pub returns : goal.returns
returns g c =
    subst (Gives array_datum fault_told c.paired_mask-2.result)
    (masked-unsized c.args.keep c.args.m.now c.args.x.now c.in_ok-mask.mask
    c.in_ok-mask.ensures.typ c.in_ok-mask.ensures.items) c.paired_mask-2.ensures
