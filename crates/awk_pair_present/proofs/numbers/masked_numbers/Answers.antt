use Rattle.awk_layout.specs.Layout.{flat, byte_masked}
use Rattle.awk_pair_present.proofs.MaskedNumbers.{masked_opened}
use Rattle.awk_pair_present.proofs.numbers.masked_numbers.Goals as goal

pub mask_index-index-requires-clause-kind : goal.mask_index-index-requires-clause-kind
mask_index-index-requires-clause-kind g c = c.requires.valid.1.kind

pub mask_index-index-requires-clause-small : goal.mask_index-index-requires-clause-small
mask_index-index-requires-clause-small g c = c.requires.valid.0

pub present_numbers-requires : goal.present_numbers-requires
present_numbers-requires g c = record {
  valid =
      (masked_opened c.args.mask.now c.args.lane.now c.mask_index-index.result c.args.valid_when
      c.requires.valid c.mask_index-index.ensures).valid;
}

pub returns-clause-opened : goal.returns-clause-opened
returns-clause-opened g c =
    c.present_numbers.ensures.opened
    (byte_masked c.args.mask.now c.args.valid_when (flat c.args.lane.now))
    (masked_opened c.args.mask.now c.args.lane.now c.mask_index-index.result c.args.valid_when
    c.requires.valid c.mask_index-index.ensures)

pub returns-clause-order : goal.returns-clause-order
returns-clause-order g c =
    c.present_numbers.ensures.order
    (byte_masked c.args.mask.now c.args.valid_when (flat c.args.lane.now))
    (masked_opened c.args.mask.now c.args.lane.now c.mask_index-index.result c.args.valid_when
    c.requires.valid c.mask_index-index.ensures)
