use Rattle.awk_layout.specs.Typing.{array_type}
use Rattle.awk_select.proofs.PickedPlaces.{mask_leaf}
use Rattle.awk_select.proofs.masks.masked_items.Goals as goal

pub cells_of-requires : goal.cells_of-requires
cells_of-requires g c = mask_leaf (array_type c.args.m.now) c.requires.mask
