use Rattle.std.proofs.Common.{refl}
use Rattle.awk_padding.proofs.padded.padded_items.Goals as goal

pub whole_items-requires : goal.whole_items-requires
whole_items-requires g c = c.if-are_unpadded.ensures refl
