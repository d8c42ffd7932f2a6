-- The view has as many bits as are counted.
use Rattle.awk_bits.proofs.BitParts.{opened_len}
use Rattle.awk_bits.proofs.bits.Bits.len.Goals as goal

pub returns : goal.returns
returns c = opened_len _ _ _ _ _ c.self.view_is
