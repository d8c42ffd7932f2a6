use Rattle.awk_readback.proofs.ReadBack.{packed_is_held}
use Rattle.awk_readback.proofs.laws.packed_reads_back.Goals as goal

pub returns-clause-held : goal.returns-clause-held
returns-clause-held c = packed_is_held
