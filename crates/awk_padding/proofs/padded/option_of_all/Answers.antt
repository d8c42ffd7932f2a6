use Rattle.std.proofs.Common.{arith}
use Rattle.awk_layout.specs.Laws.{len-fits}
use Rattle.awk_padding.proofs.padded.option_of_all.Goals as goal

pub unmasked-requires-clause-length : goal.unmasked-requires-clause-length
unmasked-requires-clause-length g c =
    omega (arith, c.len-n.ensures.len, len-fits c.args.content.now c.len-n.ensures.valid)
