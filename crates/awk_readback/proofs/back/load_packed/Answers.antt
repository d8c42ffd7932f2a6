use Rattle.awk_pack.specs.Shown.{packed_of}
use Rattle.awk_readback.proofs.BackLaws.{loaded-back}
use Rattle.awk_readback.proofs.back.load_packed.Goals as goal

pub returns-clause-back : goal.returns-clause-back
returns-clause-back g c =
    loaded-back (packed_of c.args.packed.now) c.args.store.now.held c.load.result
    c.load.ensures.denoted
