use Rattle.std.proofs.Common.{refl}
use Rattle.awk_pair_levels.specs.declared.shares.Share.TheVariants.{Lists}
use Rattle.awk_pair_levels.proofs.EvenLaws.{among_get}
use Rattle.awk_pair_levels.proofs.alike.lead_of.Goals as goal

pub returns : goal.returns
returns c =
    among_get c.args.shares.now c.lead_in.result.place (Lists c.lead_in.result.lists.now)
    c.lead_in.result.lists.now c.lead_in.ensures refl
