use Rattle.awk_laws.proofs.FlatteningLaws.{flattening_laws}
use Rattle.awk_laws.proofs.laws.flattening.Goals as goal

pub returns : goal.returns
returns c = record { laws = flattening_laws }
