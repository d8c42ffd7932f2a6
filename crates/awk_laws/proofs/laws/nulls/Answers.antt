use Rattle.awk_laws.proofs.NullsLaw.{null_laws}
use Rattle.awk_laws.proofs.laws.nulls.Goals as goal

pub returns : goal.returns
returns c = record { laws = null_laws }
