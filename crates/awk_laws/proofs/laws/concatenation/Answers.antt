use Rattle.awk_laws.proofs.ConcatenationLaws.{concatenation_laws}
use Rattle.awk_laws.proofs.laws.concatenation.Goals as goal

pub returns : goal.returns
returns c = record { laws = concatenation_laws }
