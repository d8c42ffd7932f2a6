use Rattle.awk_laws.proofs.ViewLaws.{view_laws}
use Rattle.awk_laws.proofs.laws.views.Goals as goal

pub returns : goal.returns
returns c = record { laws = view_laws }
