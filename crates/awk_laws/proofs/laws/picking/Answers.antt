use Rattle.awk_laws.proofs.PickingLaws.{picking_laws}
use Rattle.awk_laws.proofs.laws.picking.Goals as goal

pub returns : goal.returns
returns c = record { laws = picking_laws }
