use Rattle.std.proofs.Common.{arith}
use Rattle.std.proofs.lemmas.Grind.{common_steps}
use Rattle.awk_form.proofs.Values.{values_of-items_view}
use Rattle.awk_form.proofs.keys.contents_at.Goals as goal

pub returns : goal.returns
returns c = grind (arith, common_steps, values_of-items_view)
