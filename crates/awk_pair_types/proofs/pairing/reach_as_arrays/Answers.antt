use Rattle.std.proofs.Common.{sym, subst}
use Rattle.std.specs.Prelude.{Some, None}
use Rattle.awk_pair_operands.specs.First.{all_data}
use Rattle.awk_pair_types.specs.Emptied.{HasTypes}
use Rattle.awk_pair_types.proofs.DepthLaws.{all_depths}
use Rattle.awk_pair_types.proofs.pairing.reach_as_arrays.Goals as goal

pub returns-in-None : goal.returns-in-None
returns-in-None c =
    subst (λ d. HasTypes d None (all_data c.args.xs.now)) (sym c.in-None.is)
    (all_depths (all_data c.args.xs.now))

pub returns-in-Some : goal.returns-in-Some
returns-in-Some c =
    subst (λ d. HasTypes d (Some c.depth_as_arrays.result) (all_data c.args.xs.now))
    (sym c.in-Some.is) c.depth_as_arrays.ensures
