use Rattle.awk_unify.proofs.Tests.{same_type_from}
use Rattle.awk_unify.proofs.predicates.is_same.Goals as goal

pub returns : goal.returns
returns c = same_type_from _ _ _ c.same.ensures
