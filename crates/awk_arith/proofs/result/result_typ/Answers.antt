use Rattle.std.proofs.Common.{subst}
use Rattle.awk_types.specs.Faults.{fault_told, limit_refused}
use Rattle.awk_types.specs.Gives.{Gives, refused_or}
use Rattle.awk_types.specs.View.{typ_of}
use Rattle.awk_arith.proofs.result.result_typ.Goals as goal

pub returns-clause-answer : goal.returns-clause-answer
returns-clause-answer g c =
    subst (λ t. Gives typ_of fault_told c.typ_within.result (refused_or (limit_refused t) t))
    c.in_ok-none.ensures c.typ_within.ensures.answer
