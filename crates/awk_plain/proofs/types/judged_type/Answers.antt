use Rattle.std.proofs.Common.{subst}
use Rattle.awk_types.specs.Gives.{Gives}
use Rattle.awk_types.specs.Limit.{limit_told, within}
use Rattle.awk_types.specs.View.{typ_of}
use Rattle.awk_types.proofs.SimpleLaws.{simple_stays}
use Rattle.awk_plain.proofs.types.judged_type.Goals as goal

pub returns : goal.returns
returns c =
    subst (λ u. Gives typ_of limit_told c.simple_of.result (within u))
    (simple_stays (typ_of c.args.t) c.requires) c.simple_of.ensures.gives
