use Rattle.std.specs.Prelude.{IfOk}
use Rattle.std.proofs.Common.{subst}
use Rattle.awk_framing.specs.Listed.{IsListed}
use Rattle.awk_framing.proofs.ListedLaws.{line_said-listed}
use Rattle.awk_framing.proofs.read.read_as.Goals as goal

pub returns-in-Ok-clause-listed : goal.returns-in-Ok-clause-listed
returns-in-Ok-clause-listed c =
    subst (λ z. IfOk z IsListed) c.in-Ok.ensures.line
    (line_said-listed c.args.reading c.args.bytes.now)
