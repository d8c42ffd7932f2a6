use Rattle.std.proofs.Common.{subst}
use Rattle.awk_places.specs.Places.{IsCounted}
use Rattle.awk_places.proofs.Paths.{paths-turned}
use Rattle.awk_places.proofs.counts.count_either.Goals as goal

pub returns-else-n-a : goal.returns-else-n-a
returns-else-n-a c =
    subst (λ k. IsCounted k c.count_paths-else-n-a.result) (paths-turned c.args.n c.args.a)
    c.count_paths-else-n-a.ensures
