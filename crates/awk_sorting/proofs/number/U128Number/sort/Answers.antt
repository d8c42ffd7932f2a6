use Rattle.std.specs.Prelude.{ℕ, pos}
use Rattle.std.specs.Ordering.{nat_cmp}
use Rattle.awk_sorting.proofs.Compare.{nat_cmp-first}
use Rattle.awk_sorting.proofs.PartLaws.{sorted_up}
use Rattle.awk_sorting.proofs.number.U128Number.sort.Goals as goal

pub returns-clause-order : goal.returns-clause-order
returns-clause-order c =
    sorted_up (λ (n : ℕ). pos n) nat_cmp nat_cmp-first c.args.numbers.now c.sort_unstable.new.self
    c.sort_unstable.ensures.permutation c.sort_unstable.ensures.sorted
