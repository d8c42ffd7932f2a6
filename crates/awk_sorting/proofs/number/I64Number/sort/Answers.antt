use Rattle.std.specs.Prelude.{ℤ}
use Rattle.std.specs.Ordering.{int_cmp}
use Rattle.awk_sorting.proofs.Compare.{int_cmp-first}
use Rattle.awk_sorting.proofs.PartLaws.{sorted_up}
use Rattle.awk_sorting.proofs.number.I64Number.sort.Goals as goal

pub returns-clause-order : goal.returns-clause-order
returns-clause-order c =
    sorted_up (λ (z : ℤ). z) int_cmp int_cmp-first c.args.numbers.now c.sort_unstable.new.self
    c.sort_unstable.ensures.permutation c.sort_unstable.ensures.sorted
