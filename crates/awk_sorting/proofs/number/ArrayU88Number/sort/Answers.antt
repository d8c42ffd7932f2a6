use Rattle.std.proofs.Common.{rules}
use Rattle.std.proofs.lemmas.List.Sorted.{answers_always}
use Rattle.std.specs.Ordering.{int_cmp}
use Rattle.awk_lanes.specs.Numbers.{number}
use Rattle.awk_lanes.specs.declared.kind.Kind.TheVariants.{I64}
use Rattle.awk_sorting.proofs.Compare.{int_cmp-first}
use Rattle.awk_sorting.proofs.PartLaws.{sorted_up}
use Rattle.awk_sorting.proofs.number.ArrayU88Number.sort.Goals as goal

pub returns-clause-order : goal.returns-clause-order
returns-clause-order c =
    sorted_up (number I64) (λ x y. int_cmp (number I64 x) (number I64 y))
    (λ x y. int_cmp-first (number I64 x) (number I64 y)) c.args.numbers.now
    c.sort_unstable_by_key.new.self c.sort_unstable_by_key.ensures.permutation
    (c.sort_unstable_by_key.ensures.sorted (number I64)
    (answers_always _ _ _ (λ f a r h k. search rules)))
