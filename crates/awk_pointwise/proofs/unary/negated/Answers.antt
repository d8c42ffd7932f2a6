use Rattle.std.proofs.Common.{ap, sym, subst, ◌∙◌}
use Rattle.std.specs.List.{AllByRecursion}
use Rattle.awk_types.specs.Faults.{fault_told}
use Rattle.awk_types.specs.Gives.{Gives}
use Rattle.awk_types.specs.Has.{Holds}
use Rattle.awk_lanes.specs.Column.{Column}
use Rattle.awk_kernels.specs.declared.operation.Arith.TheVariants.{Sub}
use Rattle.awk_pointwise.specs.Numbers.{word_numbers, all_numbers, prim_leaves}
use Rattle.awk_pointwise.proofs.SingleLaws.{zeros_held, negated_all}
use Rattle.awk_pointwise.proofs.unary.negated.Goals as goal

pub calculated-requires-clause-a : goal.calculated-requires-clause-a
calculated-requires-clause-a g c =
    subst (AllByRecursion (Holds c.args.prim)) (sym c.in_ok-zeros.ensures)
    (zeros_held c.args.prim (word_numbers c.args.numbers) c.requires.whole)

pub returns-clause-answer : goal.returns-clause-answer
returns-clause-answer g c =
    let p = c.args.prim in
    let xs = word_numbers c.args.numbers in
    subst (λ said. Gives (λ (r : Column). r.items) fault_told c.calculated.result
    (all_numbers said))
    (ap (λ zs. prim_leaves Sub p zs xs) c.in_ok-zeros.ensures ∙ negated_all p xs)
    c.calculated.ensures.answer
