use Rattle.std.proofs.Common.{ap, sym, subst, refl, ◌∙◌}
use Rattle.std.specs.List.{AllByRecursion}
use Rattle.awk_types.specs.Faults.{fault_told}
use Rattle.awk_types.specs.Gives.{Gives}
use Rattle.awk_types.specs.Has.{Holds}
use Rattle.awk_types.specs.declared.primitive.Primitive.TheVariants.{U64}
use Rattle.awk_lanes.specs.Column.{Column}
use Rattle.awk_kernels.specs.declared.operation.Arith.TheVariants.{Add}
use Rattle.awk_pointwise.specs.Numbers.{word_numbers, all_numbers, prim_leaves}
use Rattle.awk_pointwise.proofs.SingleLaws.{zeros_held, sizes_nats}
use Rattle.awk_pointwise.proofs.unary.sizes_in_nats.Goals as goal

pub calculated-requires-clause-b : goal.calculated-requires-clause-b
calculated-requires-clause-b g c =
    subst (AllByRecursion (Holds U64)) (sym c.in_ok-zeros.ensures)
    (zeros_held U64 (word_numbers c.args.numbers) refl)

pub returns-clause-answer : goal.returns-clause-answer
returns-clause-answer g c =
    let xs = word_numbers c.args.numbers in
    subst (λ said. Gives (λ (r : Column). r.items) fault_told c.calculated.result
    (all_numbers said))
    (ap (prim_leaves Add U64 xs) c.in_ok-zeros.ensures ∙ sizes_nats xs c.requires.held)
    c.calculated.ensures.answer
