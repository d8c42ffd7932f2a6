use Rattle.std.proofs.Common.{ap, ap₂, sym, subst, ◌∙◌, map}
use Rattle.std.specs.List.{AllByRecursion}
use Rattle.awk_types.specs.Faults.{fault_told}
use Rattle.awk_types.specs.Gives.{Gives}
use Rattle.awk_lanes.specs.Column.{Column}
use Rattle.awk_kernels.specs.declared.operation.Arith.TheVariants.{Sub}
use Rattle.awk_pointwise.specs.Numbers.{word_numbers, all_numbers, prim_leaves, IsInt64}
use Rattle.awk_pointwise.specs.Single.{below_zero}
use Rattle.awk_pointwise.proofs.RangeLaws.{all_int64}
use Rattle.awk_pointwise.proofs.SingleLaws.{zeros_int64, belows_int64, sizes_all}
use Rattle.awk_pointwise.proofs.unary.sizes_in_ints.Goals as goal

pub ints-requires : goal.ints-requires
ints-requires g c =
    all_int64 c.args.prim (word_numbers c.args.numbers) c.requires.other c.requires.held

pub calculated_ints-requires-clause-a : goal.calculated_ints-requires-clause-a
calculated_ints-requires-clause-a g c =
    subst (AllByRecursion IsInt64) (sym c.in_ok-zeros.ensures)
    (zeros_int64 (word_numbers c.args.numbers))

pub calculated_ints-requires-clause-b : goal.calculated_ints-requires-clause-b
calculated_ints-requires-clause-b g c =
    let xs = word_numbers c.args.numbers in
    subst (AllByRecursion IsInt64) (sym (c.in_ok-below.ensures
    ∙ ap (map below_zero) (c.deref.ensures.value ∙ c.in_ok-items.ensures)))
    (belows_int64 xs (all_int64 c.args.prim xs c.requires.other c.requires.held))

pub returns-clause-answer : goal.returns-clause-answer
returns-clause-answer g c =
    let p = c.args.prim in
    subst (λ said. Gives (λ (r : Column). r.items) fault_told c.calculated_ints.result
    (all_numbers said))
    (ap₂ (prim_leaves Sub p) c.in_ok-zeros.ensures (c.in_ok-below.ensures
    ∙ ap (map below_zero) (c.deref.ensures.value ∙ c.in_ok-items.ensures))
    ∙ sizes_all p (word_numbers c.args.numbers)) c.calculated_ints.ensures.answer
