use Rattle.std.proofs.Common.{ap, sym, subst, ◌∙◌, map}
use Rattle.std.specs.Prelude.{Ok, neg_ℤ}
use Rattle.awk_types.specs.Faults.{fault_told}
use Rattle.awk_types.specs.Gives.{Gives}
use Rattle.awk_leaves.specs.Values.{unary_on, all_values}
use Rattle.awk_pointwise.specs.Numbers.{word_numbers}
use Rattle.awk_pointwise.specs.Sides.{lane_values}
use Rattle.awk_pointwise.specs.Single.{IsReady, size_of_number}
use Rattle.awk_pointwise.proofs.SingleLaws.{not_values, held_gives}
use Rattle.awk_pointwise.proofs.unary.of_number.Goals as goal

pub returns-in-Not-clause-answer : goal.returns-in-Not-clause-answer
returns-in-Not-clause-answer g c =
    let p = c.args.prim in
    let xs = word_numbers c.args.numbers in
    ap (λ op. all_values (map (unary_on op p) xs)) c.in-Not.is ∙ not_values p xs
    ∙ ap (λ r. Ok (lane_values r)) (sym c.in_ok-compared_with_zero-in-Not.ensures)

pub returns-in-Negate-clause-answer : goal.returns-in-Negate-clause-answer
returns-in-Negate-clause-answer g c =
    let p = c.args.prim in
    let xs = word_numbers c.args.numbers in
    let ready = subst (λ op. IsReady op p xs) c.in-Negate.is c.requires in
    subst (λ op. Gives lane_values fault_told c.negated.result
    (all_values (map (unary_on op p) xs))) (sym c.in-Negate.is)
    (held_gives neg_ℤ p xs c.negated.result ready.0 c.negated.ensures.answer
    c.negated.ensures.kind)

pub returns-in-Absolute-clause-answer : goal.returns-in-Absolute-clause-answer
returns-in-Absolute-clause-answer g c =
    let p = c.args.prim in
    let xs = word_numbers c.args.numbers in
    let ready = subst (λ op. IsReady op p xs) c.in-Absolute.is c.requires in
    subst (λ op. Gives lane_values fault_told c.sizes.result
    (all_values (map (unary_on op p) xs))) (sym c.in-Absolute.is)
    (held_gives size_of_number p xs c.sizes.result ready.0 c.sizes.ensures.answer
    c.sizes.ensures.kind)
