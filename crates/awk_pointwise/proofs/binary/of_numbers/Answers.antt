use Rattle.std.proofs.Common.{ap, sym, subst, ◌∙◌}
use Rattle.std.specs.Prelude.{Ok}
use Rattle.std.specs.Simd.Lanes.{zip2}
use Rattle.awk_types.specs.Faults.{fault_told}
use Rattle.awk_types.specs.Gives.{Gives}
use Rattle.awk_leaves.specs.Values.{binary_on, all_values}
use Rattle.awk_pointwise.specs.Numbers.{word_numbers, AreReady}
use Rattle.awk_pointwise.specs.Sides.{lane_values}
use Rattle.awk_pointwise.proofs.CalculatedLaws.{calculated_gives, tested_values, joined_values}
use Rattle.awk_pointwise.proofs.binary.of_numbers.Goals as goal

pub returns-in-Calculate-clause-answer : goal.returns-in-Calculate-clause-answer
returns-in-Calculate-clause-answer g c =
    let p = c.args.prim in
    let xs = word_numbers c.args.sides.0 in
    let ys = word_numbers c.args.sides.1 in
    let ready = subst (λ op. AreReady op p xs ys) c.in-Calculate.is c.requires.ready in
    subst (λ op. Gives lane_values fault_told c.calculated.result
    (all_values (zip2 (binary_on op p) xs ys))) (sym c.in-Calculate.is)
    (calculated_gives c.in-Calculate.op p xs ys c.calculated.result ready.0
    c.calculated.ensures.answer c.calculated.ensures.kind)

pub returns-in-Test-clause-answer : goal.returns-in-Test-clause-answer
returns-in-Test-clause-answer g c =
    let p = c.args.prim in
    let xs = word_numbers c.args.sides.0 in
    let ys = word_numbers c.args.sides.1 in
    ap (λ op. all_values (zip2 (binary_on op p) xs ys)) c.in-Test.is
    ∙ tested_values c.in-Test.how p xs ys
    ∙ ap (λ r. Ok (lane_values r)) (sym c.in_ok-tested-in-Test.ensures)

pub returns-clause-answer : goal.returns-clause-answer
returns-clause-answer g c =
    let p = c.args.prim in
    let xs = word_numbers c.args.sides.0 in
    let ys = word_numbers c.args.sides.1 in
    ap (λ op. all_values (zip2 (binary_on op p) xs ys)) c.in-Join.is
    ∙ joined_values c.in-Join.op p xs ys
    ∙ ap (λ r. Ok (lane_values r)) (sym c.in_ok-joined_lane-in-Join.ensures)
