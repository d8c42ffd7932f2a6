use Rattle.std.proofs.Common.{ap, sym, subst, ◌∙◌, map}
use Rattle.std.specs.Prelude.{Ok}
use Rattle.awk_types.specs.Faults.{fault_told}
use Rattle.awk_types.specs.Gives.{Gives}
use Rattle.awk_leaves.specs.Values.{unary_on, all_values}
use Rattle.awk_leaves.specs.declared.operation.Unary.TheVariants.{Cast}
use Rattle.awk_pointwise.specs.Numbers.{word_numbers}
use Rattle.awk_pointwise.specs.Sides.{lane_values}
use Rattle.awk_pointwise.proofs.SingleLaws.{truth_values, held_gives, cast_on, whole_other}
use Rattle.awk_pointwise.proofs.unary.cast_or_test.Goals as goal

pub returns-in-Bool-clause-answer : goal.returns-in-Bool-clause-answer
returns-in-Bool-clause-answer g c =
    let to = c.args.to in
    let xs = word_numbers c.args.numbers in
    ap (λ t. all_values (map (unary_on (Cast t) to) xs)) c.in-Bool.is ∙ truth_values to xs
    ∙ ap (λ r. Ok (lane_values r)) (sym c.in_ok-compared_with_zero-in-Bool.ensures)

pub returns : goal.returns
returns g c =
    let to = c.args.to in
    let xs = word_numbers c.args.numbers in
    let whole = whole_other to c.in_default.not-Bool in
    record {
      answer = subst (λ rs. Gives lane_values fault_told c.cast.result (all_values rs))
          (sym (cast_on to to xs whole)) (held_gives (λ z. z) to xs c.cast.result whole
          c.cast.ensures.answer c.cast.ensures.kind);
      kind = c.cast.ensures.kind;
    }
