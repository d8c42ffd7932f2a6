use Rattle.std.proofs.Common.{ℤ, subst, ◌∙◌, Vec, Global}
use Rattle.awk_types.specs.Faults.{fault_told}
use Rattle.awk_types.specs.Gives.{Gives}
use Rattle.awk_pointwise.specs.Numbers.{all_numbers}
use Rattle.awk_pointwise.proofs.SingleLaws.{known_cast}
use Rattle.awk_pointwise.proofs.unary.held_ints.Goals as goal

pub returns : goal.returns
returns g c =
    subst (λ said. Gives (λ (v : Vec ℤ Global). v.items) fault_told c.calculate_ints.result
    (all_numbers said)) (known_cast c.args.to c.args.items.now c.deref.result.now c.known.ensures
    (c.deref.ensures.value ∙ c.in_ok-zeros.ensures.items_if_clones_equal (λ y h. h)))
    c.calculate_ints.ensures
