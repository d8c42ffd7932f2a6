use Rattle.std.proofs.Common.{ℕ, subst, ◌∙◌, Vec, Global}
use Rattle.awk_types.specs.Faults.{fault_told}
use Rattle.awk_types.specs.Gives.{Gives}
use Rattle.awk_lanes.specs.Words.{integers}
use Rattle.awk_pointwise.specs.Numbers.{all_numbers}
use Rattle.awk_pointwise.proofs.SingleLaws.{nats_cast}
use Rattle.awk_pointwise.proofs.unary.held_nats.Goals as goal

pub returns : goal.returns
returns g c =
    subst (λ said. Gives (λ (v : Vec ℕ Global). integers v.items) fault_told
    c.calculate_nats.result (all_numbers said))
    (nats_cast c.args.to c.args.items.now c.deref.result.now c.requires
    (c.deref.ensures.value ∙ c.in_ok-zeros.ensures.items_if_clones_equal (λ y h. h)))
    c.calculate_nats.ensures
