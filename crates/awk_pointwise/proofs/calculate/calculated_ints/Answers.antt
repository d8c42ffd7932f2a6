use Rattle.std.proofs.Common.{ℕ, ap, sym, subst, ◌∙◌, get_or}
use Rattle.std.specs.Prelude.{pos}
use Rattle.awk_lanes.specs.Ranges.{IsNumber, AreNumbers}
use Rattle.awk_lanes.specs.Words.{column}
use Rattle.awk_layout.specs.Kinds.{kind_of}
use Rattle.awk_pointwise.specs.Numbers.{all_numbers}
use Rattle.awk_pointwise.proofs.RangeLaws.{results_numbers, int_leaves-prim}
use Rattle.awk_pointwise.proofs.calculate.calculated_ints.Goals as goal

pub lane_of_numbers-requires : goal.lane_of_numbers-requires
lane_of_numbers-requires g c =
    let p = c.args.prim in
    let a = c.deref.result.now in
    let b = c.deref-2.result.now in
    let zs = c.in_ok-numbers.numbers.items in
    subst (λ k. (i : ℕ) → IsNumber k (get_or c.deref-3.result.now i (pos 0)))
    (sym c.kind_of.ensures) (subst (λ zs. AreNumbers (column (kind_of p) zs))
    (sym c.deref-3.ensures.value) (results_numbers c.args.op p a b zs
    (ap all_numbers (sym (int_leaves-prim c.args.op p a b c.requires.prim))
    ∙ c.in_ok-numbers.ensures)))
