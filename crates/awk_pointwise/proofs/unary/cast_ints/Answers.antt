use Rattle.std.proofs.Common.{ℕ, sym, subst, get_or}
use Rattle.std.specs.Prelude.{pos}
use Rattle.awk_lanes.specs.Ranges.{IsNumber, AreNumbers}
use Rattle.awk_lanes.specs.Words.{column}
use Rattle.awk_layout.specs.Kinds.{kind_of}
use Rattle.awk_pointwise.proofs.SingleLaws.{held_numbers}
use Rattle.awk_pointwise.proofs.unary.cast_ints.Goals as goal

pub lane_of_numbers-requires : goal.lane_of_numbers-requires
lane_of_numbers-requires g c =
    subst (λ k. (i : ℕ) → IsNumber k (get_or c.deref.result.now i (pos 0)))
    (sym c.kind_of.ensures) (subst (λ zs. AreNumbers (column (kind_of c.args.to) zs))
    (sym c.deref.ensures.value) (held_numbers c.args.to c.args.items.now
    c.in_ok-numbers.numbers.items c.in_ok-numbers.ensures))
