use Rattle.std.proofs.Common.{ℕ, sym, subst, get_or}
use Rattle.std.specs.Prelude.{pos}
use Rattle.awk_lanes.specs.Ranges.{IsNumber, AreNumbers}
use Rattle.awk_lanes.specs.Words.{column, integers}
use Rattle.awk_layout.specs.Kinds.{kind_of}
use Rattle.awk_pointwise.proofs.SingleLaws.{held_numbers}
use Rattle.awk_pointwise.proofs.unary.cast_nats.Goals as goal

pub lane_of_nats-requires : goal.lane_of_nats-requires
lane_of_nats-requires g c =
    subst (λ k. (i : ℕ) → IsNumber k (get_or (integers c.deref.result.now) i (pos 0)))
    (sym c.kind_of.ensures) (subst (λ ns. AreNumbers (column (kind_of c.args.to) (integers ns)))
    (sym c.deref.ensures.value) (held_numbers c.args.to (integers c.args.items.now)
    (integers c.in_ok-numbers.numbers.items) c.in_ok-numbers.ensures))
