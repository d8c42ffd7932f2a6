use Rattle.std.proofs.Common.{sym, subst}
use Rattle.awk_types.specs.declared.primitive.Primitive.TheVariants.{U64}
use Rattle.awk_lanes.specs.Ranges.{AreNumbers}
use Rattle.awk_lanes.specs.Words.{column, integers}
use Rattle.awk_layout.specs.Kinds.{kind_of}
use Rattle.awk_pointwise.proofs.RangeLaws.{results_numbers}
use Rattle.awk_pointwise.proofs.calculate.calculated_nats.Goals as goal

pub lane_of_nats-requires : goal.lane_of_nats-requires
lane_of_nats-requires g c =
    subst (λ ns. AreNumbers (column (kind_of U64) (integers ns))) (sym c.deref-3.ensures.value)
    (results_numbers c.args.op U64 (integers c.deref.result.now) (integers c.deref-2.result.now)
    (integers c.in_ok-numbers.numbers.items) c.in_ok-numbers.ensures)
