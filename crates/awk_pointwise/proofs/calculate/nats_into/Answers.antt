use Rattle.std.proofs.Common.{refl}
use Rattle.awk_lanes.specs.Words.{integers}
use Rattle.awk_pointwise.specs.Numbers.{nat_leaves}
use Rattle.awk_pointwise.proofs.CalculatedLaws.{broken_told, all_written_nats}
use Rattle.awk_pointwise.proofs.calculate.nats_into.Goals as goal

pub returns-in-Some : goal.returns-in-Some
returns-in-Some g c =
    let e = rw (c.greatest_nat.ensures) at c.in-Some.ensures.broken in
    broken_told
    (nat_leaves c.args.op c.args.prim (integers c.args.a.now) (integers c.args.b.now))
    c.in-Some.broken c.fault_of.result e c.fault_of.ensures

pub returns-in-None : goal.returns-in-None
returns-in-None g c =
    let e = rw (c.greatest_nat.ensures) at (c.in-None.ensures.written refl) in
    all_written_nats c.arith_u64.new.out
    (nat_leaves c.args.op c.args.prim (integers c.args.a.now) (integers c.args.b.now)) e
