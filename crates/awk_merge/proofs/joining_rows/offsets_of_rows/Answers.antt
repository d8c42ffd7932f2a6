use Rattle.std.proofs.Common.{◌+◌, ◌*◌, arith}
use Rattle.awk_base.proofs.Numbers.{times-le}
use Rattle.awk_lanes.specs.Numbers.{int_of}
use Rattle.awk_lanes.specs.Places.{at}
use Rattle.awk_lanes.proofs.MadeLanes.{so_far_pushed}
use Rattle.awk_merge.proofs.joining_rows.offsets_of_rows.Goals as goal

pub loop-i-preserved : goal.loop-i-preserved
loop-i-preserved g c =
    so_far_pushed c.args.offsets.now.kind (c.args.n + 1)
    (λ i. at c.args.offsets.now (i * c.args.k)) c.loop-i.i (int_of c.at-offset.result)
    c.loop-i.maker c.push.new.self c.push.ensures c.at-offset.ensures.number c.loop-i.invariant

pub overflow_mul-i : goal.overflow_mul-i
overflow_mul-i g c =
    omega (
      arith,
      times-le c.loop-i.i c.args.n c.args.k (omega (arith, c.loop-i-test.true)),
      c.requires.small,
    )
