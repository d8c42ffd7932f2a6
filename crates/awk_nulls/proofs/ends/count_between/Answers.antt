use Rattle.std.proofs.Common.{◌+◌, arith}
use Rattle.awk_counts.specs.Counted.{present_at}
use Rattle.awk_counts.proofs.FirstPlaces.{length-first_of, present-few}
use Rattle.awk_nulls.proofs.ends.count_between.Goals as goal

pub overflow_add-count : goal.overflow_add-count
overflow_add-count g c =
    omega (
      arith,
      c.loop-i.invariant,
      c.one_if_named-count.ensures,
      length-first_of (present_at (g.P.OptionIndex.lane c.args.index.now)) c.loop-i.i,
      present-few (g.P.OptionIndex.lane c.args.index.now) (c.loop-i.i + 1),
      c.loop-i-test.true,
      c.ranges.stop.fits,
    )

pub loop-i-preserved : goal.loop-i-preserved
loop-i-preserved g c =
    omega (
      arith,
      c.loop-i.invariant,
      c.one_if_named-count.ensures,
      length-first_of (present_at (g.P.OptionIndex.lane c.args.index.now)) c.loop-i.i,
    )
