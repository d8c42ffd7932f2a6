use Rattle.std.proofs.Common.{length, arith, ap}
use Rattle.awk_lists.proofs.RunLaws.{runs_between-few}
use Rattle.awk_lists.proofs.runs.count_runs.Goals as goal

pub overflow_add-count : goal.overflow_add-count
overflow_add-count g c =
    omega (
      arith,
      c.loop-next.invariant.count,
      runs_between-few c.args.items.now c.args.start c.args.stop,
      ap length c.run_end-next.ensures.run,
      c.ranges.stop.fits,
    )
