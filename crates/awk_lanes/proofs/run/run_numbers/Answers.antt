-- One number more.
use Rattle.std.proofs.Common.{rules, FitsSigned, w64, ◌∙◌, arith}
use Rattle.std.proofs.lemmas.Int.{to_z-of_z}
use Rattle.awk_lanes.specs.Runs.{run_at}
use Rattle.awk_lanes.proofs.RunLaws.{one_more}
use Rattle.awk_lanes.proofs.run.run_numbers.Goals as goal

pub loop-i-preserved : goal.loop-i-preserved
loop-i-preserved c =
    let f : FitsSigned w64 c.number_at.result = search rules in
    record {
      count = omega (arith, c.push_reserved.ensures.len, c.loop-i.invariant.count);
      room = c.push_reserved.ensures.capacity ∙ c.loop-i.invariant.room;
      items = one_more (run_at c.args.first c.args.count) c.loop-i.i _ c.loop-i.numbers.items _
          c.push_reserved.ensures.items
          (to_z-of_z w64 c.number_at.result f ∙ c.number_at.ensures) c.loop-i.invariant.items;
    }
