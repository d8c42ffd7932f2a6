-- One group more.
use Rattle.std.proofs.Common.{rules, FitsSigned, w64, ap, ◌∙◌, arith}
use Rattle.std.specs.Int.{cast_unsigned}
use Rattle.std.proofs.lemmas.Int.{to_z-of_z}
use Rattle.awk_lanes.specs.Runs.{run_at}
use Rattle.awk_lanes.specs.Words.{low_bytes}
use Rattle.awk_lanes.proofs.RowLaws.{group_more}
use Rattle.awk_lanes.proofs.run.run_groups.Goals as goal

pub loop-i-preserved : goal.loop-i-preserved
loop-i-preserved c =
    let f : FitsSigned w64 c.number_at.result = search rules in
    record {
      count = omega (arith, c.push_reserved.ensures.len, c.loop-i.invariant.count);
      room = c.push_reserved.ensures.capacity ∙ c.loop-i.invariant.room;
      items = group_more 8 c.loop-i.i (run_at c.args.first c.args.count) c.number_at.result
          c.to_le_bytes.result c.loop-i.groups.items _ c.push_reserved.ensures.items
          (c.to_le_bytes.ensures ∙ ap (λ z. low_bytes 8 (cast_unsigned w64 z))
          (to_z-of_z w64 c.number_at.result f))
          c.number_at.ensures c.loop-i.invariant.items;
    }
