use Rattle.std.proofs.Common.{◌≡◌, ◌+◌, length, map}
use Rattle.awk_parts.specs.Parts.{part_at}
use Rattle.awk_bins.proofs.CountLaws.{IsCounted, IsOver, IsUnder}
use Rattle.awk_bins.proofs.bins.row_counts.Given as goal

abbrev pub invariant-loop-i : goal.invariant-loop-i
invariant-loop-i g l =
    let es = l.edges.all.now in
    let part = part_at (map g.N.Number.number l.numbers) l.offsets in
    record {
      size : length l.row ≡ length es + 1;
      counts : IsCounted es part l.n l.i l.counts;
      under : IsUnder es part l.n l.i l.under;
      over : IsOver es part l.n l.i l.over;
    }
