use Rattle.std.proofs.Common.{◌≡◌, map, take}
use Rattle.awk_bins.specs.Tallies.{tallies}
use Rattle.awk_bins.proofs.tallies.tally_row.Given as goal

abbrev pub invariant-loop-i : goal.invariant-loop-i
invariant-loop-i g l = record {
  made : l.tallies ≡ tallies l.edges.all.now (map g.N.Number.number (take l.i l.row));
}
