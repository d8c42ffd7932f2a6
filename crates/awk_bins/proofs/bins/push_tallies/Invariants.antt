use Rattle.std.proofs.Common.{◌≡◌, ◌++◌, map, pos, take}
use Rattle.awk_bins.proofs.bins.push_tallies.Given as goal

abbrev pub invariant-loop-i : goal.invariant-loop-i
invariant-loop-i l = record {
  kind : l.maker.kind ≡ l.fn.maker.kind;
  room : l.maker.room ≡ l.fn.maker.room;
  items : l.maker.items ≡ l.fn.maker.items ++ map (λ n. pos n) (take l.i l.tallies);
}
