use Rattle.std.proofs.Common.{◌≡◌, ◌-◌, ◌+◌, ◌≤◌, ◌++◌, map}
use Rattle.std.specs.Prelude.{vec_len, vec_capacity}
use Rattle.awk_sorting.specs.Cells.{keys_from}
use Rattle.awk_sorting.proofs.keys.push_keys.Given as goal

abbrev pub invariant-loop-i : goal.invariant-loop-i
invariant-loop-i g l = record {
  keys : map g.K.Number.number l.keys.items
      ≡ map g.K.Number.number l.fn.keys.items
      ++ keys_from l.ranks.up l.ranks.reach.least l.ranks.reach.last
      (g.R.Row.lane l.ranks.row.now) (g.R.Row.index l.ranks.row.now) l.start (l.i - l.start);
  room : vec_len l.keys + (l.stop - l.i) ≤ vec_capacity l.keys;
}
