use Rattle.std.proofs.Common.{◌≡◌, map, take, length}
use Rattle.std.specs.Prelude.{vec_len, vec_capacity}
use Rattle.awk_lanes.specs.Words.{low_bytes}
use Rattle.awk_lanes.proofs.words.groups_of.Given as goal

abbrev pub invariant-loop-i : goal.invariant-loop-i
invariant-loop-i g l = record {
  end : l.i-end ≡ length l.words;
  count : vec_len l.groups ≡ l.i;
  room : vec_capacity l.groups ≡ length l.words;
  items : l.groups.items ≡ map (λ x. low_bytes g.row.W (g.X.Word.word x)) (take l.i l.words);
}
