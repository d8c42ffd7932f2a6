use Rattle.std.proofs.Common.{◌≡◌, map, length, get_or, []}
use Rattle.std.specs.Prelude.{vec_len, vec_capacity}
use Rattle.awk_present.proofs.NamedLaws.{so_far}
use Rattle.awk_present.proofs.named.groups_named.Given as goal

abbrev pub invariant-loop-i : goal.invariant-loop-i
invariant-loop-i g l = record {
  end : l.i-end ≡ length l.places;
  count : vec_len l.named ≡ length (so_far l.places l.i);
  room : vec_capacity l.named ≡ l.n;
  items : l.named.items ≡ map (λ k. get_or l.groups k []) (so_far l.places l.i);
}
