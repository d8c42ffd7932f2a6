use Rattle.std.specs.Prelude.{◌≡◌, ◌+◌, length, pos, vec_len, vec_capacity}
use Rattle.awk_base.proofs.Each.{each_of}
use Rattle.awk_lanes.specs.Counted.{before}
use Rattle.awk_lanes.specs.declared.kind.Kind.TheVariants.{I64}
use Rattle.awk_lanes.proofs.MadeLanes.{IsSoFar}
use Rattle.awk_jagged_places.specs.Beside.{kept_length}
use Rattle.awk_jagged_places.specs.Leaves.{mask_numbers}
use Rattle.awk_jagged_places.proofs.BesideLaws.{groups_each}
use Rattle.awk_jagged_places.proofs.beside.groups_of.Given as goal

-- the lists before this one are put, and where each ends
abbrev pub invariant-loop-i : goal.invariant-loop-i
invariant-loop-i g l = record {
  items : l.made.items ≡ groups_each l.picks.xs.now l.picks.ws.now l.groups l.i;
  count : vec_len l.made ≡ length (each_of (mask_numbers l.picks.xs.now l.picks.ws.now) l.i);
  room : vec_capacity l.made ≡ l.room + 1;
  ends : IsSoFar I64 (l.n + 1)
      (λ j. pos (before (kept_length l.picks.xs.now l.picks.ws.now) j)) (l.i + 1) l.offsets;
}
