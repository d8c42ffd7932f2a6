use Rattle.std.proofs.Common.{◌≡◌, ◌+◌, ◌*◌, map}
use Rattle.std.specs.List.{range_with_len}
use Rattle.awk_lanes.specs.declared.kind.Kind.TheVariants as Kind
use Rattle.awk_lanes.specs.Places.{size_of}
use Rattle.awk_gather_lanes.specs.Lanes.{block_at}
use Rattle.awk_gather_lanes.proofs.lanes_at.block_lane.Given as goal

abbrev pub invariant-loop-i : goal.invariant-loop-i
invariant-loop-i g l = record {
  kind : l.maker.kind ≡ Kind.I64;
  room : l.maker.room ≡ size_of l.places * l.size;
  items : l.maker.items ≡ map (block_at l.size l.places) (range_with_len 0 (l.i * l.size));
}

abbrev pub invariant-loop-k : goal.invariant-loop-k
invariant-loop-k g l = record {
  kind : l.maker.kind ≡ Kind.I64;
  room : l.maker.room ≡ size_of l.places * l.size;
  items : l.maker.items ≡ map (block_at l.size l.places) (range_with_len 0 (l.i * l.size + l.k));
}
