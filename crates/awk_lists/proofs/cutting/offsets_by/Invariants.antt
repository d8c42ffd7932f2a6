use Rattle.std.specs.Prelude.{◌≡◌, ◌+◌, pos}
use Rattle.awk_lanes.specs.declared.kind.Kind.TheVariants as Kind
use Rattle.awk_layout.specs.Typing.{array_items}
use Rattle.awk_layout.specs.Valid.{len}
use Rattle.awk_lanes.proofs.MadeLanes.{IsSoFar}
use Rattle.awk_lists.specs.Unflatten.{counted_before}
use Rattle.awk_lists.proofs.cutting.offsets_by.Given as goal

abbrev pub invariant-loop-i : goal.invariant-loop-i
invariant-loop-i g l = record {
  end : l.end ≡ counted_before (array_items l.counts) l.i;
  made : IsSoFar Kind.I64 (len l.counts + 1)
      (λ j. pos (counted_before (array_items l.counts) j)) (l.i + 1) l.maker;
}
