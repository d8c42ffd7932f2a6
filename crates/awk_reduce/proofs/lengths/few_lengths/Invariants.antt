use Rattle.std.proofs.Common.{◌≡◌, ◌*◌, ◌≤◌}
use Rattle.std.specs.Prelude.{pos}
use Rattle.awk_lanes.specs.Counted.{before}
use Rattle.awk_lanes.specs.declared.kind.Kind.TheVariants.{I64}
use Rattle.awk_lanes.proofs.MadeLanes.{IsSoFar}
use Rattle.awk_parts.specs.Spans.{span_count, span_size}
use Rattle.awk_reduce.proofs.lengths.few_lengths.Given as goal

abbrev pub invariant-loop-i : goal.invariant-loop-i
invariant-loop-i l = record {
  total : l.total ≡ before (span_size l.spans) l.i;
  few : l.total ≤ l.i * 4294967296;
  made : IsSoFar I64 (span_count l.spans) (λ i. pos (span_size l.spans i)) l.i l.maker;
}
