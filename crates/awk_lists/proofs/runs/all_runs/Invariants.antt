use Rattle.std.specs.Prelude.{◌≡◌, map, pos}
use Rattle.awk_lanes.specs.declared.kind.Kind.TheVariants as Kind
use Rattle.awk_counts.specs.Counted.{first_of}
use Rattle.awk_lists.specs.Runs.{runs_at}
use Rattle.awk_lists.proofs.runs.all_runs.Given as goal

abbrev pub invariant-loop-i : goal.invariant-loop-i
invariant-loop-i g l = record {
  kind : l.maker.kind ≡ Kind.I64;
  room : l.maker.room ≡ l.count;
  items : l.maker.items ≡ map (λ k. pos k) (first_of (runs_at l.items l.offsets) l.i);
}
