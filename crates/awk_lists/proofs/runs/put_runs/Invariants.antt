use Rattle.std.specs.Prelude.{◌≡◌, ◌-◌, ◌≤◌, ◌++◌, map, pos}
use Rattle.awk_lanes.specs.declared.kind.Kind.TheVariants as Kind
use Rattle.awk_lists.specs.Runs.{runs_between}
use Rattle.awk_lists.proofs.runs.put_runs.Given as goal

abbrev pub invariant-loop-next : goal.invariant-loop-next
invariant-loop-next g l = record {
  order : l.next ≤ l.stop;
  kind : l.maker.kind ≡ Kind.I64;
  room : l.maker.room ≡ l.fn.maker.room;
  items : l.maker.items ++ map (λ n. pos n) (runs_between l.items l.next l.stop)
      ≡ l.fn.maker.items ++ map (λ n. pos n) (runs_between l.items l.start l.stop);
}

abbrev pub decreases-loop-next : goal.decreases-loop-next
decreases-loop-next g l = l.stop - l.next
