use Rattle.std.specs.Prelude.{◌≡◌, ◌++◌, ◌-◌}
use Rattle.awk_places.specs.Products.{each_times, times}
use Rattle.awk_places.proofs.runs.put_runs.Given as goal

abbrev pub invariant-loop-i : goal.invariant-loop-i
invariant-loop-i l =
    l.made ≡ l.fn.made ++ times l.i (each_times l.after l.first (l.end - l.first))
