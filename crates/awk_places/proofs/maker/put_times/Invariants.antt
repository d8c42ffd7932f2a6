use Rattle.std.specs.Prelude.{◌≡◌, ◌++◌, replicate}
use Rattle.awk_places.proofs.maker.put_times.Given as goal

abbrev pub invariant-loop-i : goal.invariant-loop-i
invariant-loop-i l = l.made ≡ l.fn.made ++ replicate l.i l.place
