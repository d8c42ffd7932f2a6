use Rattle.std.specs.Prelude.{◌≡◌, map}
use Rattle.std.specs.List.{range_with_len, AllByRecursion}
use Rattle.awk_places.specs.Begun.{first_begun, Fits}
use Rattle.awk_places.proofs.begun.first_begun.Given as goal

abbrev pub invariant-loop-i : goal.invariant-loop-i
invariant-loop-i g l = record {
  items : l.made.items ≡ map (first_begun l.fn.firsts l.fn.ends) (range_with_len 0 l.i);
  fits : AllByRecursion Fits l.made.items;
}
