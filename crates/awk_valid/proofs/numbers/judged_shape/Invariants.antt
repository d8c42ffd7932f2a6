-- What is left to judge is the shape from a place on.
use Rattle.std.proofs.Common.{◌≡◌, ◌≤◌, ◌*◌, drop}
use Rattle.awk_valid.specs.Needs.{product}
use Rattle.awk_valid.specs.Broken.{shape_break}
use Rattle.awk_types.specs.ItemLimit.{item_limit}
use Rattle.awk_valid.proofs.numbers.judged_shape.Given as goal

abbrev pub invariant-loop-i : goal.invariant-loop-i
invariant-loop-i l = record {
  few : l.items ≤ item_limit;
  breaks : shape_break l.n l.inner ≡ shape_break l.items (drop l.i l.inner);
  numbers : l.n * product l.inner ≡ l.items * product (drop l.i l.inner);
}
