use Rattle.std.proofs.Common.{◌≡◌, ◌<◌, ◌≤◌, ◌*◌, drop}
use Rattle.awk_types.specs.ItemLimit.{item_limit}
use Rattle.awk_places.specs.Places.{place_count}
use Rattle.awk_places.specs.Products.{lengths_at}
use Rattle.awk_places.proofs.products.count_product.Given as goal

abbrev pub invariant-loop-j : goal.invariant-loop-j
invariant-loop-j g l = record {
  count : l.count * place_count (drop l.j (lengths_at l.lengths l.i))
      ≡ place_count (lengths_at l.lengths l.i);
  some : 0 < l.count;
  few : l.count ≤ item_limit;
}
