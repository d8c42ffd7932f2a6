use Rattle.std.proofs.Common.{◌<◌, ◌*◌, length, refl, arith, get_or, ap}
use Rattle.std.proofs.Math.Nat.{mul_comm}
use Rattle.std.proofs.lemmas.List.{length-map}
use Rattle.awk_types.specs.ItemLimit.{item_limit}
use Rattle.awk_lanes.specs.Places.{place_at}
use Rattle.awk_places.specs.Products.{lengths_at}
use Rattle.awk_places.proofs.PlaceLists.{no_less, over_limit}
use Rattle.awk_places.proofs.products.count_product.Goals as goal

pub returns-then-length-gt-ITEM_LIMIT : goal.returns-then-length-gt-ITEM_LIMIT
returns-then-length-gt-ITEM_LIMIT g c =
    let ms = lengths_at c.args.lengths.now c.args.i in
    let n = length-map c.args.lengths.now (λ s. place_at s c.args.i) in
    let k = c.loop-j.count in
    let x = get_or ms c.loop-j.j 0 in
    let l : c.loop-j.j < length ms =
    omega (arith, c.loop-j-test.true, c.len-j-end.ensures, n) in
    let m = no_less x k c.loop-j.invariant.some in
    let o : item_limit < k * x =
    omega (arith, c.if-length-gt-ITEM_LIMIT.true, c.length_by-length.ensures, mul_comm x k, m) in
    over_limit ms c.loop-j.j k l
    (λ i q. c.if-some_empty.ensures.full refl i (omega (arith, q, n)))
    c.loop-j.invariant.count o

pub returns-then-count-length-gt-ITEM_LIMIT : goal.returns-then-count-length-gt-ITEM_LIMIT
returns-then-count-length-gt-ITEM_LIMIT g c =
    let ms = lengths_at c.args.lengths.now c.args.i in
    let n = length-map c.args.lengths.now (λ s. place_at s c.args.i) in
    let k = c.loop-j.count in
    let l : c.loop-j.j < length ms =
    omega (arith, c.loop-j-test.true, c.len-j-end.ensures, n) in
    let o : item_limit < k * get_or ms c.loop-j.j 0 =
    omega (
      arith,
      c.if-count-length-gt-ITEM_LIMIT.true,
      ap (λ x. k * x) c.length_by-length.ensures,
    ) in
    over_limit ms c.loop-j.j k l
    (λ i q. c.if-some_empty.ensures.full refl i (omega (arith, q, n)))
    c.loop-j.invariant.count o
