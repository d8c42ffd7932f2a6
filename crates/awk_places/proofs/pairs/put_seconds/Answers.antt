use Rattle.std.proofs.Common.{◌≡◌, ◌-◌, ◌++◌, ap, ◌∙◌, arith}
use Rattle.std.specs.List.{range_with_len, flat_map}
use Rattle.awk_places.specs.Begun.{reserved}
use Rattle.awk_places.proofs.PairLaws.{seconds_at, pair_seconds-by}
use Rattle.awk_places.proofs.RunLaws.{flat_put}
use Rattle.awk_places.proofs.pairs.put_seconds.Goals as goal

pub loop-place-preserved : goal.loop-place-preserved
loop-place-preserved c = record {
  items = flat_put (seconds_at c.args.replacement c.args.begun.stop) c.args.begun.least
      c.loop-place.place c.args.made.now c.loop-place.made c.put_places.new.made
      c.loop-place.invariant.order c.loop-place.invariant.items
      (c.in_ok-put_places.ensures
      ∙ ap (λ k. c.loop-place.made ++ range_with_len k (c.args.begun.stop - k))
      c.next_place.ensures);
  order = omega (arith, c.loop-place.invariant.order);
  top = omega (
    arith,
    c.loop-place-test.true,
    c.loop-place.invariant.order,
    c.saturating_sub-end.ensures,
    c.reserved.ensures,
  );
}

pub returns : goal.returns
returns c =
    let e : c.loop-place.place - c.args.begun.least
    ≡ c.args.begun.stop - reserved c.args.replacement 1 - c.args.begun.least =
    omega (
      arith,
      c.loop-place-test.false,
      c.loop-place.invariant.top,
      c.saturating_sub-end.ensures,
      c.reserved.ensures,
    ) in
    c.loop-place.invariant.items
    ∙ ap (λ n. c.args.made.now ++ flat_map (seconds_at c.args.replacement c.args.begun.stop)
    (range_with_len c.args.begun.least n)) e
    ∙ ap (λ ks. c.args.made.now ++ ks) (pair_seconds-by c.args.replacement c.args.begun)
