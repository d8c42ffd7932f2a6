use Rattle.std.proofs.Common.{◌≡◌, ◌-◌, ◌++◌, ap, ◌∙◌, arith}
use Rattle.std.specs.Prelude.{replicate}
use Rattle.std.specs.List.{range_with_len, flat_map}
use Rattle.awk_places.specs.Begun.{reserved}
use Rattle.awk_places.proofs.PairLaws.{firsts_at, pair_firsts-by}
use Rattle.awk_places.proofs.RunLaws.{flat_put}
use Rattle.awk_places.proofs.pairs.put_firsts.Goals as goal

pub loop-place-preserved : goal.loop-place-preserved
loop-place-preserved c = record {
  items = flat_put (firsts_at c.args.replacement c.args.begun.stop) c.args.begun.least
      c.loop-place.place c.args.made.now c.loop-place.made c.put_times.new.made
      c.loop-place.invariant.order c.loop-place.invariant.items
      (c.in_ok-put_times.ensures
      ∙ ap (λ n. c.loop-place.made ++ replicate n c.loop-place.place)
      (c.saturating_sub.ensures ∙ ap (λ k. c.args.begun.stop - k) c.next_place-next.ensures));
  order = omega (arith, c.loop-place.invariant.order);
  top = omega (
    arith,
    c.loop-place-test.true,
    c.loop-place.invariant.order,
    c.saturating_sub-end.ensures,
    c.reserved.ensures,
  );
}

pub returns : goal.returns
returns c =
    let e : c.loop-place.place - c.args.begun.least
    ≡ c.args.begun.stop - reserved c.args.replacement 1 - c.args.begun.least =
    omega (
      arith,
      c.loop-place-test.false,
      c.loop-place.invariant.top,
      c.saturating_sub-end.ensures,
      c.reserved.ensures,
    ) in
    c.loop-place.invariant.items
    ∙ ap (λ n. c.args.made.now ++ flat_map (firsts_at c.args.replacement c.args.begun.stop)
    (range_with_len c.args.begun.least n)) e
    ∙ ap (λ ks. c.args.made.now ++ ks) (pair_firsts-by c.args.replacement c.args.begun)
