use Rattle.std.proofs.Common.{◌≡◌, ◌-◌, ◌++◌, map, ap, ◌∙◌, arith}
use Rattle.std.specs.List.{range_with_len}
use Rattle.awk_places.specs.Begun.{reserved}
use Rattle.awk_places.proofs.BegunLaws.{next_begun, map_put}
use Rattle.awk_places.proofs.begun.put_longer.Goals as goal

pub loop-place-preserved : goal.loop-place-preserved
loop-place-preserved c = record {
  items = map_put (next_begun c.args.replacement c.args.begun.stop) c.args.begun.least
      c.loop-place.place c.args.made.now.items c.loop-place.made.items c.push.new.self.items _
      c.loop-place.invariant.order c.loop-place.invariant.items c.in_ok-push.ensures.items
      (ap (λ k. record { least = k; stop = c.args.begun.stop }) c.next_place.ensures);
  order = omega (arith, c.loop-place.invariant.order);
  top = omega (
    arith,
    c.loop-place-test.true,
    c.loop-place.invariant.order,
    c.saturating_sub-end.ensures,
    c.reserved.ensures,
  );
}

pub returns : goal.returns
returns c =
    let e : c.loop-place.place - c.args.begun.least
    ≡ c.args.begun.stop - reserved c.args.replacement c.args.left - c.args.begun.least =
    omega (
      arith,
      c.loop-place-test.false,
      c.loop-place.invariant.top,
      c.saturating_sub-end.ensures,
      c.reserved.ensures,
    ) in
    c.loop-place.invariant.items
    ∙ ap (λ n. c.args.made.now.items ++ map (next_begun c.args.replacement c.args.begun.stop)
    (range_with_len c.args.begun.least n)) e
