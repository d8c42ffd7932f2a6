use Rattle.std.proofs.Common.{◌≡◌, ◌-◌, ◌++◌, ap, ◌∙◌, arith}
use Rattle.std.specs.List.{range_with_len}
use Rattle.awk_places.proofs.BegunLaws.{range_put}
use Rattle.awk_places.proofs.maker.put_places.Goals as goal

pub loop-place-preserved : goal.loop-place-preserved
loop-place-preserved c = record {
  items = range_put c.args.first c.loop-place.place c.args.made.now c.loop-place.made
      c.push.new.self c.loop-place.invariant.order c.loop-place.invariant.items
      c.in_ok-push.ensures;
  order = omega (arith, c.loop-place.invariant.order);
  top = omega (arith, c.loop-place-test.true, c.loop-place.invariant.order);
}

pub returns : goal.returns
returns c =
    let e : c.loop-place.place - c.args.first ≡ c.args.end - c.args.first =
    omega (arith, c.loop-place-test.false, c.loop-place.invariant.top) in
    c.loop-place.invariant.items
    ∙ ap (λ n. c.args.made.now ++ range_with_len c.args.first n) e
