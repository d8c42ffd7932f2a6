use Rattle.std.proofs.Common.{◌≡◌, ◌-◌, ◌++◌, ap, ◌∙◌, arith}
use Rattle.std.specs.Prelude.{replicate}
use Rattle.awk_places.specs.Products.{each_times}
use Rattle.awk_places.proofs.RunLaws.{flat_put}
use Rattle.awk_places.proofs.runs.put_each.Goals as goal

pub loop-place-preserved : goal.loop-place-preserved
loop-place-preserved c = record {
  items = flat_put (λ k. replicate c.args.after k) c.args.first c.loop-place.place
      c.args.made.now c.loop-place.made c.put_times.new.made
      c.loop-place.invariant.order c.loop-place.invariant.items c.in_ok-put_times.ensures;
  order = omega (arith, c.loop-place.invariant.order);
  top = omega (arith, c.loop-place-test.true, c.loop-place.invariant.order);
}

pub returns : goal.returns
returns c =
    let e : c.loop-place.place - c.args.first ≡ c.args.end - c.args.first =
    omega (arith, c.loop-place-test.false, c.loop-place.invariant.top) in
    c.loop-place.invariant.items
    ∙ ap (λ n. c.args.made.now ++ each_times c.args.after c.args.first n) e
