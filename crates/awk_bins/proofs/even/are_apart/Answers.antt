use Rattle.std.proofs.Common.{◌≡◌, List, ◌-◌, ◌<◌, length, get_or, map, ap, ap₂, sym, ◌∙◌}
use Rattle.std.proofs.Common.{arith}
use Rattle.std.specs.Prelude.{ℤ, pos, ◌-ℤ◌}
use Rattle.std.proofs.lemmas.List.{get_or-map}
use Rattle.awk_lanes.specs.Numbers.{nat_of}
use Rattle.awk_bins.proofs.EvenLaws.{no_steps, steps_more}
use Rattle.awk_bins.proofs.even.are_apart.Goals as goal

pub loop-i-init : goal.loop-i-init
loop-i-init g c = record {
  some = omega arith;
  steps = no_steps c.args.step (map g.N.Number.number c.args.near.now);
}

pub loop-i-preserved : goal.loop-i-preserved
loop-i-preserved g c =
    let near = c.args.near.now in
    let f = g.N.Number.number in
    let i = c.loop-i.i in
    let a = c.index-near-i.result in
    let b = c.index-near-i-in-loop-i.result in
    let ks : List ℤ = map f near in
    let before : i - 1 < length near = omega (arith, c.loop-i-test.true) in
    let here : get_or ks i (pos 0) ≡ f a =
    get_or-map f near i a (pos 0) c.loop-i-test.true ∙ ap f (sym c.index-near-i.is) in
    let there : get_or ks (i - 1) (pos 0) ≡ f b =
    get_or-map f near (i - 1) b (pos 0) before ∙ ap f (sym c.index-near-i-in-loop-i.is) in
    let step : nat_of (get_or ks i (pos 0) -ℤ get_or ks (i - 1) (pos 0)) ≡ c.args.step =
    ap₂ (λ x y. nat_of (x -ℤ y)) here there ∙ sym c.above.ensures ∙ c.if-above-step.false in
    record {
      some = omega arith;
      steps = steps_more c.args.step i ks c.loop-i.invariant.some c.loop-i.invariant.steps step;
    }
