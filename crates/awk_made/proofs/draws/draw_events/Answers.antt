use Rattle.std.proofs.Common.{◌≡◌, ◌<◌, ◌+◌, ◌-◌, ◌*◌, ◌%◌, ◌++◌, ◌∷◌, ap, sym, ◌∙◌, arith}
use Rattle.std.proofs.Math.Nat.{mod-lt}
use Rattle.awk_made.specs.Draws.{draw, after_draws, muons, events}
use Rattle.awk_made.specs.Session.{number_bytes, stops, pt_bytes, charge_bytes}
use Rattle.awk_made.proofs.Steps.{events_from, length-muons, made_on}
use Rattle.awk_made.proofs.draws.draw_events.Goals as goal

pub loop-i-preserved : goal.loop-i-preserved
loop-i-preserved c =
    let i = c.loop-i.invariant in
    let n = c.args.n in
    let k = c.loop-i.i in
    let s = c.loop-i.s in
    let d = c.draw-next.result in
    let rest = events (n - (k + 1)) c.in_ok-s.s in
    let next : d ≡ draw s = c.draw-next.ensures.value in
    let few : d % 4 < 4 = mod-lt d (omega arith) in
    let all : events (n - k) s ≡ muons (d % 4) d ∷ rest =
    events_from n k s c.loop-i-test.true ∙ ap (λ x. muons (x % 4) x ∷ events (n - (k + 1))
    (after_draws (2 * (x % 4)) x)) (sym next) ∙ ap
    (λ z. muons (d % 4) d ∷ events (n - (k + 1)) z) (sym c.in_ok-s.ensures.last.0) in
    let stopped : stops c.loop-i.count (events (n - k) s) ≡ (c.loop-i.count + d % 4) ∷ stops
    (c.loop-i.count + d % 4) rest =
    ap (stops c.loop-i.count) all ∙ ap (λ m. (c.loop-i.count + m) ∷ stops (c.loop-i.count + m) rest)
    (length-muons (d % 4) d) in
    record {
      below = c.in_ok-s.ensures.last.1;
      few = omega (arith, i.few, few);
      offsets =
          made_on number_bytes c.loop-i.offsets.items _ (c.loop-i.count + d % 4)
          (stops (c.loop-i.count + d % 4) rest) (stops c.loop-i.count (events (n - k) s)) _
          i.offsets stopped
          (c.in_ok-extend_from_slice-2.ensures.items ∙ ap (λ z. c.loop-i.offsets.items ++ z)
          c.to_le_bytes-in-loop-i.ensures);
      pts =
          made_on pt_bytes c.loop-i.pts.items _ (muons (d % 4) d) rest (events (n - k) s) _ i.pts
          all c.in_ok-s.ensures.pts;
      charges =
          made_on charge_bytes c.loop-i.charges.items _ (muons (d % 4) d) rest (events (n - k) s) _
          i.charges all c.in_ok-s.ensures.charges;
    }
