use Rattle.std.proofs.Common.{◌≡◌, ◌+◌, ◌-◌, ◌≤◌, length, take, drop, sym, ap, ◌∙◌, arith}
use Rattle.std.specs.Prelude.{cond}
use Rattle.awk_nullable.proofs.CountLaws.{set_count, present-bytes}
use Rattle.awk_nullable.proofs.places.ByteMaskPlaces.present.Goals as goal

pub returns : goal.returns
returns g c =
    let m = c.args.self.now in
    let a = c.args.first in
    let n = c.args.count in
    let gs = m.bytes.now in
    let part : (a + n) - a ≡ n = omega arith in
    let set : c.set_in.result ≡ set_count (take n (drop a gs)) =
    c.set_in.ensures ∙ ap (λ k. set_count (take k (drop a gs))) part in
    let within : a + n ≤ length gs = c.requires.within (omega (arith, c.if-count-eq0.false)) in
    c.agreeing.ensures ∙ ap (λ s. cond m.valid_when s (n - s)) set
    ∙ sym (present-bytes gs m.valid_when a n within)
