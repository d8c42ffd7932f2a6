use Rattle.std.proofs.Common.{◌≡◌, ℕ, List, ◌+◌, ◌-◌, ◌/◌, ◌<◌, length, get_or, map, ap, sym}
use Rattle.std.proofs.Common.{◌∙◌, arith}
use Rattle.std.specs.Prelude.{ℤ, pos, int_le, nat_lt}
use Rattle.std.proofs.lemmas.List.{get_or-map, length-map}
use Rattle.awk_bins.specs.Tallies.{edges_up_to}
use Rattle.awk_bins.proofs.NearLaws.{halved, last_one}
use Rattle.awk_bins.proofs.edges.halve_edges.Goals as goal

pub loop-left-preserved : goal.loop-left-preserved
loop-left-preserved g c =
    let es = c.args.edges.now.all.now in
    let near = c.args.edges.now.near.now in
    let f = g.N.Number.number in
    let base = c.loop-left.base in
    let left = c.loop-left.left in
    let z : ℤ = f c.args.z.now in
    let ks : List ℤ = map f near in
    let i : ℕ = base + left / 2 - 1 in
    let within : i < length near =
    omega (arith, c.loop-left.invariant.within, c.loop-left-test.true) in
    let many : i < length ks = omega (arith, within, length-map near f) in
    let k : get_or ks i (pos 0) ≡ f (get_or near i c.index-edges-base.result) =
    get_or-map f near i c.index-edges-base.result (pos 0) within in
    let told : c.reaches.result ≡ nat_lt i (edges_up_to es z) =
    c.reaches.ensures ∙ ap (λ e. int_le e z) (sym k)
    ∙ c.requires.near.reached z i c.show_range.ensures.least c.show_range.ensures.greatest many in
    let h = halved (edges_up_to es z) base left c.unless-base.result c.reaches.result
    c.loop-left-test.true c.loop-left.invariant.from c.loop-left.invariant.below told
    c.unless-base.ensures in
    record {
      some = omega (arith, c.loop-left-test.true);
      within = omega (arith, h.0, c.loop-left.invariant.within);
      from = h.1;
      below = h.2;
    }

pub returns : goal.returns
returns g c =
    let es = c.args.edges.now.all.now in
    let near = c.args.edges.now.near.now in
    let f = g.N.Number.number in
    let base = c.loop-left.base in
    let left = c.loop-left.left in
    let z : ℤ = f c.args.z.now in
    let ks : List ℤ = map f near in
    let within : base < length near =
    omega (arith, c.loop-left.invariant.within, c.loop-left.invariant.some) in
    let many : base < length ks = omega (arith, within, length-map near f) in
    let k : get_or ks base (pos 0) ≡ f (get_or near base c.index-edges-base-2.result) =
    get_or-map f near base c.index-edges-base-2.result (pos 0) within in
    let told : c.reaches-2.result ≡ nat_lt base (edges_up_to es z) =
    c.reaches-2.ensures ∙ ap (λ e. int_le e z) (sym k)
    ∙ c.requires.near.reached z base c.show_range.ensures.least c.show_range.ensures.greatest
    many in
    last_one (edges_up_to es z) base left c.from.result c.reaches-2.result
    (omega (arith, c.loop-left-test.false)) c.loop-left.invariant.from
    c.loop-left.invariant.below told c.from.ensures
