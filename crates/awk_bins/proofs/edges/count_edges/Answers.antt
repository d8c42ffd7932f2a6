use Rattle.std.proofs.Common.{◌≡◌, List, ◌<◌, length, get_or, map, ap, sym, ◌∙◌, arith}
use Rattle.std.specs.Prelude.{ℤ, pos, int_le, nat_lt}
use Rattle.std.proofs.lemmas.Grind.{common_steps}
use Rattle.std.proofs.lemmas.List.{get_or-map}
use Rattle.awk_bins.specs.Tallies.{edges_up_to}
use Rattle.awk_bins.proofs.NearLaws.{one_more}
use Rattle.awk_bins.proofs.edges.count_edges.Goals as goal

pub loop-i-preserved : goal.loop-i-preserved
loop-i-preserved g c =
    let es = c.args.edges.now.all.now in
    let near = c.args.edges.now.near.now in
    let f = g.N.Number.number in
    let i = c.loop-i.i in
    let z : ℤ = f c.args.z.now in
    let ks : List ℤ = map f near in
    let many : i < length ks = grind (arith, common_steps, c.loop-i-test.true) in
    let k : get_or ks i (pos 0) ≡ f (get_or near i c.index-edges-i.result) =
    get_or-map f near i c.index-edges-i.result (pos 0) c.loop-i-test.true in
    let told : c.reaches.result ≡ nat_lt i (edges_up_to es z) =
    c.reaches.ensures ∙ ap (λ e. int_le e z) (sym k)
    ∙ c.requires.near.reached z i c.show_range.ensures.least c.show_range.ensures.greatest many in
    one_more (edges_up_to es z) i c.loop-i.count c.from-count.result c.reaches.result
    c.loop-i.invariant told c.from-count.ensures
