use Rattle.std.proofs.Common.{◌≡◌, ◌+◌, ◌<◌, ◌≤◌, List, map}
use Rattle.std.proofs.Common.{take, length, get_or, set, ap, sym, ◌∙◌}
use Rattle.std.proofs.Common.{arith}
use Rattle.std.specs.Prelude.{ℤ, pos}
use Rattle.std.proofs.lemmas.Grind.{common_steps}
use Rattle.std.proofs.lemmas.List.{take-map, get_or-map}
use Rattle.awk_bins.specs.Tallies.{edges_up_to, tallies}
use Rattle.awk_bins.proofs.TallyLaws.{tallies_none, tallies_few, tallies-more}
use Rattle.awk_bins.proofs.tallies.tally_row.Goals as goal

pub loop-i-init : goal.loop-i-init
loop-i-init g c = record {
  made = c.clear.ensures
      ∙ tallies_none c.args.edges.now.all.now (length c.args.tallies.now) c.requires.size;
}

pub overflow_add-tallies : goal.overflow_add-tallies
overflow_add-tallies g c =
    let es = c.args.edges.now.all.now in
    let zs : List ℤ = map g.N.Number.number (take c.loop-i.i c.args.row.now) in
    let p = c.edges_up_to.result in
    let few = tallies_few es zs p (omega (arith, c.edges_up_to.ensures.bound)) in
    let count : length zs ≤ length c.args.row.now = grind (arith, common_steps) in
    let same : get_or c.loop-i.tallies p 0 ≡ get_or (tallies es zs) p 0 =
    ap (λ ts. get_or ts p 0) c.loop-i.invariant.made in
    omega (arith, few, count, same, c.requires.few)

pub loop-i-preserved : goal.loop-i-preserved
loop-i-preserved g c =
    let es = c.args.edges.now.all.now in
    let xs = c.args.row.now in
    let f = g.N.Number.number in
    let i = c.loop-i.i in
    let p = c.edges_up_to.result in
    let zs : List ℤ = map f xs in
    let many : i < length zs = grind (arith, common_steps, c.loop-i-test.true) in
    let z : get_or zs i (pos 0) ≡ f c.index-row-i.result =
    get_or-map f xs i c.index-row-i.result (pos 0) c.loop-i-test.true
    ∙ ap f (sym c.index-row-i.is) in
    let place : p ≡ edges_up_to es (get_or zs i (pos 0)) =
    c.edges_up_to.ensures.count ∙ ap (edges_up_to es) (sym z) in
    let was : c.loop-i.tallies ≡ tallies es (take i zs) =
    c.loop-i.invariant.made ∙ ap (tallies es) (sym (take-map f i xs)) in
    record {
      made = ap (λ ts. set ts p (get_or ts p 0 + 1)) was ∙ tallies-more es zs i p many place
          ∙ ap (tallies es) (take-map f (i + 1) xs);
    }
