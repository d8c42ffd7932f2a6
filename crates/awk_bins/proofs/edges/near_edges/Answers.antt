use Rattle.std.proofs.Common.{◌≤◌, length, List, map, arith}
use Rattle.std.specs.Prelude.{ℤ}
use Rattle.awk_bins.proofs.NearLaws.{all_near, none_above, none_left, moved_pushed}
use Rattle.awk_bins.proofs.edges.near_edges.Goals as goal

pub returns-in-None : goal.returns-in-None
returns-in-None g c =
    let es = c.args.edges.now in
    let ks : List ℤ = map g.N.Number.number c.loop-i.near.items in
    all_near g.N.Number.least g.N.Number.greatest es ks c.loop-i.i c.requires
    (omega (arith, c.loop-i-test.true)) c.loop-i.invariant
    (none_above es c.loop-i.i g.N.Number.greatest c.requires c.loop-i-test.true c.in-None.ensures)

pub loop-i-preserved : goal.loop-i-preserved
loop-i-preserved g c =
    moved_pushed g.N.Number.number g.N.Number.least g.N.Number.greatest c.args.edges.now
    c.loop-i.near.items c.push.new.self.items c.loop-i.i c.in-Some.edge
    c.in_ok-push-in-Some.ensures.items c.loop-i.invariant c.in-Some.ensures

pub returns : goal.returns
returns g c =
    let es = c.args.edges.now in
    let ks : List ℤ = map g.N.Number.number c.loop-i.near.items in
    let end : c.loop-i.i ≤ length es = omega arith in
    all_near g.N.Number.least g.N.Number.greatest es ks c.loop-i.i c.requires end
    c.loop-i.invariant
    (λ z b. omega (arith, none_left es z, c.loop-i-test.false))
