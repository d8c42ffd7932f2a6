use Rattle.std.proofs.Common.{◌≡◌, ◌*◌, ◌/◌, sym, ◌∙◌, subst, arith}
use Rattle.std.specs.Prelude.{true}
use Rattle.std.specs.List.{list_all}
use Rattle.awk_lanes.specs.Numbers.{is_nonzero}
use Rattle.awk_nullable.specs.Numbers.{leaf_number, numbers_from}
use Rattle.awk_nullable.proofs.TruthLaws.{all-blocks, all-end, all-last}
use Rattle.awk_nullable.proofs.totals.are_all_true.Goals as goal

pub returns-then-not-is_block_true : goal.returns-then-not-is_block_true
returns-then-not-is_block_true g c =
    let lane = g.C.Cells.lane c.args.x.now.cells.now in
    let f = leaf_number (g.P.Places.at c.args.x.now.places.now) lane in
    sym (all-end f c.args.first c.args.count c.loop-i.i c.loop-i-test.true c.loop-i.invariant
    (sym c.is_block_true.ensures ∙ c.if-not-is_block_true.true))

pub loop-i-preserved : goal.loop-i-preserved
loop-i-preserved g c =
    let lane = g.C.Cells.lane c.args.x.now.cells.now in
    let f = leaf_number (g.P.Places.at c.args.x.now.places.now) lane in
    all-blocks f c.args.first c.loop-i.i c.loop-i.invariant
    (sym c.is_block_true.ensures ∙ c.if-not-is_block_true.false)

pub returns : goal.returns
returns g c =
    let lane = g.C.Cells.lane c.args.x.now.cells.now in
    let f = leaf_number (g.P.Places.at c.args.x.now.places.now) lane in
    let blocks = c.args.count / 64 in
    let all : c.loop-i.i ≡ blocks = omega (arith, c.loop-i-test.false, c.loop-i.auto.i-end) in
    c.is_block_true-2.ensures
    ∙ sym (all-last f c.args.first c.args.count blocks (omega arith)
    (subst (λ i. list_all is_nonzero (numbers_from f c.args.first (i * 64)) ≡ true) all
    c.loop-i.invariant))
