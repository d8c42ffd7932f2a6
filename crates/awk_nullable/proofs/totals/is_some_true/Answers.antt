use Rattle.std.proofs.Common.{ap, sym, ◌∙◌}
use Rattle.awk_nullable.specs.Numbers.{leaf_number}
use Rattle.awk_nullable.specs.Totals.{is_true_number}
use Rattle.awk_nullable.proofs.TruthLaws.{none_true, one_true}
use Rattle.awk_nullable.proofs.totals.is_some_true.Goals as goal

pub returns-then-is_true_there : goal.returns-then-is_true_there
returns-then-is_true_there g c =
    let lane = g.C.Cells.lane c.args.x.now.cells.now in
    let f = leaf_number (g.P.Places.at c.args.x.now.places.now) lane in
    sym (one_true f c.args.first c.args.count c.loop-i.i c.loop-i-test.true
    (ap is_true_number (sym c.number_of.ensures.number) ∙ sym c.is_true_there.ensures
    ∙ c.if-is_true_there.true))

pub loop-i-preserved : goal.loop-i-preserved
loop-i-preserved g c =
    let lane = g.C.Cells.lane c.args.x.now.cells.now in
    let f = leaf_number (g.P.Places.at c.args.x.now.places.now) lane in
    none_true f c.args.first c.loop-i.i
    (ap is_true_number (sym c.number_of.ensures.number) ∙ sym c.is_true_there.ensures
    ∙ c.if-is_true_there.false)
    c.loop-i.invariant
