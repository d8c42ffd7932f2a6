use Rattle.std.proofs.Common.{sym, subst}
use Rattle.awk_layout.specs.Layout.{layouts_from}
use Rattle.awk_layout.specs.Valid.{AllReach}
use Rattle.awk_hist.proofs.RowLaws.{fields_reach}
use Rattle.awk_hist.proofs.rows.row_node.Goals as goal

pub row-requires-clause-valid : goal.row-requires-clause-valid
row-requires-clause-valid g c =
    subst (λ ys. AllReach c.args.n (layouts_from ys)) (sym c.in_ok-nodes.ensures)
    (fields_reach c.args.n c.args.length c.args.binned.now c.args.nulls.now c.requires.sizes)
