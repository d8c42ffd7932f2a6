use Rattle.std.proofs.Common.{◌∙◌, ap, sym, subst, length}
use Rattle.std.specs.Prelude.{option_map}
use Rattle.awk_layout.specs.Contents.{count-layouts_from}
use Rattle.awk_layout.specs.Layout.{count, layouts_from}
use Rattle.awk_layout.specs.Valid.{AreNames, AllReach}
use Rattle.awk_open.proofs.LayoutParts.{reach_long}
use Rattle.awk_zip.proofs.rows.row_node.Goals as goal

pub row-requires-clause-valid : goal.row-requires-clause-valid
row-requires-clause-valid g c =
    subst (λ ys. AllReach c.args.n (layouts_from ys)) (sym c.in_ok-nodes.ensures)
    (reach_long c.args.n c.args.columns.now c.requires.long)

pub row-requires-clause-names : goal.row-requires-clause-names
row-requires-clause-names g c =
    subst (λ s. AreNames s (count (layouts_from c.in_ok-nodes.nodes))) (sym c.in_ok-named.ensures)
    (subst (λ m. AreNames (option_map (λ names. names.now) c.args.names) m)
    (sym (count-layouts_from c.in_ok-nodes.nodes ∙ ap length c.in_ok-nodes.ensures))
    c.requires.names)
