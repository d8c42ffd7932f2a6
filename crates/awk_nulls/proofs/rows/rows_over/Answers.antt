use Rattle.std.proofs.Common.{sym, subst, ◌∙◌}
use Rattle.awk_layout.specs.Layout.{Layout}
use Rattle.awk_open.specs.Opened.{IsOpened}
use Rattle.awk_open.specs.declared.opening.Opened.TheVariants.{Option as Optional}
use Rattle.awk_nulls.proofs.rows.rows_over.Goals as goal

pub indexed_rows-requires : goal.indexed_rows-requires
indexed_rows-requires g c = record {
  opened = subst (λ (y : Layout). IsOpened c.args.lists.now.content (Optional c.args.index.now y))
      (sym (c.in-Numpy.ensures.class ∙ c.node.ensures)) c.requires.opened;
}
