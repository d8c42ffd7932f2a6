use Rattle.std.proofs.Common.{sym, subst, ◌∙◌}
use Rattle.awk_layout.specs.Layout.{Layout, optional}
use Rattle.awk_layout.specs.Valid.{IsValid}
use Rattle.awk_open.specs.Opened.{IsOpened}
use Rattle.awk_open.specs.declared.opening.Opened.TheVariants.{Option as Optional}
use Rattle.awk_pair_present.proofs.present.named_in_order.Goals as goal

pub indexed_numbers-requires : goal.indexed_numbers-requires
indexed_numbers-requires g c = record {
  valid =
      subst (λ (y : Layout). IsValid (optional c.args.index.now y))
      (sym (c.in-Numpy.ensures.class ∙ c.node.ensures)) c.requires.opened.valid;
}

pub returns-in-Numpy-clause-opened : goal.returns-in-Numpy-clause-opened
returns-in-Numpy-clause-opened g c =
    c.indexed_numbers.ensures.opened c.args.x.now
    (subst (λ (y : Layout). IsOpened c.args.x.now (Optional c.args.index.now y))
    (sym (c.in-Numpy.ensures.class ∙ c.node.ensures)) c.requires.opened)

pub returns-in-Numpy-clause-order : goal.returns-in-Numpy-clause-order
returns-in-Numpy-clause-order g c =
    c.indexed_numbers.ensures.order c.args.x.now
    (subst (λ (y : Layout). IsOpened c.args.x.now (Optional c.args.index.now y))
    (sym (c.in-Numpy.ensures.class ∙ c.node.ensures)) c.requires.opened)
