use Rattle.std.proofs.Common.{arith}
use Rattle.awk_nullable_lists.proofs.lists.span_of.Goals as goal

pub returns-clause-items : goal.returns-clause-items
returns-clause-items g c = record {
  within = λ some. omega (arith, c.span_of.ensures.within some, c.requires.ready.size);
  small = c.span_of.ensures.small;
  few = omega (
    arith,
    c.span_of.ensures.length,
    c.requires.ready.few c.args.i c.requires.within,
  );
  leads = c.requires.ready.leads;
}
