use Rattle.std.proofs.Common.{arith, sym, ◌∙◌}
use Rattle.awk_columns.specs.Lists.{length_of}
use Rattle.awk_pair_levels.proofs.EvenLaws.{not_equal, all_equal, equal_next}
use Rattle.awk_pair_levels.proofs.alike.are_equal.Goals as goal

pub returns-then-length_at : goal.returns-then-length_at
returns-then-length_at g c =
    not_equal c.args.lead.now c.args.lists.now c.loop-i.i
    (omega (arith, c.loop-i-test.true, c.len-i-end.ensures.len))
    (λ e. c.if-length_at.true (c.length_at.ensures.length ∙ e ∙ sym
    c.length_at-in-loop-i.ensures.length))

pub loop-i-preserved : goal.loop-i-preserved
loop-i-preserved g c =
    equal_next (length_of c.args.lists.now) (length_of c.args.lead.now) c.loop-i.i
    (sym c.length_at.ensures.length ∙ c.if-length_at.false ∙ c.length_at-in-loop-i.ensures.length)
    c.loop-i.invariant

pub returns : goal.returns
returns g c =
    all_equal c.args.lead.now c.args.lists.now
    (λ k l. c.loop-i.invariant k
    (omega (arith, l, c.loop-i-test.false, c.len-i-end.ensures.len)))
