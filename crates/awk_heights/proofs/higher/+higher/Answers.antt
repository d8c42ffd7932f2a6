use Rattle.std.proofs.Common.{sym, ◌∙◌}
use Rattle.awk_heights.proofs.HeightLaws.{over_none, over_some, not_over_next}
use Rattle.awk_heights.proofs.higher.+higher.Goals as goal

pub is_higher-returns-then-most-eq0 : goal.is_higher-returns-then-most-eq0
is_higher-returns-then-most-eq0 t c = over_none c.args.x.now c.args.most c.if-most-eq0.true

pub is_some_higher-returns-then-is_higher : goal.is_some_higher-returns-then-is_higher
is_some_higher-returns-then-is_higher t c =
    over_some c.args.xs.now c.loop-i.i c.get.result.now c.args.most c.get.ensures
    (sym c.is_higher.ensures ∙ c.if-is_higher.true)

pub is_some_higher-loop-i-preserved : goal.is_some_higher-loop-i-preserved
is_some_higher-loop-i-preserved t c =
    not_over_next c.args.xs.now c.loop-i.i c.get.result.now c.args.most c.get.ensures
    c.loop-i.invariant (sym c.is_higher.ensures ∙ c.if-is_higher.false)
