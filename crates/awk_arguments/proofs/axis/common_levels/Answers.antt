use Rattle.std.proofs.Common.{◌≡◌, None, sym, ◌∙◌, true, false}
use Rattle.awk_arguments.proofs.AxisLaws.{common-none, common-other, common-same}
use Rattle.awk_arguments.proofs.axis.common_levels.Goals as goal

pub returns-in_err-first-clause-levels : goal.returns-in_err-first-clause-levels
returns-in_err-first-clause-levels c =
    let none : c.datum_levels.result ≡ None = cc in
    let result : c.from_residual.result ≡ None = cc in
    result
    ∙ sym (common-none c.args.xs.now 0 c.get.result.now c.get.ensures.item
    (sym c.datum_levels.ensures.levels ∙ none))

pub returns-then-not-has_levels-clause-levels : goal.returns-then-not-has_levels-clause-levels
returns-then-not-has_levels-clause-levels c =
    let other : c.has_levels.result ≡ false = cc in
    sym (c.loop-k.invariant
    ∙ common-other c.args.xs.now c.loop-k.k c.get-in-loop-k.result.now
    c.get-in-loop-k.ensures.item c.in_ok-first.first (sym c.has_levels.ensures ∙ other))

pub loop-k-preserved : goal.loop-k-preserved
loop-k-preserved c =
    let same : c.has_levels.result ≡ true = cc in
    c.loop-k.invariant
    ∙ common-same c.args.xs.now c.loop-k.k c.get-in-loop-k.result.now
    c.get-in-loop-k.ensures.item c.in_ok-first.first (sym c.has_levels.ensures ∙ same)
