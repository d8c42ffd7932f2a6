use Rattle.std.proofs.Common.{length, arith, subst, sym, ◌∙◌, ap}
use Rattle.awk_places.specs.Places.{rising_places, IsCounted}
use Rattle.awk_places.proofs.Paths.{count_with, count_without, count_none}
use Rattle.awk_places.proofs.counts.count_rising.Goals as goal

pub returns-else-m-eq0 : goal.returns-else-m-eq0
returns-else-m-eq0 c =
    subst (λ k. IsCounted k c.count_either.result)
    (count_with c.args.n c.args.m (omega (arith, c.if-m-eq0.false))
    ∙ ap (λ b. length (rising_places b c.args.n c.args.m)) (sym c.if-replacement.true))
    c.count_either.ensures

pub returns-then-m-n : goal.returns-then-m-n
returns-then-m-n c =
    let e = count_none c.args.n c.args.m c.if-m-n.true
    ∙ ap (λ b. length (rising_places b c.args.n c.args.m)) (sym c.if-replacement.false) in
    (e, omega (arith, e))

pub returns-else-m-n : goal.returns-else-m-n
returns-else-m-n c =
    subst (λ k. IsCounted k c.count_either-else-m-n.result)
    (count_without c.args.n c.args.m c.if-m-n.false
    ∙ ap (λ b. length (rising_places b c.args.n c.args.m)) (sym c.if-replacement.false))
    c.count_either-else-m-n.ensures
