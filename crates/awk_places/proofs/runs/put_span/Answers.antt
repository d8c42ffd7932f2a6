use Rattle.std.proofs.Common.{◌≡◌, ◌-◌, ◌++◌, IfOk, subst, arith}
use Rattle.awk_places.proofs.RunLaws.{span_once}
use Rattle.awk_places.proofs.runs.put_span.Goals as goal

pub returns-then-after-eq1 : goal.returns-then-after-eq1
returns-then-after-eq1 c =
    subst
    (λ ks. IfOk c.put_places.result (λ x. c.put_places.new.made ≡ c.args.made.now ++ ks))
    (span_once c.args.after c.args.first (c.args.end - c.args.first)
    (omega (arith, c.if-after-eq1.true)))
    c.put_places.ensures
