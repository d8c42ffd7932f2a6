use Rattle.std.proofs.Common.{sym, subst}
use Rattle.std.specs.Prelude.{IfOk}
use Rattle.awk_parts.specs.Fits.{AreFitting}
use Rattle.awk_parts.proofs.totals.fitting_lane.Goals as goal

pub returns-in-I64 : goal.returns-in-I64
returns-in-I64 g c =
    let f = g.S.Totals.at c.args.source.now in
    subst (λ p. IfOk c.fitting_ints.result (AreFitting p f c.args.n)) (sym c.in-I64.is)
    c.fitting_ints.ensures

pub returns-in-U64 : goal.returns-in-U64
returns-in-U64 g c =
    let f = g.S.Totals.at c.args.source.now in
    subst (λ p. IfOk c.fitting_nats.result (AreFitting p f c.args.n)) (sym c.in-U64.is)
    c.fitting_nats.ensures
