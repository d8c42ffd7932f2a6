-- What the kernel found is the first break of the rule, and where it found nothing there is none.
use Rattle.std.proofs.Common.{ap, sym, arith}
use Rattle.awk_valid.specs.Loading.{judged}
use Rattle.awk_valid.proofs.SearchLaws.{lists-clear, lists-broken}
use Rattle.awk_valid.proofs.judge.judge_lists.Goals as goal

pub returns-in-None : goal.returns-in-None
returns-in-None g c =
    ap judged
    (lists-clear c.args.node c.args.starts.now c.args.stops.now c.requires (sym c.in-None.ensures))

pub broken_rule-requires-clause-start : goal.broken_rule-requires-clause-start
broken_rule-requires-clause-start g c =
    (lists-broken c.args.node c.in-Some.place c.args.starts.now c.args.stops.now c.requires
    (sym c.in-Some.ensures)).0

pub broken_rule-requires-clause-stop : goal.broken_rule-requires-clause-stop
broken_rule-requires-clause-stop g c =
    let found =
    lists-broken c.args.node c.in-Some.place c.args.starts.now c.args.stops.now c.requires
    (sym c.in-Some.ensures) in
    omega (arith, found.0, c.requires)

pub returns-in-Some : goal.returns-in-Some
returns-in-Some g c =
    let found =
    lists-broken c.args.node c.in-Some.place c.args.starts.now c.args.stops.now c.requires
    (sym c.in-Some.ensures) in
    rw c.broken_rule.ensures (ap judged found.1)
