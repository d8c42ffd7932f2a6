-- The first negative index is the first break of the rule.
use Rattle.std.proofs.Common.{ap, sym}
use Rattle.awk_valid.specs.Loading.{judged}
use Rattle.awk_valid.proofs.SearchLaws.{indexes-clear, indexes-broken}
use Rattle.awk_valid.proofs.judge.judge_indexes.Goals as goal

pub returns-in-None : goal.returns-in-None
returns-in-None c = ap judged (indexes-clear c.args.node c.args.index.now (sym c.in-None.ensures))

pub returns-in-Some : goal.returns-in-Some
returns-in-Some c =
    ap judged (indexes-broken c.args.node c.in-Some.place c.args.index.now (sym c.in-Some.ensures))
