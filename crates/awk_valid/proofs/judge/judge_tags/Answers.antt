-- The loop ends at the first place that breaks its rule, or behind the last place.
use Rattle.std.proofs.Common.{ap, sym, arith, length}
use Rattle.awk_valid.specs.Loading.{judged}
use Rattle.awk_valid.specs.Rules.{tag_rules}
use Rattle.awk_valid.proofs.SearchLaws.{rule_break-clear, rule_break-first}
use Rattle.awk_valid.proofs.judge.judge_tags.Goals as goal

pub returns-in-Some : goal.returns-in-Some
returns-in-Some c =
    ap judged
    (rule_break-first c.args.node (length c.args.tags.now) c.loop-place.place
    (tag_rules c.args.alternatives c.args.tags.now c.args.index.now) c.in-Some.rule
    (omega (arith, c.loop-place-test.true)) c.loop-place.invariant (sym c.in-Some.ensures))

pub returns : goal.returns
returns c =
    ap judged
    (rule_break-clear c.args.node (length c.args.tags.now)
    (tag_rules c.args.alternatives c.args.tags.now c.args.index.now)
    (λ k l. c.loop-place.invariant k (omega (arith, c.loop-place-test.false))))
