-- Where judging finds nothing, each tag keeps its rule.
use Rattle.std.proofs.Common.{length}
use Rattle.awk_valid.specs.Rules.{tag_rules}
use Rattle.awk_valid.proofs.Places.{rule_break-none}
use Rattle.awk_types.proofs.RefusalLaws.{refused_or-Ok}
use Rattle.awk_valid.proofs.lengths.judged_tags.Goals as goal

pub tag_lengths-requires-clause-judged : goal.tag_lengths-requires-clause-judged
tag_lengths-requires-clause-judged c = λ k l.
    rule_break-none c.args.node (length c.args.tags.now) k
    (tag_rules c.args.alternatives c.args.tags.now c.args.index.now)
    ((refused_or-Ok _ _ _ c.in_ok-judge_tags.ensures).0) l
