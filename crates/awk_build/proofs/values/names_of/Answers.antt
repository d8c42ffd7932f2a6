use Rattle.awk_plain.proofs.JudgedLaws.{names_distinct}
use Rattle.awk_build.proofs.values.names_of.Goals as goal

pub returns-in_err-new-clause-distinct : goal.returns-in_err-new-clause-distinct
returns-in_err-new-clause-distinct c =
    names_distinct c.args.members.now.entries c.iter-key-items.ensures.ordered

pub returns-in_err-push-clause-distinct : goal.returns-in_err-push-clause-distinct
returns-in_err-push-clause-distinct c =
    names_distinct c.args.members.now.entries c.iter-key-items.ensures.ordered

pub returns-clause-distinct : goal.returns-clause-distinct
returns-clause-distinct c =
    names_distinct c.args.members.now.entries c.iter-key-items.ensures.ordered
