use Rattle.awk_nullable.proofs.FindLaws.{item_there, item_none}
use Rattle.awk_nullable.proofs.extremes.item_of.Goals as goal

pub returns-then-place-count-clause-item : goal.returns-then-place-count-clause-item
returns-then-place-count-clause-item c =
    λ o h. item_there c.args.count o c.args.place c.if-place-count.true h

pub returns-else-place-count-clause-item : goal.returns-else-place-count-clause-item
returns-else-place-count-clause-item c =
    λ o h. item_none c.args.count o c.args.place c.if-place-count.false h
