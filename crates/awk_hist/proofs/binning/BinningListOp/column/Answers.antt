use Rattle.awk_layout.specs.Typing.{array_type}
use Rattle.awk_hist.proofs.ListLaws.{numbers_taken}
use Rattle.awk_hist.proofs.binning.BinningListOp.column.Goals as goal

pub binned_lists-requires-clause-numbers : goal.binned_lists-requires-clause-numbers
binned_lists-requires-clause-numbers g c =
    numbers_taken c.args.self.now.edges.now (array_type c.args.lists.now.content)
    c.requires.accepted
