use Rattle.awk_hist.proofs.ListLaws.{never_index}
use Rattle.awk_hist.proofs.binning.BinningListOp.tells_index.Goals as goal

pub returns : goal.returns
returns c e t ls h = never_index c.args.self.now.edges.now t ls h
