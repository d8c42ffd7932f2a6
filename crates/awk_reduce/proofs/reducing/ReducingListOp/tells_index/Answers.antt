use Rattle.awk_reduce.proofs.ListLaws.{reduced-never}
use Rattle.awk_reduce.proofs.reducing.ReducingListOp.tells_index.Goals as goal

pub returns : goal.returns
returns g c e t ls h = reduced-never c.args.self.now.how t ls h
