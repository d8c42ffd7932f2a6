use Rattle.awk_list_functions.proofs.IndexLaws.{too_many-never}
use Rattle.awk_nulls.proofs.singles.SingleListsListOp.tells_index.Goals as goal

pub returns : goal.returns
returns c e t ls h = too_many-never _ h
