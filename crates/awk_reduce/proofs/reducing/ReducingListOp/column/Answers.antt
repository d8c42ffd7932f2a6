use Rattle.awk_layout.specs.Typing.{array_type}
use Rattle.awk_reduce.proofs.ListLaws.{leaves_taken}
use Rattle.awk_reduce.proofs.reducing.ReducingListOp.column.Goals as goal

pub reduced_lists-requires : goal.reduced_lists-requires
reduced_lists-requires g c = record {
  leaves = leaves_taken c.args.self.now.how (array_type c.args.lists.now.content)
      c.requires.accepted;
}
