use Rattle.std.proofs.Common.{refl}
use Rattle.std.proofs.lemmas.Result.{IfOk-weaker}
use Rattle.awk_lanes.specs.Places.{size_of}
use Rattle.awk_list_functions.specs.Made.{IsMade}
use Rattle.awk_reduce.specs.Reduce.{reducer_function}
use Rattle.awk_reduce.proofs.ListLaws.{made_of_lists}
use Rattle.awk_reduce.proofs.nullable.reduced_by.Goals as goal

pub null_reduced-requires-clause-lists : goal.null_reduced-requires-clause-lists
null_reduced-requires-clause-lists g c = record {
  lists = c.content.ensures.lists;
  leaves = c.requires.leaves;
  few = c.requires.few;
}

pub returns : goal.returns
returns g c =
    let l = c.args.bounds.now in
    IfOk-weaker c.null_reduced.result _
    (IsMade (reducer_function c.args.how) l.class l.starts l.stops l.content)
    (λ m h. made_of_lists l c.args.how (size_of l.starts) m refl c.requires.few h)
    c.null_reduced.ensures
