use Rattle.awk_columns.specs.Joined.{IsJoined}
use Rattle.awk_columns.specs.declared.lists.Joined.TheVariants.{Lists}
use Rattle.awk_nulls.proofs.SingleLaws.{singles_given, singles_spoilt, singles_fine}
use Rattle.awk_nulls.proofs.singles.SingleListsListOp.column.Goals as goal

pub returns-in-TooMany : goal.returns-in-TooMany
returns-in-TooMany g c =
    singles_spoilt c.args.lists.now.starts c.args.lists.now.stops c.args.lists.now.content
    (rw c.in-TooMany.is at c.in_ok-joined.ensures)

pub returns-in_ok-singles-in-Lists : goal.returns-in_ok-singles-in-Lists
returns-in_ok-singles-in-Lists g c =
    let j : IsJoined c.args.lists.now.starts c.args.lists.now.stops c.args.lists.now.content
    (Lists c.in-Lists.offsets c.in-Lists.content) =
    rw c.in-Lists.is at c.in_ok-joined.ensures in (
      singles_fine c.args.lists.now.starts c.args.lists.now.stops c.args.lists.now.content j.0,
      singles_given c.args.lists.now.class c.args.lists.now.starts c.args.lists.now.stops
          c.args.lists.now.content
          c.in-Lists.offsets c.in-Lists.content c.in_ok-singles-in-Lists.singles
          c.content.ensures.lists
          j.1 c.len.ensures.items c.in_ok-singles-in-Lists.ensures,
    )
