use Rattle.awk_columns.specs.Joined.{IsJoined}
use Rattle.awk_columns.specs.declared.lists.Joined.TheVariants.{Lists}
use Rattle.awk_nulls.proofs.NullLaws.{nulls_given, nulls_spoilt, nulls_fine}
use Rattle.awk_nulls.proofs.nulls.NullTestsListOp.column.Goals as goal

pub returns-in-TooMany : goal.returns-in-TooMany
returns-in-TooMany g c =
    nulls_spoilt c.args.lists.now.starts c.args.lists.now.stops c.args.lists.now.content
    (rw c.in-TooMany.is at c.in_ok-joined.ensures)

pub returns-in_ok-nulls-in-Lists : goal.returns-in_ok-nulls-in-Lists
returns-in_ok-nulls-in-Lists g c =
    let j : IsJoined c.args.lists.now.starts c.args.lists.now.stops c.args.lists.now.content
    (Lists c.in-Lists.offsets c.in-Lists.content) =
    rw c.in-Lists.is at c.in_ok-joined.ensures in (
      nulls_fine c.args.lists.now.starts c.args.lists.now.stops c.args.lists.now.content j.0,
      rw c.numpy.ensures.node (nulls_given c.args.lists.now.class c.args.lists.now.starts
          c.args.lists.now.stops
          c.args.lists.now.content c.in-Lists.offsets c.in-Lists.content
          c.in_ok-nulls-in-Lists.nulls
          c.content.ensures.lists c.len.ensures.valid j.1 c.in_ok-nulls-in-Lists.ensures),
    )
