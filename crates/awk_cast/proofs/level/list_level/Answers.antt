use Rattle.awk_columns.specs.Joined.{IsJoined}
use Rattle.awk_columns.specs.declared.lists.Joined.TheVariants as joined
use Rattle.awk_cast.proofs.ListLaws.{listed, many_told}
use Rattle.awk_cast.proofs.level.list_level.Goals as goal

pub returns-in-TooMany : goal.returns-in-TooMany
returns-in-TooMany g c p x h =
    let l = c.args.lists.now in
    let j : IsJoined l.starts l.stops l.content joined.TooMany =
    rw c.in-TooMany.is at c.in_ok-joined.ensures in
    many_told p l.class l.starts l.stops l.content x h j

pub returns-in_ok-only-in-Lists : goal.returns-in_ok-only-in-Lists
returns-in_ok-only-in-Lists g c p x h =
    let l = c.args.lists.now in
    let o = c.in-Lists.offsets in
    let z = c.in-Lists.content in
    let j : IsJoined l.starts l.stops l.content (joined.Lists o z) =
    rw c.in-Lists.is at c.in_ok-joined.ensures in
    rw (c.in_ok-only-in-Lists.ensures, c.class.ensures)
    (listed l.class l.starts l.stops o l.content z x h j.0 j.1)
