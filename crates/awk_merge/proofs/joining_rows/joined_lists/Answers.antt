use Rattle.std.proofs.Common.{◌≡◌, ◌*◌, ◌<◌, ℕ, None, sym, subst, arith}
use Rattle.awk_types.specs.DataType.{var}
use Rattle.awk_types.specs.ItemLimit.{item_limit}
use Rattle.awk_lanes.specs.Places.{size_of, IsOptionalIndex}
use Rattle.awk_layout.specs.Typing.{array_type}
use Rattle.awk_columns.specs.Joined.{IsJoined, JoinsLists, total}
use Rattle.awk_columns.specs.Lists.{AreLists}
use Rattle.awk_columns.specs.declared.lists.Joined.TheVariants.{TooMany, Lists}
use Rattle.awk_merge_operands.specs.Operands.{rows_lane, ends_in_rows}
use Rattle.awk_merge.proofs.JoinedRowLaws.{too-many, are-rising, joined-datum}
use Rattle.awk_merge_operands.proofs.ListPlaceLaws.{rows_index, ends_are}
use Rattle.awk_merge.proofs.joining_rows.joined_lists.Goals as goal

pub ends_in_rows-requires-clause-rows : goal.ends_in_rows-requires-clause-rows
ends_in_rows-requires-clause-rows g c =
    let n : ℕ = size_of c.args.rows.now in
    subst (λ r. IsOptionalIndex r n) (sym c.requires.rows)
    (rows_index c.args.index.now n c.args.k n (omega arith))

pub ends_in_rows-requires-2-clause-rows : goal.ends_in_rows-requires-2-clause-rows
ends_in_rows-requires-2-clause-rows g c =
    let n : ℕ = size_of c.args.rows.now in
    subst (λ r. IsOptionalIndex r n) (sym c.requires.rows)
    (rows_index c.args.index.now n c.args.k n (omega arith))

pub join_spans-requires : goal.join_spans-requires
join_spans-requires g c =
    let n : ℕ = size_of c.args.rows.now in
    let h : AreLists None
    (ends_in_rows c.args.index.now (rows_lane c.args.index.now n c.args.k) c.args.k
    c.args.starts.now)
    (ends_in_rows c.args.index.now (rows_lane c.args.index.now n c.args.k) c.args.k
    c.args.stops.now) c.args.content.now =
    ends_are c.args.index.now n c.args.k c.requires.lists.0 c.args.starts.now c.args.stops.now
    c.args.content.now c.requires.lists.1 c.requires.index c.requires.fits c.len.ensures.valid in
    rw (c.in_ok-firsts.ensures, c.in_ok-ends.ensures)
    (subst (λ r. AreLists None (ends_in_rows c.args.index.now r c.args.k c.args.starts.now)
    (ends_in_rows c.args.index.now r c.args.k c.args.stops.now) c.args.content.now)
    (sym c.requires.rows) h)

pub returns-in-TooMany : goal.returns-in-TooMany
returns-in-TooMany g c =
    let n : ℕ = size_of c.args.rows.now in
    let j : IsJoined c.in_ok-firsts.firsts c.in_ok-ends.ends c.args.content.now TooMany =
    rw c.in-TooMany.is at c.in_ok-join_spans.ensures in
    let m : item_limit < total
    (ends_in_rows c.args.index.now c.args.rows.now c.args.k c.args.starts.now)
    (ends_in_rows c.args.index.now c.args.rows.now c.args.k c.args.stops.now)
    c.args.content.now = rw (c.in_ok-firsts.ensures, c.in_ok-ends.ensures) at j in
    too-many c.args.index.now n c.args.k c.args.starts.now c.args.stops.now c.args.content.now
    (var (array_type c.args.content.now))
    (subst (λ r. item_limit < total (ends_in_rows c.args.index.now r c.args.k c.args.starts.now)
    (ends_in_rows c.args.index.now r c.args.k c.args.stops.now) c.args.content.now)
    c.requires.rows m)

pub lists_of_rows-requires-clause-small : goal.lists_of_rows-requires-clause-small
lists_of_rows-requires-clause-small g c =
    let n : ℕ = size_of c.args.rows.now in
    let w : n * c.args.k ≡ c.args.k * n = grind arith in
    rw c.len-in-Lists.ensures.len (omega (arith, w, c.requires.fits))

pub lists_of_rows-requires-clause-offsets : goal.lists_of_rows-requires-clause-offsets
lists_of_rows-requires-clause-offsets g c =
    let n : ℕ = size_of c.args.rows.now in
    let j : IsJoined c.in_ok-firsts.firsts c.in_ok-ends.ends c.args.content.now
    (Lists c.in-Lists.offsets c.in-Lists.content) =
    rw c.in-Lists.is at c.in_ok-join_spans.ensures in
    let h : JoinsLists (ends_in_rows c.args.index.now c.args.rows.now c.args.k c.args.starts.now)
    (ends_in_rows c.args.index.now c.args.rows.now c.args.k c.args.stops.now)
    c.args.content.now c.in-Lists.offsets c.in-Lists.content =
    rw (c.in_ok-firsts.ensures, c.in_ok-ends.ensures) at j.1 in
    rw c.len-in-Lists.ensures.len
    (are-rising c.args.index.now n c.args.k c.args.starts.now c.args.stops.now c.args.content.now
    c.in-Lists.offsets c.in-Lists.content
    (subst (λ r. JoinsLists (ends_in_rows c.args.index.now r c.args.k c.args.starts.now)
    (ends_in_rows c.args.index.now r c.args.k c.args.stops.now) c.args.content.now
    c.in-Lists.offsets c.in-Lists.content) c.requires.rows h))

pub returns-in_ok-lists_of_rows-in-Lists : goal.returns-in_ok-lists_of_rows-in-Lists
returns-in_ok-lists_of_rows-in-Lists g c =
    let n : ℕ = size_of c.args.rows.now in
    let j : IsJoined c.in_ok-firsts.firsts c.in_ok-ends.ends c.args.content.now
    (Lists c.in-Lists.offsets c.in-Lists.content) =
    rw c.in-Lists.is at c.in_ok-join_spans.ensures in
    let h : IsJoined (ends_in_rows c.args.index.now c.args.rows.now c.args.k c.args.starts.now)
    (ends_in_rows c.args.index.now c.args.rows.now c.args.k c.args.stops.now)
    c.args.content.now (Lists c.in-Lists.offsets c.in-Lists.content) =
    rw (c.in_ok-firsts.ensures, c.in_ok-ends.ensures) at j in
    let i : IsJoined
    (ends_in_rows c.args.index.now (rows_lane c.args.index.now n c.args.k) c.args.k
    c.args.starts.now)
    (ends_in_rows c.args.index.now (rows_lane c.args.index.now n c.args.k) c.args.k
    c.args.stops.now) c.args.content.now (Lists c.in-Lists.offsets c.in-Lists.content) =
    subst (λ r. IsJoined (ends_in_rows c.args.index.now r c.args.k c.args.starts.now)
    (ends_in_rows c.args.index.now r c.args.k c.args.stops.now) c.args.content.now
    (Lists c.in-Lists.offsets c.in-Lists.content)) c.requires.rows h in
    rw (c.in_ok-lists_of_rows-in-Lists.ensures, c.len-in-Lists.ensures.len)
    (joined-datum c.args.index.now n c.args.k c.args.starts.now c.args.stops.now
    c.args.content.now c.in-Lists.offsets c.in-Lists.content i.1 i.0)
