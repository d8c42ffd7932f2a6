use Rattle.std.proofs.Common.{◌*◌, ◌<◌, ◌≤◌, arith, subst}
use Rattle.std.specs.Prelude.{◌^◌}
use Rattle.awk_types.specs.ItemLimit.{item_limit}
use Rattle.awk_lanes.specs.Places.{size_of}
use Rattle.awk_columns.specs.Joined.{IsJoined}
use Rattle.awk_columns.specs.declared.lists.Joined.TheVariants.{Lists}
use Rattle.awk_bins.specs.Bins.{intervals}
use Rattle.awk_hist.proofs.ListLaws.{items_many, counts_many, are_items, lists_binned, few_told}
use Rattle.awk_hist.proofs.binning.binned_lists.Goals as goal

pub returns-in-TooMany : goal.returns-in-TooMany
returns-in-TooMany g c =
    let l = c.args.lists.now in
    items_many c.args.edges.now l.starts l.stops l.content
    (subst (IsJoined l.starts l.stops l.content) c.in-TooMany.is c.in_ok-joined.ensures)

pub bins_node-requires-clause-items : goal.bins_node-requires-clause-items
bins_node-requires-clause-items g c =
    let l = c.args.lists.now in
    let j : IsJoined l.starts l.stops l.content (Lists c.in-Lists.offsets c.in-Lists.content) =
    subst (IsJoined l.starts l.stops l.content) c.in-Lists.is c.in_ok-joined.ensures in
    let fits : size_of l.starts < 2 ^ 63 =
    omega (arith, c.len-count.ensures.len, c.len-count.ensures.fits) in
    are_items l.starts l.stops l.content c.in-Lists.offsets c.in-Lists.content j.1
    c.len-count.result c.len-count.ensures.len j.0 fits c.requires.numbers

pub returns-then-not-are_few : goal.returns-then-not-are_few
returns-then-not-are_few g c =
    let l = c.args.lists.now in
    let es = c.args.edges.now in
    let many : item_limit < c.len-count.result * intervals es =
    grind (arith, c.if-not-are_few.true, c.are_few.ensures) in
    counts_many es l.starts l.stops l.content
    (subst (λ n. item_limit < n * intervals es) c.len-count.ensures.len many)

pub returns-in_ok-bins_node-in-Lists : goal.returns-in_ok-bins_node-in-Lists
returns-in_ok-bins_node-in-Lists g c =
    let l = c.args.lists.now in
    let es = c.args.edges.now in
    let j : IsJoined l.starts l.stops l.content (Lists c.in-Lists.offsets c.in-Lists.content) =
    subst (IsJoined l.starts l.stops l.content) c.in-Lists.is c.in_ok-joined.ensures in
    let few : c.len-count.result * intervals es ≤ item_limit =
    few_told c.are_few.result (c.len-count.result * intervals es) c.are_few.ensures
    c.if-not-are_few.false in
    lists_binned l.starts l.stops l.content c.in-Lists.offsets c.in-Lists.content j.1 es l.class
    c.len-count.result c.in_ok-bins_node-in-Lists.field-0 c.len-count.ensures.len j.0
    (subst (λ n. n * intervals es ≤ item_limit) c.len-count.ensures.len few)
    c.in_ok-bins_node-in-Lists.ensures
