use Rattle.std.proofs.Common.{◌≤◌, None, Some, arith, sym, ◌∙◌}
use Rattle.awk_types.specs.ItemLimit.{item_limit}
use Rattle.awk_lanes.specs.Counted.{before}
use Rattle.awk_lanes.specs.Places.{size_of}
use Rattle.awk_columns.specs.Lists.{span_length}
use Rattle.awk_list_ends.specs.Total.{IsEvenTotal}
use Rattle.awk_lists.proofs.LocalLaws.{local-length, local_spoilt, local_fine, even_given}
use Rattle.awk_lists.proofs.LocalLaws.{even_count, even_sized}
use Rattle.awk_lists.proofs.indexes.even_places.Goals as goal

pub returns-in-None : goal.returns-in-None
returns-in-None g c =
    let l = c.args.lists.now in
    let t : IsEvenTotal (size_of l.starts) c.args.size None =
    rw (c.in-None.is, c.len-n.ensures.len) at c.even_total.ensures in
    let n = even_count l.class c.args.size l.starts l.stops l.content c.content.ensures.lists
    c.requires.class in
    local_spoilt l.starts l.stops l.content (omega (arith, t, n))

pub local_items-requires-clause-few : goal.local_items-requires-clause-few
local_items-requires-clause-few g c =
    let t : IsEvenTotal (size_of c.args.lists.now.starts) c.args.size (Some c.in-Some.total) =
    rw (c.in-Some.is, c.len-n.ensures.len) at c.even_total.ensures in
    t.1

pub local_items-requires-clause-total : goal.local_items-requires-clause-total
local_items-requires-clause-total g c =
    let l = c.args.lists.now in
    let t : IsEvenTotal (size_of l.starts) c.args.size (Some c.in-Some.total) =
    rw (c.in-Some.is, c.len-n.ensures.len) at c.even_total.ensures in
    let n = even_count l.class c.args.size l.starts l.stops l.content c.content.ensures.lists
    c.requires.class in
    rw (c.in_ok-bounds-in-Some.ensures, c.len-n.ensures.len) (t.0 ∙ sym n)

pub numpy-requires : goal.numpy-requires
numpy-requires g c =
    let l = c.args.lists.now in
    let t : IsEvenTotal (size_of l.starts) c.args.size (Some c.in-Some.total) =
    rw (c.in-Some.is, c.len-n.ensures.len) at c.even_total.ensures in
    let n = even_count l.class c.args.size l.starts l.stops l.content c.content.ensures.lists
    c.requires.class in
    rw (c.in_ok-items-in-Some.ensures, c.in_ok-bounds-in-Some.ensures, c.len-n.ensures.len)
    (omega (arith, local-length l.starts l.stops, t.0, t.1, n))

pub returns-in_ok-items-in-Some : goal.returns-in_ok-items-in-Some
returns-in_ok-items-in-Some g c =
    let l = c.args.lists.now in
    let t : IsEvenTotal (size_of l.starts) c.args.size (Some c.in-Some.total) =
    rw (c.in-Some.is, c.len-n.ensures.len) at c.even_total.ensures in
    let n = even_count l.class c.args.size l.starts l.stops l.content c.content.ensures.lists
    c.requires.class in
    let few : before (span_length l.starts l.stops) (size_of l.starts) ≤ item_limit =
    omega (arith, t.0, t.1, n) in (
      local_fine l.starts l.stops l.content few,
      even_sized l.class c.args.size c.requires.class,
      rw (
        c.numpy.ensures.node,
        c.in_ok-items-in-Some.ensures,
        c.in_ok-bounds-in-Some.ensures,
        c.len-n.ensures.len,
      )
          (even_given l.class c.args.size l.starts l.stops l.content c.content.ensures.lists
          c.requires.class few),
    )
