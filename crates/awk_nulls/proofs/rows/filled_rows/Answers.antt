use Rattle.std.proofs.Common.{arith}
use Rattle.awk_lanes.proofs.PlaceLaws.{option-index}
use Rattle.awk_nulls.specs.Lanes.{AreRowOffsets}
use Rattle.awk_nulls.proofs.PresentLaws.{option_size, option_fits}
use Rattle.awk_nulls.proofs.RowLaws.{rows_fine, rows_given, rows_spoilt}
use Rattle.awk_nulls.proofs.rows.filled_rows.Goals as goal

pub index_of-requires : goal.index_of-requires
index_of-requires g c = option-index c.args.index.now.kind c.requires.items.kind

pub row_offsets-requires-clause-size : goal.row_offsets-requires-clause-size
row_offsets-requires-clause-size g c =
    rw (c.in_ok-places.ensures, c.in_ok-bounds.ensures)
    (option_size c.args.lists.now.content c.args.index.now c.args.items.now c.requires.items)

pub row_offsets-requires-clause-small : goal.row_offsets-requires-clause-small
row_offsets-requires-clause-small g c =
    rw c.in_ok-places.ensures (option_fits c.args.lists.now.content c.args.index.now
    c.args.items.now c.content.ensures.lists.valid c.requires.items)

pub returns-then-total-gt-ITEM_LIMIT : goal.returns-then-total-gt-ITEM_LIMIT
returns-then-total-gt-ITEM_LIMIT g c =
    let l = c.args.lists.now in
    let r : AreRowOffsets c.args.index.now l.starts l.stops c.in-Some.offsets =
    rw (c.in-Some.is, c.in_ok-bounds.ensures, c.in_ok-places.ensures)
    at c.in_ok-offsets.ensures in
    rows_spoilt l.class l.starts l.stops l.content c.content.ensures.lists c.args.index.now
    c.args.items.now c.requires.items c.in-Some.offsets r
    (omega (arith, c.if-total-gt-ITEM_LIMIT.true))

pub returns-in_ok-copy-in-Some : goal.returns-in_ok-copy-in-Some
returns-in_ok-copy-in-Some g c =
    let l = c.args.lists.now in
    let r : AreRowOffsets c.args.index.now l.starts l.stops c.in-Some.offsets =
    rw (c.in-Some.is, c.in_ok-bounds.ensures, c.in_ok-places.ensures)
    at c.in_ok-offsets.ensures in
    rw (c.in_ok-copy-in-Some.ensures, c.node.ensures) (
      rows_fine l.class l.starts l.stops l.content c.content.ensures.lists c.args.index.now
          c.args.items.now c.requires.items c.in-Some.offsets r
          (omega (arith, c.if-total-gt-ITEM_LIMIT.false)),
      rows_given l.class l.starts l.stops l.content c.content.ensures.lists c.args.index.now
          c.args.items.now c.requires.items c.in-Some.offsets r c.len.ensures.items,
    )
