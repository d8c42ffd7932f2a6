use Rattle.std.proofs.Common.{arith, refl}
use Rattle.awk_layout.specs.Layout.{flat}
use Rattle.awk_nulls.specs.Lanes.{AreRowOffsets, HasPresent}
use Rattle.awk_nulls.proofs.PresentLaws.{moved_present}
use Rattle.awk_nulls.proofs.RowLaws.{row_total, rows_fine, rows_given, named_spoilt}
use Rattle.awk_nulls.proofs.rows.number_rows.Goals as goal

pub row_offsets-requires-clause-size : goal.row_offsets-requires-clause-size
row_offsets-requires-clause-size g c = rw c.in_ok-bounds.ensures c.requires.opened.size

pub row_offsets-requires-clause-small : goal.row_offsets-requires-clause-small
row_offsets-requires-clause-small g c = c.requires.opened.valid.0

pub all_named-requires-clause-index : goal.all_named-requires-clause-index
all_named-requires-clause-index g c = c.requires.opened.valid.1

pub all_named-requires-clause-small : goal.all_named-requires-clause-small
all_named-requires-clause-small g c = c.requires.opened.valid.0

pub all_named-requires-clause-total : goal.all_named-requires-clause-total
all_named-requires-clause-total g c =
    let l = c.args.lists.now in
    let j = g.P.OptionIndex.lane c.args.index.now in
    let r : AreRowOffsets j l.starts l.stops c.in-Some.offsets =
    rw (c.in-Some.is, c.in_ok-bounds.ensures) at c.in_ok-offsets.ensures in
    row_total j l.starts l.stops c.in-Some.offsets r

pub returns-then-total-gt-ITEM_LIMIT : goal.returns-then-total-gt-ITEM_LIMIT
returns-then-total-gt-ITEM_LIMIT g c =
    let l = c.args.lists.now in
    let j = g.P.OptionIndex.lane c.args.index.now in
    let r : AreRowOffsets j l.starts l.stops c.in-Some.offsets =
    rw (c.in-Some.is, c.in_ok-bounds.ensures) at c.in_ok-offsets.ensures in
    named_spoilt l.class l.starts l.stops l.content c.content.ensures.lists j
    c.args.numbers.now c.requires.opened c.in-Some.offsets r
    (omega (arith, c.if-total-gt-ITEM_LIMIT.true))

pub returns-in_ok-copy-in-Some : goal.returns-in_ok-copy-in-Some
returns-in_ok-copy-in-Some g c =
    let l = c.args.lists.now in
    let j = g.P.OptionIndex.lane c.args.index.now in
    let lane = c.args.numbers.now in
    let z = c.in_ok-items-in-Some.items in
    let r : AreRowOffsets j l.starts l.stops c.in-Some.offsets =
    rw (c.in-Some.is, c.in_ok-bounds.ensures) at c.in_ok-offsets.ensures in
    let h : HasPresent l.content j z =
    moved_present j lane (flat lane) l.content z c.requires.opened refl
    c.in_ok-items-in-Some.ensures c.len.ensures.valid in
    rw (c.in_ok-copy-in-Some.ensures, c.node.ensures) (
      rows_fine l.class l.starts l.stops l.content c.content.ensures.lists j z h
          c.in-Some.offsets r (omega (arith, c.if-total-gt-ITEM_LIMIT.false)),
      rows_given l.class l.starts l.stops l.content c.content.ensures.lists j z h
          c.in-Some.offsets r c.len.ensures.items,
    )
