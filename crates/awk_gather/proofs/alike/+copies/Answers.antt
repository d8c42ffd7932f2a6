use Rattle.std.proofs.Common.{rules}
use Rattle.awk_layout.specs.Contents.{height-get}
use Rattle.awk_layout.specs.Valid.{len}
use Rattle.awk_gather.proofs.AlikeNodes.{AreAllCopies-push, found_copies, found_all, rows_named}
use Rattle.awk_gather.proofs.AlikeNodes.{rows_copies, reach_of_copies, regular_copies}
use Rattle.awk_gather.proofs.alike.+copies.Goals as goal

pub copies_of_all-copies-requires : goal.copies_of_all-copies-requires
copies_of_all-copies-requires g t c κs within =
    let h = height-get c.args.xs.now c.loop-i.i c.get.result.now c.get.ensures in
    search rules

pub copies_of_all-loop-i-preserved : goal.copies_of_all-loop-i-preserved
copies_of_all-loop-i-preserved g t c =
    let found = found_copies c.in_ok-part.field-0 c.get.result.now c.in-Some.part c.args.n
    c.in-Some.is c.in_ok-part.ensures.copies in
    rw c.in_ok-push.ensures.ok (AreAllCopies-push c.args.n c.args.xs.now c.loop-i.i c.get.result.now
    c.loop-i.made c.in-Some.part c.get.ensures c.loop-i.invariant found)

pub copies-row-requires-clause-names : goal.copies-row-requires-clause-names
copies-row-requires-clause-names g t c =
    let found = found_all c.in_ok-contents-in-Row.field-0 c.in-Row.contents.now c.in-Some.contents
    c.args.n c.in-Some.is c.in_ok-contents-in-Row.ensures.copies in
    rows_named _ c.in_ok-names-in-Row.names (len c.args.x.now) c.args.n c.in-Row.contents.now
    c.in-Some.contents c.args.x.now c.in-Row.ensures.class c.class.ensures.valid found
    c.in_ok-names-in-Row.ensures

pub copies-row-requires-clause-valid : goal.copies-row-requires-clause-valid
copies-row-requires-clause-valid g t c =
    reach_of_copies c.args.n c.in-Row.contents.now c.in-Some.contents
    (found_all c.in_ok-contents-in-Row.field-0 c.in-Row.contents.now c.in-Some.contents c.args.n
    c.in-Some.is c.in_ok-contents-in-Row.ensures.copies)

pub copies-returns-in_ok-names-in-Row : goal.copies-returns-in_ok-names-in-Row
copies-returns-in_ok-names-in-Row g t c =
    let found = found_all c.in_ok-contents-in-Row.field-0 c.in-Row.contents.now c.in-Some.contents
    c.args.n c.in-Some.is c.in_ok-contents-in-Row.ensures.copies in
    record {
      copies = rows_copies _ c.in_ok-names-in-Row.names (len c.args.x.now) c.args.n
          c.in-Row.contents.now c.in-Some.contents c.args.x.now c.row.result c.in-Row.ensures.class
          found c.in_ok-names-in-Row.ensures c.row.ensures.node;
    }

pub copies-returns-in_ok-part-in-Regular-2 : goal.copies-returns-in_ok-part-in-Regular-2
copies-returns-in_ok-part-in-Regular-2 g t c =
    let found = found_copies c.in_ok-part-in-Regular.field-0 c.in-Regular.content.now
    c.in-Some-2.part c.in_ok-count-in-Regular.count c.in-Some-2.is
    c.in_ok-part-in-Regular.ensures.copies in
    record {
      copies = regular_copies c.in-Regular.size (len c.args.x.now) c.args.n
          c.in_ok-count-in-Regular.count c.args.x.now c.in-Regular.content.now c.in-Some-2.part
          c.in_ok-part-in-Regular-2.part.value c.regular.result c.in-Regular.ensures.class
          c.in_ok-count-in-Regular.ensures.0 found c.in_ok-part-in-Regular-2.ensures.ok
          c.regular.ensures.node;
    }
