use Rattle.std.proofs.Common.{◌≡◌, arith}
use Rattle.awk_lanes.specs.Numbers.{int_of}
use Rattle.awk_select.specs.Kept.{kept}
use Rattle.awk_jagged_places.specs.Leaves.{mask_at}
use Rattle.awk_jagged_places.proofs.MaskLaws.{marks-put, marks-room}
use Rattle.awk_jagged_places.proofs.masks.Kept.put_list.Goals as goal

pub push_if-requires-clause-room : goal.push_if-requires-clause-room
push_if-requires-clause-room g c =
    marks-room c.args.self.now.xs.now c.args.self.now.ws.now c.args.i c.loop-k.k c.args.made.now
    c.loop-k.made c.requires.room
    (omega (arith, c.loop-k-test.true, c.span_of-by.ensures.length)) c.loop-k.invariant

pub loop-k-preserved : goal.loop-k-preserved
loop-k-preserved g c =
    let z : kept c.mark-mark.result.keep (int_of c.mark-mark.result.number)
    ≡ mask_at c.args.self.now.xs.now c.args.self.now.ws.now c.args.i c.loop-k.k =
    rw (c.span_of-from.ensures.start, c.span_of-by.ensures.start) at c.mark-mark.ensures.numbers in
    marks-put c.args.self.now.xs.now c.args.self.now.ws.now c.args.i c.loop-k.k
    (kept c.mark-mark.result.keep (int_of c.mark-mark.result.number)) c.args.made.now
    c.loop-k.made c.push_if.new.self z c.loop-k.invariant c.push_if.ensures
