use Rattle.std.proofs.Common.{◌+◌, ◌++◌, ◌∷◌, [], arith, unwrap_or}
use Rattle.awk_json.proofs.Joins.{stops_at, goes_to}
use Rattle.awk_text.specs.Buffers.{texts_from}
use Rattle.awk_text.proofs.BufferTexts.{texts_from-append}
use Rattle.awk_text.proofs.buffers.write_two.Goals as goal

pub returns-in_err-write_next-clause-bytes : goal.returns-in_err-write_next-clause-bytes
returns-in_err-write_next-clause-bytes g c =
    let ks = (unwrap_or c.args.key.now [] ++ c.args.first.now) ∷ [] in
    let ls = (unwrap_or c.args.key.now [] ++ c.args.second.now) ∷ [] in
    rw (texts_from-append c.args.next.now ks ls c.args.lanes.now)
    (stops_at _ (texts_from c.args.next.now ks c.args.lanes.now) _
    c.in_err-write_next.ensures.bytes (grind arith))

pub returns-clause-bytes : goal.returns-clause-bytes
returns-clause-bytes g c =
    let ks = (unwrap_or c.args.key.now [] ++ c.args.first.now) ∷ [] in
    let ls = (unwrap_or c.args.key.now [] ++ c.args.second.now) ∷ [] in
    let second = rw c.write_next.ensures.next at c.write_next-2.ensures.bytes in
    rw (texts_from-append c.args.next.now ks ls c.args.lanes.now)
    (goes_to _ (texts_from c.args.next.now ks c.args.lanes.now)
    (texts_from (c.args.next.now + 1) ls c.args.lanes.now) c.in_ok-write_next.ensures.bytes
    second)
