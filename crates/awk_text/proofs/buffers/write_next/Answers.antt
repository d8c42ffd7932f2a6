use Rattle.std.proofs.Common.{◌++◌, [], refl, arith, append_assoc, unwrap_or}
use Rattle.std.proofs.lemmas.Option.{get_or_from_slice_get}
use Rattle.awk_json.proofs.Puts.{stops, goes}
use Rattle.awk_text.specs.Buffers.{lane_bytes}
use Rattle.awk_text.specs.Buffers.{no_lane, buffer_text, lane_at, separator as comma}
use Rattle.awk_text.proofs.BufferCosts.{numbers_before-more, numbers_before-grows}
use Rattle.awk_text.proofs.BufferTexts.{one_text}
use Rattle.awk_text.proofs.buffers.write_next.Goals as goal

pub returns-in_err-put-clause-bytes : goal.returns-in_err-put-clause-bytes
returns-in_err-put-clause-bytes g c =
    stops c.in_err-put.ensures.bytes (grind arith)
    (buffer_text (
      unwrap_or c.args.key.now [] ++ c.args.attribute.now,
      lane_bytes
          (lane_at c.args.lanes.now c.args.next.now),
    ) ++ [])
    (rw c.separator.ensures (simp append_assoc))

pub returns-clause-bytes : goal.returns-clause-bytes
returns-clause-bytes g c =
    let lane = get_or_from_slice_get c.args.lanes.now c.args.next.now c.get.result.now no_lane
    c.get.ensures in
    let text =
    buffer_text
    (unwrap_or c.args.key.now [] ++ c.args.attribute.now, lane_bytes c.get.result.now) in
    goes c.in_ok-put.ensures.bytes c.write_buffer.ensures.bytes text refl
    (rw (c.separator.ensures, lane) (one_text c.args.out.now.held (comma c.args.next.now) text))

pub returns-in_err-put-clause-cost : goal.returns-in_err-put-clause-cost
returns-in_err-put-clause-cost g c =
    omega (arith, numbers_before-grows c.args.next.now c.args.lanes.now)

pub returns-clause-cost : goal.returns-clause-cost
returns-clause-cost g c =
    let more = numbers_before-more c.args.next.now c.args.lanes.now c.get.result.now
    c.requires.within c.get.ensures in
    omega (arith, more, c.write_buffer.ensures.cost)
