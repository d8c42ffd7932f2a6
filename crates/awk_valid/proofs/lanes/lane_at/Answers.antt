-- The numbers are in bytes that a text encodes, or that were added.
use Rattle.std.proofs.Common.{arith, ap, sym, ◌∙◌}
use Rattle.std.specs.Prelude.{option_map}
use Rattle.awk_valid.proofs.BufferLaws.{lane_len-≤, IfOk-≤}
use Rattle.awk_store.proofs.ByKeyLaws.{bytes_len-≤, added_bytes_len-≤}
use Rattle.awk_valid.proofs.lanes.lane_at.Goals as goal

pub returns-in-Some-clause-short : goal.returns-in-Some-clause-short
returns-in-Some-clause-short g c =
    IfOk-≤ c.turned_lane.result _ _ _
    (added_bytes_len-≤ c.args.store.now.held c.args.key.now c.in-Some.bytes.now
    (sym c.added.ensures ∙ ap (option_map (λ bytes. bytes.now)) c.in-Some.is))
    c.turned_lane.ensures.short

pub returns-in-Some-2-clause-short : goal.returns-in-Some-2-clause-short
returns-in-Some-2-clause-short g c =
    let few =
    lane_len-≤ c.args.kind c.args.n c.in-Ok.bytes.now _ c.in-Some-2.lane
    (sym c.in-Some-2.is ∙ c.in_ok-lane-in-Ok.ensures) in
    omega (
      arith,
      few,
      bytes_len-≤ c.args.store.now.held c.args.key.now c.in-Ok.bytes.now
          c.in-Ok.ensures.answer c.in-Ok.ensures.encoded,
    )
