use Rattle.std.proofs.Common.{ℕ, None, Some}
use Rattle.awk_types.specs.ItemLimit.{item_limit}
use Rattle.awk_lanes.specs.Counted.{AreOffsetsBy}
use Rattle.awk_lanes.specs.Places.{size_of}
use Rattle.awk_padding.specs.Lanes.{padded_span}
use Rattle.awk_padding.proofs.PadGiven.{padded_spoilt, padded_fine}
use Rattle.awk_padding.proofs.padding.longer_lists.Goals as goal

pub returns-in-None : goal.returns-in-None
returns-in-None g c =
    let p = c.args.padded.now.padding in
    let l = c.args.padded.now.lists.now in
    let m : ℕ → ℕ = padded_span p.size p.clip l.starts l.stops in
    let t : AreOffsetsBy item_limit m (size_of l.starts) None =
    rw (c.in-None.is, c.len-n.ensures.len) at c.in_ok-offsets_within.ensures in
    padded_spoilt p.size p.clip l.class l.starts l.stops l.content c.content.ensures.lists t

pub padded_items-requires-clause-total : goal.padded_items-requires-clause-total
padded_items-requires-clause-total g c =
    let p = c.args.padded.now.padding in
    let l = c.args.padded.now.lists.now in
    let m : ℕ → ℕ = padded_span p.size p.clip l.starts l.stops in
    let t : AreOffsetsBy item_limit m (size_of l.starts) (Some c.in-Some.offsets) =
    rw (c.in-Some.is, c.len-n.ensures.len) at c.in_ok-offsets_within.ensures in
    t.0

pub padded_items-requires-clause-limit : goal.padded_items-requires-clause-limit
padded_items-requires-clause-limit g c =
    let p = c.args.padded.now.padding in
    let l = c.args.padded.now.lists.now in
    let m : ℕ → ℕ = padded_span p.size p.clip l.starts l.stops in
    let t : AreOffsetsBy item_limit m (size_of l.starts) (Some c.in-Some.offsets) =
    rw (c.in-Some.is, c.len-n.ensures.len) at c.in_ok-offsets_within.ensures in
    rw t.0 t.1

pub returns-in_ok-content-in-Some : goal.returns-in_ok-content-in-Some
returns-in_ok-content-in-Some g c =
    let p = c.args.padded.now.padding in
    let l = c.args.padded.now.lists.now in
    let m : ℕ → ℕ = padded_span p.size p.clip l.starts l.stops in
    let t : AreOffsetsBy item_limit m (size_of l.starts) (Some c.in-Some.offsets) =
    rw (c.in-Some.is, c.len-n.ensures.len) at c.in_ok-offsets_within.ensures in (
      padded_fine p.size p.clip l.class l.starts l.stops l.content c.content.ensures.lists t.1,
      rw t.2 c.in_ok-content-in-Some.ensures,
    )
