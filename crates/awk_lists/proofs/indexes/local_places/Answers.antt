use Rattle.std.proofs.Common.{ℕ, None, Some, arith}
use Rattle.awk_lanes.specs.Places.{size_of}
use Rattle.awk_types.specs.ItemLimit.{item_limit}
use Rattle.awk_columns.specs.Lists.{span_length}
use Rattle.awk_lanes.specs.Counted.{AreOffsetsBy}
use Rattle.awk_lists.proofs.LocalLaws.{local-length, local_given, local_spoilt, local_fine}
use Rattle.awk_lists.proofs.indexes.local_places.Goals as goal

pub returns-in-None : goal.returns-in-None
returns-in-None g c =
    let m : ℕ → ℕ = span_length c.args.lists.now.starts c.args.lists.now.stops in
    let t : AreOffsetsBy item_limit m (size_of c.args.lists.now.starts) None =
    rw (
      c.in-None.is,
      c.in_ok-bounds.ensures,
      c.len-n.ensures.len,
    )
    at c.in_ok-offsets_within.ensures in
    local_spoilt c.args.lists.now.starts c.args.lists.now.stops c.args.lists.now.content t

pub local_items-requires-clause-few : goal.local_items-requires-clause-few
local_items-requires-clause-few g c =
    let m : ℕ → ℕ = span_length c.args.lists.now.starts c.args.lists.now.stops in
    let t : AreOffsetsBy item_limit m (size_of c.args.lists.now.starts) (Some c.in-Some.offsets) =
    rw (
      c.in-Some.is,
      c.in_ok-bounds.ensures,
      c.len-n.ensures.len,
    )
    at c.in_ok-offsets_within.ensures in
    omega (arith, t.0, t.1)

pub numpy-requires : goal.numpy-requires
numpy-requires g c =
    let m : ℕ → ℕ = span_length c.args.lists.now.starts c.args.lists.now.stops in
    let t : AreOffsetsBy item_limit m (size_of c.args.lists.now.starts) (Some c.in-Some.offsets) =
    rw (
      c.in-Some.is,
      c.in_ok-bounds.ensures,
      c.len-n.ensures.len,
    )
    at c.in_ok-offsets_within.ensures in
    rw (c.in_ok-items-in-Some.ensures, c.in_ok-bounds.ensures, c.len-n.ensures.len)
    (omega (arith, local-length c.args.lists.now.starts c.args.lists.now.stops, t.1))

pub returns-in_ok-items-in-Some : goal.returns-in_ok-items-in-Some
returns-in_ok-items-in-Some g c =
    let m : ℕ → ℕ = span_length c.args.lists.now.starts c.args.lists.now.stops in
    let t : AreOffsetsBy item_limit m (size_of c.args.lists.now.starts) (Some c.in-Some.offsets) =
    rw (
      c.in-Some.is,
      c.in_ok-bounds.ensures,
      c.len-n.ensures.len,
    )
    at c.in_ok-offsets_within.ensures in (
      local_fine c.args.lists.now.starts c.args.lists.now.stops c.args.lists.now.content t.1,
      rw (
        c.numpy.ensures.node,
        c.in_ok-items-in-Some.ensures,
        c.in_ok-bounds.ensures,
        c.len-n.ensures.len,
        t.2,
      )
          (local_given c.args.lists.now.class c.args.lists.now.starts c.args.lists.now.stops
          c.args.lists.now.content c.content.ensures.lists t.1),
    )
