use Rattle.std.specs.Prelude.{Some, None}
use Rattle.awk_types.specs.ItemLimit.{item_limit}
use Rattle.awk_lanes.specs.Counted.{AreOffsetsBy}
use Rattle.awk_columns.specs.Lists.{length_of}
use Rattle.awk_jagged.proofs.leaves.by_places.Goals as goal

pub too_many-requires-clause-many : goal.too_many-requires-clause-many
too_many-requires-clause-many g c =
    let many : AreOffsetsBy item_limit (length_of c.args.ws.now) c.len-n.result None =
    rw c.in-None.is at c.in_ok-offsets_within.ensures in
    rw c.len-n.ensures.len at many

pub taken-requires-clause-offsets : goal.taken-requires-clause-offsets
taken-requires-clause-offsets g c =
    let few : AreOffsetsBy item_limit (length_of c.args.ws.now) c.len-n.result
    (Some c.in-Some.offsets) = rw c.in-Some.is at c.in_ok-offsets_within.ensures in
    few
