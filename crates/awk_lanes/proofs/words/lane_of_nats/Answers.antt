-- The bytes are read as the numbers.
use Rattle.std.proofs.Common.{◌∙◌, length, ap}
use Rattle.awk_lanes.specs.Numbers.{numbers}
use Rattle.awk_lanes.specs.Words.{column}
use Rattle.awk_lanes.proofs.WordLaws.{nats-low}
use Rattle.awk_lanes.proofs.words.lane_of_nats.Goals as goal

pub returns : goal.returns
returns c =
    c.whole.ensures
    ∙ ap (column c.args.kind) (ap (numbers c.args.kind (length c.args.nats.now))
    c.in_ok-bytes.ensures.bytes
    ∙ nats-low c.args.kind c.args.nats.now c.requires)
