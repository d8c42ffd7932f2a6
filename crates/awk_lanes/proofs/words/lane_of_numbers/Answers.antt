-- The bytes are read as the numbers.
use Rattle.std.proofs.Common.{◌∙◌, length, ap}
use Rattle.awk_lanes.specs.Numbers.{numbers}
use Rattle.awk_lanes.specs.Words.{column}
use Rattle.awk_lanes.proofs.WordLaws.{numbers-low}
use Rattle.awk_lanes.proofs.words.lane_of_numbers.Goals as goal

pub returns : goal.returns
returns c =
    c.whole.ensures
    ∙ ap (column c.args.kind) (ap (numbers c.args.kind (length c.args.numbers.now))
    c.in_ok-bytes.ensures.bytes
    ∙ numbers-low c.args.kind c.args.numbers.now c.requires)
