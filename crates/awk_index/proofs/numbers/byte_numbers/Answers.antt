-- The bytes are the lane's numbers.
use Rattle.std.proofs.Common.{subst}
use Rattle.awk_lanes.specs.Words.{IsByteKind}
use Rattle.awk_lanes.proofs.WordLaws.{integers-byte_numbers}
use Rattle.awk_index.proofs.numbers.byte_numbers.Goals as goal

pub narrow_bytes-requires : goal.narrow_bytes-requires
narrow_bytes-requires g c e = subst IsByteKind e c.requires

pub returns-clause-numbers : goal.returns-clause-numbers
returns-clause-numbers g c =
    integers-byte_numbers _ _ _ _ c.requires c.narrow_bytes.ensures.size
    c.narrow_bytes.ensures.numbers
