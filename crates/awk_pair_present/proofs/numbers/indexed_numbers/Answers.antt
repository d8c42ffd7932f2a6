use Rattle.awk_lanes.proofs.PlaceLaws.{option-index}
use Rattle.awk_pair_present.proofs.numbers.indexed_numbers.Goals as goal

pub index_of-requires : goal.index_of-requires
index_of-requires g c = option-index c.args.index.now.kind c.requires.valid.1.kind
