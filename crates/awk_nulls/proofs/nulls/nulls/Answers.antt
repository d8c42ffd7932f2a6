use Rattle.awk_lanes.proofs.PlaceLaws.{option-index}
use Rattle.awk_nulls.proofs.nulls.nulls.Goals as goal

pub returns-then-eq : goal.returns-then-eq
returns-then-eq g c = rw c.narrow_index-index.ensures at c.nulls_by.ensures

pub index_of-requires : goal.index_of-requires
index_of-requires g c = option-index c.args.index.now.kind c.requires.kind

pub returns : goal.returns
returns g c = rw c.in_ok-index.ensures at c.nulls_by-2.ensures
