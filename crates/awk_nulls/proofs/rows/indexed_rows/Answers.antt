use Rattle.awk_lanes.proofs.PlaceLaws.{option-index}
use Rattle.awk_nulls.proofs.rows.indexed_rows.Goals as goal

pub number_rows-requires : goal.number_rows-requires
number_rows-requires g c = record { opened = rw c.narrow_index-index.ensures c.requires.opened }

pub index_of-requires : goal.index_of-requires
index_of-requires g c = option-index c.args.index.now.kind c.requires.opened.valid.1.kind

pub number_rows-requires-2 : goal.number_rows-requires-2
number_rows-requires-2 g c = record { opened = rw c.in_ok-index.ensures c.requires.opened }
