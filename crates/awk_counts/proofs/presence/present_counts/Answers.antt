use Rattle.awk_counts.proofs.presence.present_counts.Goals as goal
use Rattle.awk_lanes.proofs.PlaceLaws.{option-index}

pub index_of-requires : goal.index_of-requires
index_of-requires g c = option-index c.args.index.now.kind c.requires.kind

pub counts_of-requires : goal.counts_of-requires
counts_of-requires g c = record { fits = rw c.in_ok-index.ensures c.requires.fits }

pub returns : goal.returns
returns g c = rw c.in_ok-index.ensures at c.counts_of.ensures
