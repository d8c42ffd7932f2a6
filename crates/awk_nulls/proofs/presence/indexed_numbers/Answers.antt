use Rattle.awk_lanes.proofs.PlaceLaws.{option-index}
use Rattle.awk_nulls.proofs.presence.indexed_numbers.Goals as goal

pub named_numbers-requires : goal.named_numbers-requires
named_numbers-requires g c = record {
  index = rw c.narrow_index-index.ensures c.requires.index;
  small = rw c.narrow_index-index.ensures c.requires.small;
}

pub returns-then-eq : goal.returns-then-eq
returns-then-eq g c = rw c.narrow_index-index.ensures at c.named_numbers.ensures

pub index_of-requires : goal.index_of-requires
index_of-requires g c = option-index c.args.index.now.kind c.requires.index.kind

pub named_numbers-requires-2 : goal.named_numbers-requires-2
named_numbers-requires-2 g c = record {
  index = rw c.in_ok-index.ensures c.requires.index;
  small = rw c.in_ok-index.ensures c.requires.small;
}

pub returns : goal.returns
returns g c = rw c.in_ok-index.ensures at c.named_numbers-2.ensures
