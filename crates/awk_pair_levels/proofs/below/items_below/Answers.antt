use Rattle.std.proofs.Common.{refl}
use Rattle.awk_lanes.specs.Places.{size_of}
use Rattle.awk_columns.specs.Lists.{length_of}
use Rattle.awk_pair_levels.proofs.InRowLaws.{items_below_are}
use Rattle.awk_pair_levels.proofs.NextLaws.{next_lists}
use Rattle.awk_pair_levels.proofs.below.items_below.Goals as goal

pub returns-in-Some : goal.returns-in-Some
returns-in-Some g c =
    items_below_are c.args.x.now c.args.lists.now c.in-Some.own
    (rw c.in-Some.is at c.in_ok-own.ensures) c.requires.of

pub returns : goal.returns
returns g c =
    next_lists (size_of c.args.lists.now.starts) (length_of c.args.lists.now) c.args.lists.now
    c.in_ok-items.items refl (λ i h. refl) c.in_ok-items.ensures
