use Rattle.std.proofs.Common.{refl, ◌∙◌}
use Rattle.awk_lanes.specs.Places.{size_of}
use Rattle.awk_pair_levels.proofs.NextLaws.{next_lists}
use Rattle.awk_pair_levels.proofs.ShareLaws.{has_ones, ones_count}
use Rattle.awk_pair_levels.proofs.shares.one_each.Goals as goal

pub items_in-requires : goal.items_in-requires
items_in-requires g c =
    c.len.ensures.len
    ∙ ones_count c.args.lists.now (has_ones c.args.lists.now c.requires c.content.ensures.lists)

pub returns-clause-ones : goal.returns-clause-ones
returns-clause-ones g c = has_ones c.args.lists.now c.requires c.content.ensures.lists

pub returns-clause-items : goal.returns-clause-items
returns-clause-items g c =
    next_lists (size_of c.args.lists.now.starts) (λ _. 1) c.args.lists.now c.in_ok-items.items refl
    (has_ones c.args.lists.now c.requires c.content.ensures.lists) c.in_ok-items.ensures
