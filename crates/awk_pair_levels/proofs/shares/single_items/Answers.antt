use Rattle.std.proofs.Common.{subst}
use Rattle.awk_layout.specs.Typing.{array_type}
use Rattle.awk_layout.specs.Valid.{len}
use Rattle.awk_pair_levels.specs.Shares.{IsNext}
use Rattle.awk_pair_levels.specs.declared.shares.Share.TheVariants as share
use Rattle.awk_pair_levels.proofs.ShareLaws.{class_single, not_other, single_items_are}
use Rattle.awk_pair_levels.proofs.shares.single_items.Goals as goal

pub lists_of-requires : goal.lists_of-requires
lists_of-requires g c = not_other (array_type c.args.x.now) c.requires

pub one_each-requires : goal.one_each-requires
one_each-requires g c =
    class_single (array_type c.args.x.now) c.in_ok-lists.lists.class c.requires
    c.in_ok-lists.ensures.class

pub returns : goal.returns
returns g c =
    single_items_are (len c.args.x.now) c.args.x.now c.in_ok-lists.lists c.in_ok-items.items
    c.in_ok-lists.ensures.lists c.in_ok-items.ensures.ones
    (subst (λ n. IsNext (λ _. 1) n (share.Lists c.in_ok-lists.lists) c.in_ok-items.items)
    c.in_ok-lists.ensures.lists.size c.in_ok-items.ensures.items)
