use Rattle.std.proofs.Common.{ap, sym, refl, map, ◌∙◌, subst}
use Rattle.std.specs.List.{list_any}
use Rattle.awk_types.specs.Predicates.{is_list}
use Rattle.awk_layout.specs.Typing.{array_type}
use Rattle.awk_pair_sides.specs.Levels.{stretches}
use Rattle.awk_pair_levels.specs.Shares.{is_lists, AreAsLong, IsShared}
use Rattle.awk_pair_sides.proofs.LevelTypes.{presents-bare, some_listed}
use Rattle.awk_pair_levels.specs.InRow.{AreOf}
use Rattle.awk_pair_levels.proofs.InRowLaws.{of_length, of_shares}
use Rattle.awk_pair_levels.proofs.SharedRows.{shares_long, shares_lists, below_is}
use Rattle.awk_pair_levels.proofs.below.rows_below.Goals as goal

pub shared_rows-requires-clause-long : goal.shared_rows-requires-clause-long
shared_rows-requires-clause-long g c =
    subst (AreAsLong c.args.n) (sym c.deref.ensures.value)
    (shares_long c.args.n c.args.keep (stretches (map array_type c.args.xs.now)) c.args.xs.now
    c.in_ok-shares.shares.items c.in_ok-shares.ensures)

pub shared_rows-requires-clause-same : goal.shared_rows-requires-clause-same
shared_rows-requires-clause-same g c =
    of_length c.args.xs.now c.deref.result.now
    (subst (AreOf c.args.xs.now) (sym c.deref.ensures.value)
    (of_shares c.args.n c.args.keep (stretches (map array_type c.args.xs.now)) c.args.xs.now
    c.in_ok-shares.shares.items c.requires.long c.in_ok-shares.ensures))

pub shared_rows-requires-clause-of : goal.shared_rows-requires-clause-of
shared_rows-requires-clause-of g c =
    subst (AreOf c.args.xs.now) (sym c.deref.ensures.value)
    (of_shares c.args.n c.args.keep (stretches (map array_type c.args.xs.now)) c.args.xs.now
    c.in_ok-shares.shares.items c.requires.long c.in_ok-shares.ensures)

pub shared_rows-requires-clause-lists : goal.shared_rows-requires-clause-lists
shared_rows-requires-clause-lists g c =
    ap (list_any is_lists) c.deref.ensures.value
    ∙ shares_lists c.args.n c.args.keep (stretches (map array_type c.args.xs.now)) c.args.xs.now
    c.in_ok-shares.shares.items c.in_ok-shares.ensures
    ∙ some_listed c.args.keep (stretches (map array_type c.args.xs.now))
    (map array_type c.args.xs.now) refl
    (ap (list_any is_list) (sym (presents-bare (map array_type c.args.xs.now) c.requires.bare))
    ∙ c.requires.lists)

pub returns : goal.returns
returns g c =
    below_is c.args.keep c.args.n c.args.xs.now c.in_ok-shares.shares.items c.in_ok-below.below
    (c.requires.bare, c.in_ok-shares.ensures)
    (subst (λ ps. IsShared c.args.n ps c.in_ok-below.below) c.deref.ensures.value
    c.in_ok-below.ensures)
