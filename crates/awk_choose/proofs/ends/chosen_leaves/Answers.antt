use Rattle.awk_choose.proofs.ends.chosen_leaves.Goals as goal

pub choice_leaves-requires-clause-condition : goal.choice_leaves-requires-clause-condition
choice_leaves-requires-clause-condition g c =
    c.optional_of-condition.ensures.optional c.args.n c.requires.condition

pub choice_leaves-requires-clause-first : goal.choice_leaves-requires-clause-first
choice_leaves-requires-clause-first g c =
    c.optional_of-x.ensures.optional c.args.n c.requires.first

pub choice_leaves-requires-clause-second : goal.choice_leaves-requires-clause-second
choice_leaves-requires-clause-second g c =
    c.optional_of-y.ensures.optional c.args.n c.requires.second
