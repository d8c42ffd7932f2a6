use Rattle.awk_columns.proofs.joining.join_lists.Goals as goal

pub index_of-requires : goal.index_of-requires
index_of-requires g c = c.requires.spans.start_kind

pub index_of-requires-2 : goal.index_of-requires-2
index_of-requires-2 g c = c.requires.spans.stop_kind

pub join_ends-requires-clause-small : goal.join_ends-requires-clause-small
join_ends-requires-clause-small g c = rw c.in_ok-starts.ensures c.requires.small

pub join_ends-requires-clause-spans : goal.join_ends-requires-clause-spans
join_ends-requires-clause-spans g c =
    rw (c.in_ok-starts.ensures, c.in_ok-stops.ensures) c.requires.spans

pub returns-clause-answer : goal.returns-clause-answer
returns-clause-answer g c =
    rw (c.in_ok-starts.ensures, c.in_ok-stops.ensures) at c.join_ends.ensures.answer

pub returns-clause-offsets : goal.returns-clause-offsets
returns-clause-offsets g c =
    rw (c.in_ok-starts.ensures, c.in_ok-stops.ensures) at c.join_ends.ensures.offsets

pub returns-clause-lists : goal.returns-clause-lists
returns-clause-lists g c =
    rw (c.in_ok-starts.ensures, c.in_ok-stops.ensures) at c.join_ends.ensures.lists
