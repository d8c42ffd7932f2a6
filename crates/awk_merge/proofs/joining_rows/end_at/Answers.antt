use Rattle.std.proofs.Common.{sym, ◌∙◌}
use Rattle.awk_merge.proofs.joining_rows.end_at.Goals as goal

pub number-requires : goal.number-requires
number-requires g c = c.requires.within c.in-Some.place (sym c.list_place.ensures ∙ c.in-Some.is)
