use Rattle.std.proofs.Common.{sym, subst, ◌∙◌}
use Rattle.awk_list_functions.specs.Made.{IsSized}
use Rattle.awk_nulls.proofs.nulls.are_sized.Goals as goal

pub returns-in-Some : goal.returns-in-Some
returns-in-Some c e = subst IsSized (sym c.in-Some.is ∙ c.class.ensures) tt
