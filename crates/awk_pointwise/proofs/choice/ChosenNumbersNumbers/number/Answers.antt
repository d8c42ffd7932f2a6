use Rattle.std.proofs.Common.{sym, subst, ◌∙◌, rules}
use Rattle.std.specs.Int.{w128}
use Rattle.std.specs.Prelude.{FitsSigned}
use Rattle.std.proofs.lemmas.Int.{to_z-of_z}
use Rattle.awk_pointwise.specs.Choice.{chosen_value}
use Rattle.awk_pointwise.specs.Sides.{IsLeafNumber}
use Rattle.awk_pointwise.proofs.ChoiceLaws.{shown_some}
use Rattle.awk_pointwise.proofs.choice.ChosenNumbersNumbers.number.Goals as goal

pub num_in-requires : goal.num_in-requires
num_in-requires g c =
    let z = c.in-Some.z in
    let fits : FitsSigned w128 z = search rules in
    subst (IsLeafNumber c.args.self.now.prim)
    (shown_some (chosen_value c.args.self.now.choice c.args.i) z
    (sym c.chosen_number.ensures ∙ c.in-Some.is) ∙ sym (to_z-of_z w128 z fits))
    (c.requires.ready.numbers c.args.i c.requires.within)
