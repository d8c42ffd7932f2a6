use Rattle.std.proofs.Common.{ap, ◌∙◌, rules}
use Rattle.std.specs.Prelude.{FitsSigned}
use Rattle.std.specs.Int.{w64, w128}
use Rattle.std.proofs.lemmas.Int.{to_z-of_z}
use Rattle.awk_numbers.specs.Folds.{folded}
use Rattle.awk_parts.proofs.folds.PartTotalsTotals.total.Goals as goal

pub returns-in-Some : goal.returns-in-Some
returns-in-Some g c =
    let how = c.args.self.now.how in
    let z = c.in-Some.z in
    let r = c.from.result in
    let fz : FitsSigned w64 z = search rules in
    let fr : FitsSigned w128 r = search rules in
    to_z-of_z w128 r fr ∙ c.from.ensures ∙ to_z-of_z w64 z fz ∙ c.in-Some.ensures
    ∙ ap (folded how) c.span_of-span.ensures.part
