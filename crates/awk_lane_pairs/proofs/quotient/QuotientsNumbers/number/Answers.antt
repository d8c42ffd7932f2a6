use Rattle.std.proofs.Common.{◌≡◌, ap₂, sym, subst, ◌∙◌, rules, w32, w64}
use Rattle.std.specs.Prelude.{pos, ◌≤ℤ◌, FitsSigned}
use Rattle.std.proofs.lemmas.Int.{to_z-of_z}
use Rattle.awk_kernels.specs.Operations.{floor_div}
use Rattle.awk_types.specs.Has.{Holds}
use Rattle.awk_lane_pairs.proofs.QuotientLaws.{quotient_held}
use Rattle.awk_lane_pairs.proofs.quotient.QuotientsNumbers.number.Goals as goal

pub quotient_of-requires : goal.quotient_of-requires
quotient_of-requires g c =
    let y = c.args.self.now.y in
    let fits : FitsSigned w32 y = search rules in
    subst (λ y. pos 1 ≤ℤ y) (sym (to_z-of_z w32 y fits)) c.requires.ready.1

pub num-requires : goal.num-requires
num-requires g c =
    let p = g.N.Narrow.prim in
    let x = c.number.result in
    let y = c.args.self.now.y in
    let z = c.quotient_of.result in
    let fits_x : FitsSigned w32 x = search rules in
    let fits_y : FitsSigned w32 y = search rules in
    let fits_z : FitsSigned w64 z = search rules in
    let same : z ≡ floor_div x y = c.quotient_of.ensures
    ∙ ap₂ floor_div (to_z-of_z w32 x fits_x) (to_z-of_z w32 y fits_y) in
    let held : Holds p x = subst (Holds p) (sym c.number.ensures.value)
    (c.requires.ready.2 c.args.i c.requires.within) in
    subst (Holds p) (sym (to_z-of_z w64 z fits_z))
    (subst (Holds p) (sym same) (quotient_held p x y c.requires.ready.1 held))

pub returns-clause-number : goal.returns-clause-number
returns-clause-number g c =
    let x = c.number.result in
    let y = c.args.self.now.y in
    let z = c.quotient_of.result in
    let fits_x : FitsSigned w32 x = search rules in
    let fits_y : FitsSigned w32 y = search rules in
    let fits_z : FitsSigned w64 z = search rules in
    c.num.ensures.number ∙ to_z-of_z w64 z fits_z ∙ c.quotient_of.ensures
    ∙ ap₂ floor_div (to_z-of_z w32 x fits_x ∙ c.number.ensures.value) (to_z-of_z w32 y fits_y)
