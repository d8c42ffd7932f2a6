use Rattle.std.proofs.Common.{◌≡◌, sym, ◌∙◌, rules, to_z, of_z}
use Rattle.std.specs.Int.{w64, w128}
use Rattle.std.specs.Prelude.{FitsSigned}
use Rattle.std.proofs.lemmas.Int.{to_z-of_z}
use Rattle.awk_lanes.specs.declared.kind.Kind.TheVariants as kind
use Rattle.awk_pointwise.proofs.LaneLaws.{compared_one}
use Rattle.awk_pointwise.proofs.lanes.compared_with.Goals as goal

pub returns-in_ok-lane-in-Some : goal.returns-in_ok-lane-in-Some
returns-in_ok-lane-in-Some g c =
    let how = c.args.how in
    let a = c.args.a.now in
    let z = c.args.z in
    let y = to_z w64 (of_z w64 c.in-Some.y) in
    let fits : FitsSigned w64 c.in-Some.y = search rules in
    let other : a.kind ≡ kind.Bool → ⊥ = search rules in
    let same : z ≡ y = sym (to_z-of_z w64 c.in-Some.y fits ∙ c.in-Some.ensures
    ∙ to_z-of_z w128 z c.ranges.z) in
    compared_one how a c.in_ok-lane-in-Some.lane y z other same c.in_ok-lane-in-Some.ensures
