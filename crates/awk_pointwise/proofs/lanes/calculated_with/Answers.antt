use Rattle.std.proofs.Common.{◌≡◌, replicate, sym, ◌∙◌, rules, to_z, of_z}
use Rattle.std.specs.Int.{w64, w128}
use Rattle.std.specs.Prelude.{FitsSigned}
use Rattle.std.specs.Simd.Lanes.{zip2}
use Rattle.std.proofs.lemmas.Int.{to_z-of_z}
use Rattle.awk_lanes.specs.Places.{size_of}
use Rattle.awk_layout.specs.Kinds.{kind_of}
use Rattle.awk_leaves.specs.Values.{binary_on}
use Rattle.awk_leaves.specs.declared.operation.Binary.TheVariants.{Calculate}
use Rattle.awk_numbers.specs.Folds.{lane_numbers}
use Rattle.awk_lane_pairs.specs.Results.{AreCalculated}
use Rattle.awk_lane_pairs.proofs.ResultLaws.{if_made}
use Rattle.awk_pointwise.specs.Lanes.{HasResults}
use Rattle.awk_pointwise.proofs.LaneLaws.{calculated_one}
use Rattle.awk_pointwise.proofs.lanes.calculated_with.Goals as goal

pub returns-in-Some : goal.returns-in-Some
returns-in-Some g c =
    let op = c.args.op in
    let p = c.args.prim in
    let a = c.args.a.now in
    let z = c.args.z in
    let y = to_z w64 (of_z w64 c.in-Some.y) in
    let fits : FitsSigned w64 c.in-Some.y = search rules in
    let kinds : a.kind ≡ kind_of p = search rules in
    let same : z ≡ y = sym (to_z-of_z w64 c.in-Some.y fits ∙ c.in-Some.ensures
    ∙ to_z-of_z w128 z c.ranges.z) in
    if_made (AreCalculated op p a.items (replicate (size_of a) y))
    (HasResults p (zip2 (binary_on (Calculate op) p) (lane_numbers a) (replicate (size_of a) z)))
    c.calculated_beside.result
    (λ r h. calculated_one op p a r y z c.requires kinds same h) c.calculated_beside.ensures
