use Rattle.std.proofs.Common.{◌≡◌, rules}
use Rattle.std.specs.Simd.Lanes.{zip2}
use Rattle.awk_layout.specs.Kinds.{kind_of}
use Rattle.awk_leaves.specs.Values.{binary_on}
use Rattle.awk_leaves.specs.declared.operation.Binary.TheVariants.{Calculate}
use Rattle.awk_numbers.specs.Folds.{lane_numbers}
use Rattle.awk_lane_pairs.specs.Results.{AreCalculated}
use Rattle.awk_lane_pairs.proofs.ResultLaws.{if_made}
use Rattle.awk_pointwise.specs.Lanes.{HasResults}
use Rattle.awk_pointwise.proofs.LaneLaws.{calculated_two}
use Rattle.awk_pointwise.proofs.lanes.calculated_of.Goals as goal

pub returns : goal.returns
returns g c =
    let op = c.args.op in
    let p = c.args.prim in
    let a = c.args.a.now in
    let b = c.args.b.now in
    let first : a.kind ≡ kind_of p = search rules in
    let second : b.kind ≡ kind_of p = search rules in
    if_made (AreCalculated op p a.items b.items)
    (HasResults p (zip2 (binary_on (Calculate op) p) (lane_numbers a) (lane_numbers b)))
    c.calculated_lanes.result
    (λ r h. calculated_two op p a b r c.requires.whole first second h)
    c.calculated_lanes.ensures
