use Rattle.std.proofs.Common.{◌≡◌, ap, sym, ◌∙◌}
use Rattle.std.proofs.lemmas.Result.{IfOk-weaker}
use Rattle.awk_lanes.specs.Column.{Column}
use Rattle.awk_lanes.specs.Words.{column}
use Rattle.awk_kernels.specs.Kernels.{chosen}
use Rattle.awk_leaves.specs.Values.{chosen_values}
use Rattle.awk_pointwise.specs.Sides.{lane_values}
use Rattle.awk_pointwise.proofs.SelectLaws.{lanes_chosen, mask_long}
use Rattle.awk_pointwise.proofs.selection.chosen_of_lanes.Goals as goal

pub chosen_lane-requires-clause-first : goal.chosen_lane-requires-clause-first
chosen_lane-requires-clause-first g c =
    c.requires.first ∙ sym (mask_long c.args.mask.now c.byte_numbers-bytes.result.now
    c.byte_numbers-bytes.ensures.numbers)

pub chosen_lane-requires-clause-second : goal.chosen_lane-requires-clause-second
chosen_lane-requires-clause-second g c =
    c.requires.second ∙ sym (mask_long c.args.mask.now c.byte_numbers-bytes.result.now
    c.byte_numbers-bytes.ensures.numbers)

pub returns-clause-values : goal.returns-clause-values
returns-clause-values g c =
    let x = c.args.x.now in
    let y = c.args.y.now in
    let ms = c.byte_numbers-bytes.result.now in
    IfOk-weaker c.chosen_lane.result
    (λ r. ◌≡◌ {A = Column} r (column x.kind (chosen ms x.items y.items)))
    (λ r. lane_values r ≡ chosen_values (lane_values c.args.mask.now) (lane_values x)
    (lane_values y))
    (λ r e. lanes_chosen c.args.mask.now x y r ms c.requires.mask
    c.byte_numbers-bytes.ensures.numbers c.requires.kinds e)
    c.chosen_lane.ensures

pub returns-clause-kind : goal.returns-clause-kind
returns-clause-kind g c =
    let x = c.args.x.now in
    let y = c.args.y.now in
    let ms = c.byte_numbers-bytes.result.now in
    IfOk-weaker c.chosen_lane.result
    (λ r. ◌≡◌ {A = Column} r (column x.kind (chosen ms x.items y.items))) (λ r. r.kind ≡ x.kind)
    (λ r e. ap (λ (r : Column). r.kind) e) c.chosen_lane.ensures
