use Rattle.std.proofs.Common.{ap, ◌∙◌, length, w64}
use Rattle.std.proofs.lemmas.Int.{to_z-of_z}
use Rattle.awk_lanes.specs.Made.{lane_of}
use Rattle.awk_lanes.specs.Numbers.{width}
use Rattle.awk_lanes.specs.Places.{size_of}
use Rattle.awk_lanes.specs.declared.kind.Kind.TheVariants.{Bool as Truths}
use Rattle.awk_lane_pairs.specs.Comparisons.{truth_beside}
use Rattle.awk_lane_pairs.proofs.GroupLaws.{chunks_long, chunks_numbers}
use Rattle.awk_lane_pairs.proofs.ComparisonLaws.{compared_one}
use Rattle.awk_lane_pairs.proofs.comparison.compared_beside_cells.Goals as goal

pub returns : goal.returns
returns g c =
    let k = g.C.Cell.kind in
    let x = c.args.a.now in
    let a = c.as_chunks.result.0.now in
    compared_one c.args.how c.flags_of.result c.flags_of.ensures k a x.items
    (chunks_numbers g.row.W k x c.in_ok-bytes.bytes.now a c.as_chunks.ensures.front c.requires.kind
    c.requires.width c.in_ok-bytes.ensures.size c.in_ok-bytes.ensures.numbers)
    c.in_ok-lane.lane c.args.y (size_of x)
    (chunks_long g.row.W x c.in_ok-bytes.bytes.now a c.as_chunks.ensures.front
    (ap width c.requires.kind ∙ c.requires.width) c.in_ok-bytes.ensures.size
    c.in_ok-bytes.ensures.numbers)
    (c.in_ok-lane.ensures.lane
    ∙ ap (λ y. lane_of Truths (length a) (truth_beside c.flags_of.result k a y))
    (to_z-of_z w64 c.args.y c.ranges.y))
