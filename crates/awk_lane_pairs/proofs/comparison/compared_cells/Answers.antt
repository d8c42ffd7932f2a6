use Rattle.std.proofs.Common.{◌≡◌, ap, sym, ◌∙◌, length}
use Rattle.awk_lanes.specs.Numbers.{width}
use Rattle.awk_lane_pairs.proofs.GroupLaws.{chunks_long, chunks_numbers}
use Rattle.awk_lane_pairs.proofs.ComparisonLaws.{compared_all}
use Rattle.awk_lane_pairs.proofs.comparison.compared_cells.Goals as goal

pub made_lane-requires-clause-ready : goal.made_lane-requires-clause-ready
made_lane-requires-clause-ready g c =
    let first = chunks_long g.row.W c.args.a.now c.in_ok-first.first.now c.as_chunks.result.0.now
    c.as_chunks.ensures.front (ap width c.requires.first ∙ c.requires.width)
    c.in_ok-first.ensures.size
    c.in_ok-first.ensures.numbers in
    let second = chunks_long g.row.W c.args.b.now c.in_ok-second.second.now
    c.as_chunks-2.result.0.now
    c.as_chunks-2.ensures.front (ap width c.requires.second ∙ c.requires.width)
    c.in_ok-second.ensures.size c.in_ok-second.ensures.numbers in
    (c.requires.small, second ∙ c.requires.size ∙ sym first)

pub returns : goal.returns
returns g c =
    let k = g.C.Cell.kind in
    let x = c.args.a.now in
    let y = c.args.b.now in
    let a = c.as_chunks.result.0.now in
    let b = c.as_chunks-2.result.0.now in
    let first : length a ≡ length x.items = chunks_long g.row.W x c.in_ok-first.first.now a
    c.as_chunks.ensures.front (ap width c.requires.first ∙ c.requires.width)
    c.in_ok-first.ensures.size
    c.in_ok-first.ensures.numbers in
    let second : length b ≡ length y.items = chunks_long g.row.W y c.in_ok-second.second.now b
    c.as_chunks-2.ensures.front (ap width c.requires.second ∙ c.requires.width)
    c.in_ok-second.ensures.size c.in_ok-second.ensures.numbers in
    compared_all c.args.how c.flags_of.result c.flags_of.ensures k a x.items
    (chunks_numbers g.row.W k x c.in_ok-first.first.now a c.as_chunks.ensures.front c.requires.first
    c.requires.width c.in_ok-first.ensures.size c.in_ok-first.ensures.numbers)
    c.in_ok-lane.lane b y.items
    (chunks_numbers g.row.W k y c.in_ok-second.second.now b c.as_chunks-2.ensures.front
    c.requires.second
    c.requires.width c.in_ok-second.ensures.size c.in_ok-second.ensures.numbers)
    (second ∙ c.requires.size ∙ sym first) c.in_ok-lane.ensures.lane
