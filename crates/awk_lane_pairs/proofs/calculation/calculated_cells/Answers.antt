use Rattle.std.proofs.Common.{◌≡◌, ap, sym, ◌∙◌, length, arith}
use Rattle.awk_lanes.specs.Numbers.{width}
use Rattle.awk_layout.specs.Kinds.{kind_of}
use Rattle.awk_lane_pairs.specs.Results.{AreResults, AreCalculated}
use Rattle.awk_lane_pairs.proofs.GroupLaws.{chunks_long, chunks_numbers}
use Rattle.awk_lane_pairs.proofs.ResultLaws.{calculated, if_made}
use Rattle.awk_lane_pairs.proofs.calculation.calculated_cells.Goals as goal

pub calculated_groups-requires : goal.calculated_groups-requires
calculated_groups-requires g c =
    let first = chunks_long g.row.W c.args.a.now c.in_ok-first.first.now c.as_chunks.result.0.now
    c.as_chunks.ensures.front (ap width c.requires.first ∙ c.requires.width)
    c.in_ok-first.ensures.size
    c.in_ok-first.ensures.numbers in
    let second = chunks_long g.row.W c.args.b.now c.in_ok-second.second.now
    c.as_chunks-2.result.0.now
    c.as_chunks-2.ensures.front (ap width c.requires.second ∙ c.requires.width)
    c.in_ok-second.ensures.size c.in_ok-second.ensures.numbers in
    (omega (arith, c.requires.small), (c.requires.small, second ∙ c.requires.size ∙ sym first))

pub returns : goal.returns
returns g c =
    let p = g.N.Narrow.prim in
    let op = c.args.op in
    let x = c.args.a.now in
    let y = c.args.b.now in
    let a = c.as_chunks.result.0.now in
    let b = c.as_chunks-2.result.0.now in
    let first : length a ≡ length x.items = chunks_long g.row.W x c.in_ok-first.first.now a
    c.as_chunks.ensures.front (ap width c.requires.first ∙ c.requires.width)
    c.in_ok-first.ensures.size
    c.in_ok-first.ensures.numbers in
    let second : length b ≡ length y.items = chunks_long g.row.W y c.in_ok-second.second.now b
    c.as_chunks-2.ensures.front (ap width c.requires.second ∙ c.requires.width)
    c.in_ok-second.ensures.size c.in_ok-second.ensures.numbers in
    if_made (AreResults op p a b) (AreCalculated op p x.items y.items) c.calculated_groups.result
    (λ r h. calculated op p x.items y.items r a b
    (chunks_numbers g.row.W (kind_of p) x c.in_ok-first.first.now a c.as_chunks.ensures.front
    c.requires.first c.requires.width c.in_ok-first.ensures.size c.in_ok-first.ensures.numbers)
    (chunks_numbers g.row.W (kind_of p) y c.in_ok-second.second.now b c.as_chunks-2.ensures.front
    c.requires.second c.requires.width c.in_ok-second.ensures.size c.in_ok-second.ensures.numbers)
    (second ∙ c.requires.size ∙ sym first) h)
    c.calculated_groups.ensures
