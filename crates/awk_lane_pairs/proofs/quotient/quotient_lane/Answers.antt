use Rattle.std.proofs.Common.{◌≡◌, ap, ap₂, sym, subst, ◌∙◌, length, map, w32}
use Rattle.std.specs.Prelude.{pos, ◌≤ℤ◌}
use Rattle.std.proofs.lemmas.Int.{to_z-of_z}
use Rattle.awk_lanes.specs.Made.{lane_of}
use Rattle.awk_lanes.specs.Numbers.{width, number}
use Rattle.awk_lanes.specs.Places.{size_of}
use Rattle.awk_layout.specs.Kinds.{kind_of}
use Rattle.awk_lane_pairs.specs.Results.{quotient_at}
use Rattle.awk_lane_pairs.proofs.GroupLaws.{chunks_long, chunks_numbers}
use Rattle.awk_lane_pairs.proofs.QuotientLaws.{lane_known, quotients_all}
use Rattle.awk_lane_pairs.proofs.quotient.quotient_lane.Goals as goal

pub made_lane-requires-clause-ready : goal.made_lane-requires-clause-ready
made_lane-requires-clause-ready g c = (
  c.requires.small,
  subst (λ y. pos 1 ≤ℤ y) (sym (to_z-of_z w32 c.args.y c.ranges.y)) c.requires.above,
  lane_known g.N.Narrow.prim c.args.a.now c.as_chunks.result.0.now c.kind-kind.ensures.whole
      c.requires.kind
      (chunks_numbers g.row.W (kind_of g.N.Narrow.prim) c.args.a.now c.in_ok-bytes.bytes.now
      c.as_chunks.result.0.now c.as_chunks.ensures.front c.requires.kind c.requires.width
      c.in_ok-bytes.ensures.size c.in_ok-bytes.ensures.numbers)
      c.len.ensures.fits,
)

pub returns : goal.returns
returns g c =
    let p = g.N.Narrow.prim in
    let x = c.args.a.now in
    let a = c.as_chunks.result.0.now in
    let numbers : map (number (kind_of p)) a ≡ x.items =
    chunks_numbers g.row.W (kind_of p) x c.in_ok-bytes.bytes.now a c.as_chunks.ensures.front
    c.requires.kind c.requires.width c.in_ok-bytes.ensures.size c.in_ok-bytes.ensures.numbers in
    quotients_all p x.items a c.args.y (size_of x) c.in_ok-lane.lane numbers
    (chunks_long g.row.W x c.in_ok-bytes.bytes.now a c.as_chunks.ensures.front
    (ap width c.requires.kind ∙ c.requires.width) c.in_ok-bytes.ensures.size
    c.in_ok-bytes.ensures.numbers)
    c.requires.above
    (lane_known p x a c.kind-kind.ensures.whole c.requires.kind numbers c.len.ensures.fits)
    (c.in_ok-lane.ensures.lane
    ∙ ap₂ (λ k y. lane_of k (length a) (quotient_at (kind_of p) a y)) c.kind-kind.ensures.kind
    (to_z-of_z w32 c.args.y c.ranges.y))
