use Rattle.std.proofs.Common.{ap, ◌∙◌, arith}
use Rattle.awk_lanes.specs.Made.{lane_of}
use Rattle.awk_lanes.specs.Places.{size_of}
use Rattle.awk_lanes.proofs.MadeLanes.{size-lane_of}
use Rattle.awk_numbers.specs.Folds.{whole_numbers, lane_numbers, tally_kind}
use Rattle.awk_parts.specs.Lanes.{tallied_at}
use Rattle.awk_parts.specs.Spans.{span_count, span_part}
use Rattle.awk_reduce.proofs.ReadyLaws.{tallies_made, ready_numbered}
use Rattle.awk_reduce.proofs.totals.tallies.Goals as goal

pub numpy-requires : goal.numpy-requires
numpy-requires g c =
    let x = c.args.x.now in
    omega (
      arith,
      ap size_of c.in_ok-lane.ensures,
      size-lane_of (tally_kind c.args.how) (span_count x.spans.now)
          (tallied_at c.args.how (whole_numbers c.in_ok-numbers.numbers) x.spans.now),
      c.requires.fits,
    )

pub returns : goal.returns
returns g c =
    let x = c.args.x.now in
    tallies_made x.lists.now (span_count x.spans.now)
    (span_part (lane_numbers x.lane.now) x.spans.now) (ready_numbered x c.requires) c.args.how
    c.in_ok-lane.lane c.numpy.result
    (c.in_ok-lane.ensures
    ∙ ap (λ zs. lane_of (tally_kind c.args.how) (span_count x.spans.now)
    (tallied_at c.args.how zs x.spans.now)) c.in_ok-numbers.ensures.numbers)
    c.numpy.ensures.node
