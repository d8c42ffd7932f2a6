use Rattle.std.proofs.Common.{ap, arith}
use Rattle.awk_lanes.specs.Places.{size_of}
use Rattle.awk_lanes.proofs.MadeLanes.{size-lane_of}
use Rattle.awk_numbers.specs.Folds.{tally_kind}
use Rattle.awk_nullable.specs.Numbers.{leaf_number}
use Rattle.awk_nullable_lists.specs.Lists.{numbers_at, tallied_at}
use Rattle.awk_reduce.proofs.OptionLaws.{leaves_nullable, leaves_numbered}
use Rattle.awk_reduce.proofs.ReadyLaws.{tallies_made}
use Rattle.awk_reduce.proofs.nullable.null_tallies.Goals as goal

pub tally_lists-requires : goal.tally_lists-requires
tally_lists-requires g c =
    let x = c.args.lists.now in
    let l = x.bounds.now in
    let f = g.P.Places.at x.leaves.now.places.now in
    let m = g.P.Places.size x.leaves.now.places.now in
    let lane = g.C.Cells.lane x.leaves.now.cells.now in
    record { ready = leaves_nullable l f m lane c.requires }

pub numpy-requires : goal.numpy-requires
numpy-requires g c =
    let x = c.args.lists.now in
    let l = x.bounds.now in
    let f = g.P.Places.at x.leaves.now.places.now in
    let m = g.P.Places.size x.leaves.now.places.now in
    let lane = g.C.Cells.lane x.leaves.now.cells.now in
    omega (
      arith,
      ap size_of c.in_ok-lane.ensures,
      size-lane_of (tally_kind c.args.how) (size_of l.starts)
          (tallied_at c.args.how l (leaf_number f lane)),
      c.requires.lists.fits,
    )

pub returns : goal.returns
returns g c =
    let x = c.args.lists.now in
    let l = x.bounds.now in
    let f = g.P.Places.at x.leaves.now.places.now in
    let m = g.P.Places.size x.leaves.now.places.now in
    let lane = g.C.Cells.lane x.leaves.now.cells.now in
    tallies_made l (size_of l.starts) (numbers_at l (leaf_number f lane))
    (leaves_numbered l f m lane c.requires) c.args.how c.in_ok-lane.lane c.numpy.result
    c.in_ok-lane.ensures c.numpy.ensures.node
