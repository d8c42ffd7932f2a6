use Rattle.std.proofs.Common.{◌+◌, ◌*◌, arith}
use Rattle.awk_lanes.specs.Places.{at}
use Rattle.awk_layout.specs.Valid.{len}
use Rattle.awk_lanes.proofs.MadeLanes.{size-lane_of}
use Rattle.awk_merge.proofs.JoinedRowLaws.{rows-offsets}
use Rattle.awk_merge.proofs.joining_rows.lists_of_rows.Goals as goal

pub offsets_of_rows-requires-clause-within : goal.offsets_of_rows-requires-clause-within
offsets_of_rows-requires-clause-within g c = omega (arith, c.requires.offsets.size)

pub list_offset-requires-clause-length : goal.list_offset-requires-clause-length
list_offset-requires-clause-length g c =
    rw c.in_ok-offsets.ensures
    (omega (
      arith,
      size-lane_of c.args.offsets.now.kind (c.args.n + 1)
          (λ i. at c.args.offsets.now (i * c.args.k)),
      c.requires.fits,
    ))

pub list_offset-requires-clause-valid : goal.list_offset-requires-clause-valid
list_offset-requires-clause-valid g c =
    rw (c.in_ok-offsets.ensures, c.in_ok-content.ensures.ok, c.in_ok-copy.ensures, c.node.ensures)
    (rows-offsets c.args.offsets.now c.args.n c.args.k (len c.args.content.now) c.requires.offsets)
