use Rattle.std.proofs.Common.{◌<◌, ◌^◌, refl, arith}
use Rattle.std.specs.Prelude.{pos}
use Rattle.awk_lanes.specs.declared.kind.Kind.TheVariants as Kinds
use Rattle.awk_lanes.specs.Places.{size_of}
use Rattle.awk_columns.specs.Lists.{span_length}
use Rattle.awk_lanes.proofs.MadeLanes.{size-lane_of}
use Rattle.awk_lists.proofs.LocalLaws.{lengths_column}
use Rattle.awk_lists.proofs.length.lengths_of.Goals as goal

pub numpy-requires : goal.numpy-requires
numpy-requires g c =
    let fits : size_of c.args.lists.now.starts < 2 ^ 63 =
    omega (arith, c.len.ensures.len, c.len.ensures.fits) in
    rw (
      c.in_ok-lengths.ensures.lane,
      c.in_ok-bounds.ensures,
      c.len.ensures.len,
      size-lane_of Kinds.I64
          (size_of c.args.lists.now.starts)
          (λ i. pos (span_length c.args.lists.now.starts c.args.lists.now.stops i)),
    ) fits

pub returns : goal.returns
returns g c =
    let fits : size_of c.args.lists.now.starts < 2 ^ 63 =
    omega (arith, c.len.ensures.len, c.len.ensures.fits) in (
      refl,
      rw (
        c.numpy.ensures.node,
        c.in_ok-lengths.ensures.lane,
        c.in_ok-bounds.ensures,
        c.len.ensures.len,
      )
          (lengths_column c.args.lists.now.starts c.args.lists.now.stops
          c.args.lists.now.content fits),
    )
