use Rattle.std.proofs.Common.{sym, subst, arith}
use Rattle.awk_lanes.specs.Places.{size_of}
use Rattle.awk_layout.specs.Valid.{IsByteMask}
use Rattle.awk_lanes.specs.declared.kind.Kind.TheVariants.{I8, I64}
use Rattle.awk_nullable.specs.Numbers.{leaf_number}
use Rattle.awk_nullable_lists.specs.Lists.{numbers_at, present_at, local_at}
use Rattle.awk_reduce.proofs.ColumnLaws.{mask_valid, size-made}
use Rattle.awk_reduce.proofs.OptionLaws.{leaves_nullable, leaves_numbered, local_there}
use Rattle.awk_reduce.proofs.PlaceLaws.{places_made}
use Rattle.awk_reduce.proofs.nullable.null_places.Goals as goal

pub place_lists-requires : goal.place_lists-requires
place_lists-requires g c =
    let x = c.args.lists.now in
    let l = x.bounds.now in
    let f = g.P.Places.at x.leaves.now.places.now in
    let m = g.P.Places.size x.leaves.now.places.now in
    let lane = g.C.Cells.lane x.leaves.now.cells.now in
    record { ready = leaves_nullable l f m lane c.requires }

pub masked-requires-clause-length : goal.masked-requires-clause-length
masked-requires-clause-length g c =
    let x = c.args.lists.now in
    let l = x.bounds.now in
    let f = g.P.Places.at x.leaves.now.places.now in
    let m = g.P.Places.size x.leaves.now.places.now in
    let lane = g.C.Cells.lane x.leaves.now.cells.now in
    omega (
      arith,
      size-made c.in_ok-places.places.mask I8 (size_of l.starts) (present_at l (leaf_number f lane))
          c.in_ok-places.ensures.mask,
      c.requires.lists.fits,
    )

pub masked-requires-clause-size : goal.masked-requires-clause-size
masked-requires-clause-size g c =
    let x = c.args.lists.now in
    let l = x.bounds.now in
    let f = g.P.Places.at x.leaves.now.places.now in
    let m = g.P.Places.size x.leaves.now.places.now in
    let lane = g.C.Cells.lane x.leaves.now.cells.now in
    omega (
      arith,
      size-made c.in_ok-places.places.numbers I64 (size_of l.starts)
          (local_at c.args.how l (leaf_number f lane)) c.in_ok-places.ensures.places,
      c.requires.lists.fits,
    )

pub masked-requires-clause-valid : goal.masked-requires-clause-valid
masked-requires-clause-valid g c =
    let x = c.args.lists.now in
    let l = x.bounds.now in
    let f = g.P.Places.at x.leaves.now.places.now in
    let m = g.P.Places.size x.leaves.now.places.now in
    let lane = g.C.Cells.lane x.leaves.now.cells.now in
    let way = leaf_number f lane in
    let n = size_of c.in_ok-places.places.numbers in
    subst (λ j. IsByteMask j n) (sym c.in_ok-places.ensures.mask)
    (mask_valid (size_of l.starts) n (present_at l way)
    (size-made c.in_ok-places.places.numbers I64 (size_of l.starts) (local_at c.args.how l way)
    c.in_ok-places.ensures.places))

pub returns : goal.returns
returns g c =
    let x = c.args.lists.now in
    let l = x.bounds.now in
    let f = g.P.Places.at x.leaves.now.places.now in
    let m = g.P.Places.size x.leaves.now.places.now in
    let lane = g.C.Cells.lane x.leaves.now.cells.now in
    let way = leaf_number f lane in
    places_made l (size_of l.starts) (numbers_at l way) (leaves_numbered l f m lane c.requires)
    c.args.how (local_at c.args.how l way) c.in_ok-masked.field-0 c.in_ok-places.places.mask
    c.in_ok-places.places.numbers (local_there l f m lane c.requires c.args.how)
    c.in_ok-places.ensures.places c.in_ok-places.ensures.mask c.in_ok-masked.ensures
