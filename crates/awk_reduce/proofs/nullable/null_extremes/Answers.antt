use Rattle.std.proofs.Common.{ap, sym, ◌∙◌, subst, arith}
use Rattle.awk_lanes.specs.Column.{Column}
use Rattle.awk_lanes.specs.Made.{lane_of}
use Rattle.awk_lanes.specs.Places.{size_of}
use Rattle.awk_layout.specs.Valid.{IsByteMask}
use Rattle.awk_lanes.specs.declared.kind.Kind.TheVariants.{I8}
use Rattle.awk_nullable.specs.Numbers.{leaf_number}
use Rattle.awk_nullable_lists.specs.Lists.{numbers_at, present_at, extreme_at}
use Rattle.awk_reduce.proofs.ColumnLaws.{mask_valid, size-made}
use Rattle.awk_reduce.proofs.OptionLaws.{leaves_nullable, leaves_numbered, item_there}
use Rattle.awk_reduce.proofs.PlaceLaws.{extremes_made}
use Rattle.awk_reduce.proofs.nullable.null_extremes.Goals as goal

pub extreme_lists-requires-clause-ready : goal.extreme_lists-requires-clause-ready
extreme_lists-requires-clause-ready g c =
    let x = c.args.lists.now in
    let l = x.bounds.now in
    let f = g.P.Places.at x.leaves.now.places.now in
    let m = g.P.Places.size x.leaves.now.places.now in
    let lane = g.C.Cells.lane x.leaves.now.cells.now in
    leaves_nullable l f m lane c.requires.lists

pub masked-requires-clause-length : goal.masked-requires-clause-length
masked-requires-clause-length g c =
    let x = c.args.lists.now in
    let l = x.bounds.now in
    let f = g.P.Places.at x.leaves.now.places.now in
    let m = g.P.Places.size x.leaves.now.places.now in
    let lane = g.C.Cells.lane x.leaves.now.cells.now in
    omega (
      arith,
      size-made c.in_ok-items.items.mask I8 (size_of l.starts) (present_at l (leaf_number f lane))
          c.in_ok-items.ensures.mask,
      c.requires.lists.lists.fits,
    )

pub masked-requires-clause-size : goal.masked-requires-clause-size
masked-requires-clause-size g c =
    let x = c.args.lists.now in
    let l = x.bounds.now in
    let f = g.P.Places.at x.leaves.now.places.now in
    let m = g.P.Places.size x.leaves.now.places.now in
    let lane = g.C.Cells.lane x.leaves.now.cells.now in
    omega (
      arith,
      size-made c.in_ok-items.items.numbers c.args.lane.now.kind (size_of l.starts)
          (extreme_at c.args.how l (leaf_number f lane)) c.in_ok-items.ensures.items,
      c.requires.lists.lists.fits,
    )

pub masked-requires-clause-valid : goal.masked-requires-clause-valid
masked-requires-clause-valid g c =
    let x = c.args.lists.now in
    let l = x.bounds.now in
    let f = g.P.Places.at x.leaves.now.places.now in
    let m = g.P.Places.size x.leaves.now.places.now in
    let lane = g.C.Cells.lane x.leaves.now.cells.now in
    let way = leaf_number f lane in
    let n = size_of c.in_ok-items.items.numbers in
    subst (λ j. IsByteMask j n) (sym c.in_ok-items.ensures.mask)
    (mask_valid (size_of l.starts) n (present_at l way)
    (size-made c.in_ok-items.items.numbers c.args.lane.now.kind (size_of l.starts)
    (extreme_at c.args.how l way) c.in_ok-items.ensures.items))

pub returns : goal.returns
returns g c =
    let x = c.args.lists.now in
    let l = x.bounds.now in
    let f = g.P.Places.at x.leaves.now.places.now in
    let m = g.P.Places.size x.leaves.now.places.now in
    let lane = g.C.Cells.lane x.leaves.now.cells.now in
    let way = leaf_number f lane in
    let items =
    c.in_ok-items.ensures.items
    ∙ ap (λ (d : Column). lane_of d.kind (size_of l.starts) (extreme_at c.args.how l way))
    c.requires.lane in
    extremes_made l (size_of l.starts) (numbers_at l way)
    (leaves_numbered l f m lane c.requires.lists) c.args.how lane.kind
    (extreme_at c.args.how l way) c.in_ok-masked.field-0 c.in_ok-items.items.mask c.in_ok-items.items.numbers
    c.requires.lists.leaves.kind (item_there l f m lane c.requires.lists c.args.how)
    items c.in_ok-items.ensures.mask c.in_ok-masked.ensures
