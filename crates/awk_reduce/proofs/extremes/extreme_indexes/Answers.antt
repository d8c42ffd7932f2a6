use Rattle.std.proofs.Common.{ap, sym, ◌∙◌, subst, arith}
use Rattle.awk_lanes.specs.Made.{lane_of}
use Rattle.awk_lanes.specs.Places.{size_of}
use Rattle.awk_layout.specs.Valid.{IsByteMask}
use Rattle.awk_lanes.specs.declared.kind.Kind.TheVariants.{I8, I64}
use Rattle.awk_numbers.specs.Folds.{whole_numbers}
use Rattle.awk_parts.specs.Lanes.{local_at, present_at}
use Rattle.awk_parts.specs.Spans.{span_count}
use Rattle.awk_reduce.proofs.ColumnLaws.{mask_valid, size-made}
use Rattle.awk_reduce.proofs.PlaceLaws.{ready_places}
use Rattle.awk_reduce.proofs.extremes.extreme_indexes.Goals as goal

pub masked-requires-clause-length : goal.masked-requires-clause-length
masked-requires-clause-length g c =
    let p = c.args.x.now.spans.now in
    let zs = whole_numbers c.in_ok-numbers.numbers in
    omega (
      arith,
      size-made c.in_ok-mask.mask I8 (span_count p) (present_at zs p) c.in_ok-mask.ensures,
      c.requires.fits,
    )

pub masked-requires-clause-size : goal.masked-requires-clause-size
masked-requires-clause-size g c =
    let x = c.args.x.now in
    omega (
      arith,
      size-made c.in_ok-places.places I64 (span_count x.spans.now)
          (local_at c.args.how (whole_numbers c.in_ok-numbers.numbers) x.spans.now)
          c.in_ok-places.ensures,
      c.requires.fits,
    )

pub masked-requires-clause-valid : goal.masked-requires-clause-valid
masked-requires-clause-valid g c =
    let x = c.args.x.now in
    let zs = whole_numbers c.in_ok-numbers.numbers in
    let n = size_of c.in_ok-places.places in
    subst (λ j. IsByteMask j n) (sym c.in_ok-mask.ensures)
    (mask_valid (span_count x.spans.now) n (present_at zs x.spans.now)
    (size-made c.in_ok-places.places I64 (span_count x.spans.now)
    (local_at c.args.how zs x.spans.now) c.in_ok-places.ensures))

pub returns : goal.returns
returns g c =
    let x = c.args.x.now in
    let p = x.spans.now in
    ready_places x c.requires c.args.how c.in_ok-masked.field-0 c.in_ok-mask.mask
    c.in_ok-places.places
    (c.in_ok-places.ensures
    ∙ ap (λ zs. lane_of I64 (span_count p) (local_at c.args.how zs p))
    c.in_ok-numbers.ensures.numbers)
    (c.in_ok-mask.ensures
    ∙ ap (λ zs. lane_of I8 (span_count p) (present_at zs p)) c.in_ok-numbers.ensures.numbers)
    c.in_ok-masked.ensures
