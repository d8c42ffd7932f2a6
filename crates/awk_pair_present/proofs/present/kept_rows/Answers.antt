use Rattle.std.proofs.Common.{arith, ap, sym, subst, ◌∙◌}
use Rattle.awk_lanes.specs.Column.{Column}
use Rattle.awk_lanes.specs.Places.{size_of, IsOptionKind}
use Rattle.awk_frames.specs.Shape.{numbers_of}
use Rattle.awk_pair_present.proofs.PresenceLaws.{present_are, all_kept, kept_positive}
use Rattle.awk_pair_present.proofs.KeptMasks.{mask-size, shown-size, shown-count, shown-total}
use Rattle.awk_pair_present.proofs.KeptMasks.{shown-counted, shown-places}
use Rattle.awk_pair_present.proofs.NarrowIndexes.{narrow_option}
use Rattle.awk_pair_present.proofs.present.kept_rows.Goals as goal

pub mask_index-shown-requires-clause-small : goal.mask_index-shown-requires-clause-small
mask_index-shown-requires-clause-small g c =
    omega (
      arith,
      mask-size c.args.presences.now c.args.n c.in_ok-mask.mask c.in_ok-mask.ensures.lane,
      c.requires.few,
    )

pub places_of-requires-clause-ready : goal.places_of-requires-clause-ready
places_of-requires-clause-ready g c =
    omega (
      arith,
      shown-size c.args.presences.now c.args.n c.in_ok-mask.mask c.mask_index-shown.result
          c.in_ok-mask.ensures.lane c.mask_index-shown.ensures,
      c.requires.few,
    )

pub places_of-requires-clause-within : goal.places_of-requires-clause-within
places_of-requires-clause-within g c =
    omega (
      arith,
      shown-size c.args.presences.now c.args.n c.in_ok-mask.mask c.mask_index-shown.result
          c.in_ok-mask.ensures.lane c.mask_index-shown.ensures,
    )

pub places_of-requires-clause-total : goal.places_of-requires-clause-total
places_of-requires-clause-total g c =
    shown-total c.args.presences.now c.args.n c.in_ok-mask.mask c.mask_index-shown.result
    c.in_ok-mask.ensures.lane c.mask_index-shown.ensures c.count_present-count.result
    c.count_present-count.ensures

pub counted_narrow-requires-clause-small : goal.counted_narrow-requires-clause-small
counted_narrow-requires-clause-small g c =
    omega (
      arith,
      shown-size c.args.presences.now c.args.n c.in_ok-mask.mask c.mask_index-shown.result
          c.in_ok-mask.ensures.lane c.mask_index-shown.ensures,
      c.requires.few,
    )

pub new-index-requires : goal.new-index-requires
new-index-requires g c =
    subst (λ (k : Column). IsOptionKind k.kind) (sym c.in_ok-numbers.ensures.lane)
    (narrow_option (size_of c.mask_index-shown.result))

pub all_taken-requires-clause-positive : goal.all_taken-requires-clause-positive
all_taken-requires-clause-positive g c =
    kept_positive c.args.n c.args.presences.now c.in_ok-places.places
    (shown-places c.args.presences.now c.args.n c.in_ok-mask.mask c.mask_index-shown.result
    c.in_ok-mask.ensures.lane c.mask_index-shown.ensures c.in_ok-places.places
    c.in_ok-places.ensures)

pub all_taken-requires-clause-kept : goal.all_taken-requires-clause-kept
all_taken-requires-clause-kept g c =
    all_kept c.args.n c.args.presences.now c.in_ok-places.places
    (shown-places c.args.presences.now c.args.n c.in_ok-mask.mask c.mask_index-shown.result
    c.in_ok-mask.ensures.lane c.mask_index-shown.ensures c.in_ok-places.places
    c.in_ok-places.ensures)

pub returns : goal.returns
returns g c xs h =
    let ps = c.args.presences.now in
    let m = c.in_ok-mask.mask in
    let j = c.mask_index-shown.result in
    let e = c.in_ok-mask.ensures.lane in
    let f = c.mask_index-shown.ensures in
    present_are c.args.n c.count_present-count.result xs ps c.new-index.result
    c.in_ok-places.places c.in_ok-arrays.arrays h
    (shown-count ps c.args.n m j e f c.count_present-count.result c.count_present-count.ensures)
    (shown-counted ps c.args.n m j e f c.new-index.result
    (c.new-index.ensures ∙ ap numbers_of c.in_ok-numbers.ensures.lane))
    (shown-places ps c.args.n m j e f c.in_ok-places.places c.in_ok-places.ensures)
    c.in_ok-arrays.ensures
