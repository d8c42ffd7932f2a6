use Rattle.std.proofs.Common.{◌≡◌, ◌+◌, arith, ap, sym, ◌∙◌, subst}
use Rattle.std.specs.Prelude.{pos}
use Rattle.awk_lanes.specs.Counted.{before}
use Rattle.awk_lanes.specs.Places.{size_of, IsOffsets}
use Rattle.awk_lanes.specs.declared.kind.Kind.TheVariants.{I64}
use Rattle.awk_lanes.proofs.MadeLanes.{size-lane_of}
use Rattle.awk_lanes.proofs.CountedLanes.{before-equal}
use Rattle.awk_layout.specs.Layout.{flat}
use Rattle.awk_layout.specs.Valid.{len}
use Rattle.awk_hist.proofs.RowLaws.{even_offsets}
use Rattle.awk_hist.proofs.rows.counts_node.Goals as goal

pub offsets_of-requires-clause-small : goal.offsets_of-requires-clause-small
offsets_of-requires-clause-small g c =
    omega (arith, before-equal c.args.length c.args.n, c.requires.few)

pub list_offset-requires-clause-length : goal.list_offset-requires-clause-length
list_offset-requires-clause-length g c =
    omega (
      arith,
      ap size_of c.in_ok-offsets.ensures.1,
      size-lane_of I64 (c.args.n + 1) (λ i. pos (before (λ j. c.args.length) i)),
      c.requires.fits,
    )

pub list_offset-requires-clause-valid : goal.list_offset-requires-clause-valid
list_offset-requires-clause-valid g c =
    let w = c.args.counts.now in
    let o = c.in_ok-offsets.field-0.lane in
    let content : c.in_ok-content.content.value ≡ flat w =
    c.in_ok-content.ensures.ok ∙ c.numpy.ensures.node ∙ ap flat c.copy.ensures in
    let even : IsOffsets o (size_of w) =
    subst (λ o. IsOffsets o (size_of w)) (sym c.in_ok-offsets.ensures.1)
    (even_offsets c.args.length c.args.n (size_of w) c.requires.size) in
    subst (λ y. IsOffsets o (len y)) (sym content) even
