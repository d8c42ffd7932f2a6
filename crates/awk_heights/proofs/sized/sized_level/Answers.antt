use Rattle.std.proofs.Common.{◌≡◌, ap, sym, subst, ◌∙◌}
use Rattle.std.specs.Prelude.{pos}
use Rattle.awk_lanes.specs.Made.{lane_of}
use Rattle.awk_lanes.specs.Places.{IsOptionalIndex}
use Rattle.awk_lanes.specs.declared.kind.Kind.TheVariants.{I64}
use Rattle.awk_layout.specs.Frames.{IsOnly}
use Rattle.awk_layout.specs.Layout.{regular}
use Rattle.awk_layout.specs.Valid.{len}
use Rattle.awk_gather.specs.Peeled.{IsPeeled}
use Rattle.awk_open.proofs.OpenedArrays.{all_optional}
use Rattle.awk_heights.specs.Levels.{IsOver}
use Rattle.awk_heights.specs.declared.level.Cover.TheVariants as cover
use Rattle.awk_heights.proofs.SizedLaws.{sized_over}
use Rattle.awk_heights.proofs.sized.sized_level.Goals as goal

pub peel-requires-clause-index : goal.peel-requires-clause-index
peel-requires-clause-index g c =
    subst (λ y. IsOptionalIndex c.in_ok-places.places (len y)) (sym c.node.ensures)
    (all_optional (len c.args.x.now) c.in_ok-places.places
    (c.in_ok-places.ensures ∙ ap (λ n. lane_of I64 n (λ i. pos i)) c.len.ensures.len))

pub returns : goal.returns
returns g c =
    let x = c.args.x.now in
    let p = c.in_ok-places.places in
    let k = c.in_ok-index.field-0.index in
    let y = c.in_ok-index.field-0.content in
    let size = c.regular_parts-size.result.0 in
    let z = c.in_ok-inner.inner in
    let all : p ≡ lane_of I64 (len x) (λ i. pos i) =
    c.in_ok-places.ensures ∙ ap (λ n. lane_of I64 n (λ i. pos i)) c.len.ensures.len in
    let h : IsPeeled x p k y =
    subst (λ w. IsPeeled w p k y) c.node.ensures c.in_ok-index.ensures.peeled in
    let q : y ≡ regular size (len y) z =
    c.regular_parts-size.ensures.parts
    ∙ ap (λ w. regular size (len y) w) (sym c.in_ok-inner.ensures) in
    let over : IsOver x (cover.Sized k size (len y)) z =
    sized_over x y p k h c.requires size z q c.regular_parts-size.ensures.valid all
    c.len.ensures.valid in
    subst (λ n. IsOnly (IsOver x (cover.Sized k size n)) c.in_ok-only.field-0)
    (sym c.len-2.ensures.len)
    (subst (IsOnly (IsOver x (cover.Sized k size (len y)))) (sym c.in_ok-only.ensures) over)
