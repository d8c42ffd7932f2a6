use Rattle.std.proofs.Common.{◌≡◌, ap, ◌∙◌, w64, rules, FitsSigned}
use Rattle.std.proofs.lemmas.Int.{to_z-of_z}
use Rattle.awk_lanes.specs.declared.kind.Kind.TheVariants.{I64}
use Rattle.awk_lanes.specs.Places.{size_of}
use Rattle.awk_lanes.specs.Made.{lane_of}
use Rattle.awk_open.specs.Settled.{settled_place}
use Rattle.awk_layout.specs.Layout.{layouts_from, union}
use Rattle.awk_open.proofs.SettledUnions.{unite_by, settled_some}
use Rattle.awk_open.proofs.unions.settle_by.Goals as goal

pub union-content-requires-clause-length : goal.union-content-requires-clause-length
union-content-requires-clause-length g c =
    let fits : FitsSigned w64 c.index_at-place.result = search rules in
    let places : c.in_ok-places.places ≡ lane_of I64 (size_of c.args.index.now)
    (settled_place c.args.index.now c.index_at-place.result) =
    c.in_ok-places.ensures.lane ∙ ap (λ z. lane_of I64 (size_of c.args.index.now)
    (settled_place c.args.index.now z)) (to_z-of_z w64 c.index_at-place.result fits) in
    (unite_by c.args.tags.now c.args.index.now c.in_ok-new_tags.new_tags c.in_ok-places.places
    c.args.contents.now c.in_ok-copied.copied c.args.present c.place_in-tag.result
    c.index_at-place.result c.requires.fits c.requires.within c.requires.present
    c.place_in-tag.ensures.value c.index_at-place.ensures.value c.in_ok-new_tags.ensures.lane
    places c.in_ok-copied.ensures).1

pub union-content-requires-clause-valid : goal.union-content-requires-clause-valid
union-content-requires-clause-valid g c =
    let fits : FitsSigned w64 c.index_at-place.result = search rules in
    let places : c.in_ok-places.places ≡ lane_of I64 (size_of c.args.index.now)
    (settled_place c.args.index.now c.index_at-place.result) =
    c.in_ok-places.ensures.lane ∙ ap (λ z. lane_of I64 (size_of c.args.index.now)
    (settled_place c.args.index.now z)) (to_z-of_z w64 c.index_at-place.result fits) in
    (unite_by c.args.tags.now c.args.index.now c.in_ok-new_tags.new_tags c.in_ok-places.places
    c.args.contents.now c.in_ok-copied.copied c.args.present c.place_in-tag.result
    c.index_at-place.result c.requires.fits c.requires.within c.requires.present
    c.place_in-tag.ensures.value c.index_at-place.ensures.value c.in_ok-new_tags.ensures.lane
    places c.in_ok-copied.ensures).0

pub returns : goal.returns
returns g c =
    let fits : FitsSigned w64 c.index_at-place.result = search rules in
    let places : c.in_ok-places.places ≡ lane_of I64 (size_of c.args.index.now)
    (settled_place c.args.index.now c.index_at-place.result) =
    c.in_ok-places.ensures.lane ∙ ap (λ z. lane_of I64 (size_of c.args.index.now)
    (settled_place c.args.index.now z)) (to_z-of_z w64 c.index_at-place.result fits) in
    record {
      settled =
          settled_some c.args.tags.now c.args.index.now c.in_ok-new_tags.new_tags
          c.in_ok-places.places c.in_ok-own.own c.args.contents.now c.union-content.result
          c.place_in-tag.result c.index_at-place.result c.requires.fits
          c.in_ok-new_tags.ensures.lane places c.in_ok-own.ensures.lane
          (c.union-content.ensures.node ∙ ap (λ zs. union c.in_ok-new_tags.new_tags
          c.in_ok-places.places (layouts_from zs)) c.in_ok-copied.ensures);
    }
