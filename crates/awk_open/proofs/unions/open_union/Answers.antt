use Rattle.std.proofs.Common.{◌≡◌, ap, sym, subst, ◌∙◌}
use Rattle.std.specs.Prelude.{pos}
use Rattle.awk_lanes.specs.declared.kind.Kind.TheVariants.{I64}
use Rattle.awk_layout.specs.Layout.{Layout}
use Rattle.awk_layout.specs.Valid.{len}
use Rattle.awk_lanes.specs.Made.{lane_of}
use Rattle.awk_spread.specs.Spread.{IsSpread}
use Rattle.awk_open.proofs.OpenedArrays.{all_optional}
use Rattle.awk_open.proofs.SettledUnions.{tags_of, can_unite, parts_within, opened_union}
use Rattle.awk_open.proofs.unions.open_union.Goals as goal

pub alternatives-requires-clause-index : goal.alternatives-requires-clause-index
alternatives-requires-clause-index g c =
    all_optional (len c.node.result.now) c.in_ok-first.first
    (c.in_ok-first.ensures ∙ ap (λ n. lane_of I64 n (λ i. pos i))
    (c.len.ensures.len ∙ ap len (sym c.node.ensures)))

pub settle_tags-requires-clause-tags : goal.settle_tags-requires-clause-tags
settle_tags-requires-clause-tags g c =
    let e : c.in_ok-first.first ≡ lane_of I64 (len c.args.x.now) (λ i. pos i) =
    c.in_ok-first.ensures ∙ ap (λ n. lane_of I64 n (λ i. pos i)) c.len.ensures.len in
    let q : IsSpread c.args.x.now c.in_ok-first.first c.in_ok-spread_tags.field-0.tags
    c.in_ok-spread_tags.field-0.index c.in_ok-spread_tags.field-0.contents =
    subst (λ (x : Layout). IsSpread x c.in_ok-first.first c.in_ok-spread_tags.field-0.tags
    c.in_ok-spread_tags.field-0.index c.in_ok-spread_tags.field-0.contents) c.node.ensures
    c.in_ok-spread_tags.ensures.spread in
    tags_of c.in_ok-spread_tags.field-0.tags c.in_ok-spread_tags.field-0.index
    c.in_ok-spread_tags.field-0.contents (can_unite c.args.x.now c.in_ok-first.first
    c.in_ok-spread_tags.field-0.tags c.in_ok-spread_tags.field-0.index
    c.in_ok-spread_tags.field-0.contents e c.len.ensures.valid c.requires.union
    c.typ.ensures.lawful.within_limits q)

pub arrays_within-requires : goal.arrays_within-requires
arrays_within-requires g c =
    let e : c.in_ok-first.first ≡ lane_of I64 (len c.args.x.now) (λ i. pos i) =
    c.in_ok-first.ensures ∙ ap (λ n. lane_of I64 n (λ i. pos i)) c.len.ensures.len in
    let q : IsSpread c.args.x.now c.in_ok-first.first c.in_ok-spread_tags.field-0.tags
    c.in_ok-spread_tags.field-0.index c.in_ok-spread_tags.field-0.contents =
    subst (λ (x : Layout). IsSpread x c.in_ok-first.first c.in_ok-spread_tags.field-0.tags
    c.in_ok-spread_tags.field-0.index c.in_ok-spread_tags.field-0.contents) c.node.ensures
    c.in_ok-spread_tags.ensures.spread in
    record {
      limits = parts_within c.args.x.now c.in_ok-spread_tags.field-0.contents q.types
          c.requires.union c.typ.ensures.lawful.within_limits;
    }

pub returns : goal.returns
returns g c =
    let e : c.in_ok-first.first ≡ lane_of I64 (len c.args.x.now) (λ i. pos i) =
    c.in_ok-first.ensures ∙ ap (λ n. lane_of I64 n (λ i. pos i)) c.len.ensures.len in
    let q : IsSpread c.args.x.now c.in_ok-first.first c.in_ok-spread_tags.field-0.tags
    c.in_ok-spread_tags.field-0.index c.in_ok-spread_tags.field-0.contents =
    subst (λ (x : Layout). IsSpread x c.in_ok-first.first c.in_ok-spread_tags.field-0.tags
    c.in_ok-spread_tags.field-0.index c.in_ok-spread_tags.field-0.contents) c.node.ensures
    c.in_ok-spread_tags.ensures.spread in
    record {
      opened =
          opened_union c.args.x.now c.in_ok-first.first c.in_ok-spread_tags.field-0.tags
          c.in_ok-spread_tags.field-0.index c.in_ok-tags.tags c.in_ok-spread_tags.field-0.contents
          c.in_ok-contents.contents e c.len.ensures.valid c.requires.union c.requires.present
          c.typ.ensures.lawful.within_limits q c.in_ok-tags.ensures.lane
          c.in_ok-contents.ensures.arrays c.in_ok-contents.ensures.valid;
    }
