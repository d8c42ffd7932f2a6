use Rattle.std.proofs.Common.{◌≡◌, ap, sym, subst, ◌∙◌}
use Rattle.std.specs.Prelude.{pos}
use Rattle.awk_lanes.specs.declared.kind.Kind.TheVariants.{I64}
use Rattle.awk_layout.specs.Layout.{Layout}
use Rattle.awk_layout.specs.Valid.{len}
use Rattle.awk_lanes.specs.Made.{lane_of}
use Rattle.awk_spread.specs.Spread.{IsSpread}
use Rattle.awk_open.proofs.OpenedArrays.{all_optional}
use Rattle.awk_open.proofs.SettledUnions.{can_unite, settled_limit, opened_united}
use Rattle.awk_open.proofs.unions.open_union_option.Goals as goal

pub alternatives-requires-clause-index : goal.alternatives-requires-clause-index
alternatives-requires-clause-index g c =
    all_optional (len c.node.result.now) c.in_ok-first.first
    (c.in_ok-first.ensures ∙ ap (λ n. lane_of I64 n (λ i. pos i))
    (c.len.ensures.len ∙ ap len (sym c.node.ensures)))

pub settle-requires : goal.settle-requires
settle-requires g c =
    let e : c.in_ok-first.first ≡ lane_of I64 (len c.args.x.now) (λ i. pos i) =
    c.in_ok-first.ensures ∙ ap (λ n. lane_of I64 n (λ i. pos i)) c.len.ensures.len in
    let q : IsSpread c.args.x.now c.in_ok-first.first c.in_ok-tags.field-0.tags
    c.in_ok-tags.field-0.index c.in_ok-tags.field-0.contents =
    subst (λ (x : Layout). IsSpread x c.in_ok-first.first c.in_ok-tags.field-0.tags
    c.in_ok-tags.field-0.index c.in_ok-tags.field-0.contents) c.node.ensures
    c.in_ok-tags.ensures.spread in
    record {
      fits = can_unite c.args.x.now c.in_ok-first.first c.in_ok-tags.field-0.tags
          c.in_ok-tags.field-0.index c.in_ok-tags.field-0.contents e c.len.ensures.valid
          c.requires.union c.typ.ensures.lawful.within_limits q;
    }

pub of_node-requires : goal.of_node-requires
of_node-requires g c =
    let e : c.in_ok-first.first ≡ lane_of I64 (len c.args.x.now) (λ i. pos i) =
    c.in_ok-first.ensures ∙ ap (λ n. lane_of I64 n (λ i. pos i)) c.len.ensures.len in
    let q : IsSpread c.args.x.now c.in_ok-first.first c.in_ok-tags.field-0.tags
    c.in_ok-tags.field-0.index c.in_ok-tags.field-0.contents =
    subst (λ (x : Layout). IsSpread x c.in_ok-first.first c.in_ok-tags.field-0.tags
    c.in_ok-tags.field-0.index c.in_ok-tags.field-0.contents) c.node.ensures
    c.in_ok-tags.ensures.spread in
    settled_limit c.args.x.now c.in_ok-index.field-0.content c.in_ok-tags.field-0.tags
    c.in_ok-tags.field-0.index c.in_ok-index.field-0.index c.in_ok-tags.field-0.contents q.types
    c.requires.union c.typ.ensures.lawful.is_simple c.typ.ensures.lawful.within_limits
    c.in_ok-index.ensures.settled

pub returns : goal.returns
returns g c =
    let e : c.in_ok-first.first ≡ lane_of I64 (len c.args.x.now) (λ i. pos i) =
    c.in_ok-first.ensures ∙ ap (λ n. lane_of I64 n (λ i. pos i)) c.len.ensures.len in
    let q : IsSpread c.args.x.now c.in_ok-first.first c.in_ok-tags.field-0.tags
    c.in_ok-tags.field-0.index c.in_ok-tags.field-0.contents =
    subst (λ (x : Layout). IsSpread x c.in_ok-first.first c.in_ok-tags.field-0.tags
    c.in_ok-tags.field-0.index c.in_ok-tags.field-0.contents) c.node.ensures
    c.in_ok-tags.ensures.spread in
    record {
      opened =
          opened_united c.args.x.now c.in_ok-index.field-0.content c.in_ok-content.content
          c.in_ok-first.first c.in_ok-tags.field-0.tags c.in_ok-tags.field-0.index
          c.in_ok-index.field-0.index c.in_ok-tags.field-0.contents e c.len.ensures.valid
          c.requires.union c.requires.option c.typ.ensures.lawful.is_simple q
          c.in_ok-index.ensures.settled c.len-2.ensures.valid c.in_ok-content.ensures;
    }
