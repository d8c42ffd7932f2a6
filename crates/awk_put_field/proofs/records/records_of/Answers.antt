use Rattle.std.proofs.Common.{◌≡◌, ◌∙◌, ap, sym, subst, length, refl, Some}
use Rattle.awk_types.specs.Names.{AreDistinct}
use Rattle.awk_layout.specs.Contents.{count-layouts_from}
use Rattle.awk_layout.specs.Layout.{rows, layouts_from}
use Rattle.awk_layout.specs.Valid.{AllReach}
use Rattle.awk_open.proofs.LayoutParts.{reach_long}
use Rattle.awk_put_field.specs.Field.{put, named as named_with}
use Rattle.awk_put_field.specs.Places.{put_at}
use Rattle.awk_put_field.proofs.PutLaws.{put-at, length-put, long_put, named_distinct}
use Rattle.awk_put_field.proofs.records.records_of.Goals as goal

pub row-requires-clause-names : goal.row-requires-clause-names
row-requires-clause-names g c =
    let n = c.args.name.now in
    let ns = c.args.names.now in
    let x = c.args.column.now in
    let ys = c.args.columns.now in
    let nodes : c.in_ok-nodes.nodes ≡ put n ns x ys =
    c.in_ok-nodes.ensures ∙ ap (λ k. put_at k x ys) c.place_of-place.ensures
    ∙ sym (put-at n ns x ys c.requires.names.0) in (
      ap length c.in_ok-named.ensures
          ∙ length-put n ns n ns x ys refl c.requires.names.0
          ∙ sym (count-layouts_from c.in_ok-nodes.nodes ∙ ap length nodes),
      subst AreDistinct (sym c.in_ok-named.ensures) (named_distinct n ns c.requires.names.1),
    )

pub row-requires-clause-valid : goal.row-requires-clause-valid
row-requires-clause-valid g c =
    let n = c.args.name.now in
    let ns = c.args.names.now in
    let x = c.args.column.now in
    let ys = c.args.columns.now in
    let nodes : c.in_ok-nodes.nodes ≡ put n ns x ys =
    c.in_ok-nodes.ensures ∙ ap (λ k. put_at k x ys) c.place_of-place.ensures
    ∙ sym (put-at n ns x ys c.requires.names.0) in
    subst (λ zs. AllReach c.args.n (layouts_from zs)) (sym nodes)
    (reach_long c.args.n (put n ns x ys)
    (long_put c.args.n n ns x ys c.requires.column c.requires.long))

pub returns : goal.returns
returns g c =
    let n = c.args.name.now in
    let ns = c.args.names.now in
    let x = c.args.column.now in
    let ys = c.args.columns.now in
    let nodes : c.in_ok-nodes.nodes ≡ put n ns x ys =
    c.in_ok-nodes.ensures ∙ ap (λ k. put_at k x ys) c.place_of-place.ensures
    ∙ sym (put-at n ns x ys c.requires.names.0) in
    c.row.ensures.node
    ∙ ap (λ ms. rows (Some ms) c.args.n (layouts_from c.in_ok-nodes.nodes)) c.in_ok-named.ensures
    ∙ ap (λ zs. rows (Some (named_with n ns)) c.args.n (layouts_from zs)) nodes
