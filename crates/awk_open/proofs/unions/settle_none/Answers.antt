use Rattle.std.proofs.Common.{ap, ◌∙◌}
use Rattle.awk_layout.specs.Layout.{layouts_from, union}
use Rattle.awk_open.proofs.SettledUnions.{unite_none, settled_none}
use Rattle.awk_open.proofs.unions.settle_none.Goals as goal

pub union-content-requires-clause-valid : goal.union-content-requires-clause-valid
union-content-requires-clause-valid g c =
    unite_none c.in_ok-new_tags.new_tags c.in_ok-places.places c.args.contents.now
    c.in_ok-copied.copied c.requires.fits.some c.in_ok-new_tags.ensures.kind
    c.in_ok-places.ensures.kind c.in_ok-new_tags.ensures.items c.in_ok-places.ensures.items
    c.in_ok-copied.ensures

pub returns : goal.returns
returns g c = record {
  settled =
      settled_none c.args.tags.now c.args.index.now c.in_ok-new_tags.new_tags c.in_ok-places.places
      c.copy-2.result c.args.contents.now c.union-content.result c.requires.fits.index_kind
      c.requires.none c.in_ok-new_tags.ensures.items
      (c.union-content.ensures.node ∙ ap (λ zs. union c.in_ok-new_tags.new_tags
      c.in_ok-places.places (layouts_from zs)) c.in_ok-copied.ensures) c.copy-2.ensures;
}
