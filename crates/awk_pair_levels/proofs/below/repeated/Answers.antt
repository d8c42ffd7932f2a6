use Rattle.std.proofs.Common.{sym, ap, subst, ◌∙◌}
use Rattle.std.proofs.lemmas.Result.{IfOk-weaker}
use Rattle.awk_lanes.specs.Column.{Column}
use Rattle.awk_lanes.specs.Places.{size_of}
use Rattle.awk_layout.specs.Layout.{Layout}
use Rattle.awk_layout.specs.Valid.{len}
use Rattle.awk_columns.specs.Lists.{length_of}
use Rattle.awk_pair_levels.specs.Shares.{IsNext}
use Rattle.awk_pair_levels.specs.declared.shares.Share.TheVariants.{Items}
use Rattle.awk_pair_levels.proofs.NextLaws.{next_items, places_there}
use Rattle.awk_pair_levels.proofs.below.repeated.Goals as goal

pub gather-requires-clause-kind : goal.gather-requires-clause-kind
gather-requires-clause-kind g c =
    ap (λ (k : Column). k.kind)
    (c.requires.places (sym c.is_flat.ensures ∙ c.if-not-is_flat.true))

pub gather-requires-clause-places : goal.gather-requires-clause-places
gather-requires-clause-places g c =
    let l = c.args.level.now.lead.now in
    places_there (length_of l) (size_of l.starts) (len c.args.y.now) c.args.level.now.places
    (c.requires.places (sym c.is_flat.ensures ∙ c.if-not-is_flat.true)) c.requires.long

pub returns-then-not-is_flat : goal.returns-then-not-is_flat
returns-then-not-is_flat g c =
    let l = c.args.level.now.lead.now in
    next_items (size_of l.starts) (length_of l) c.args.level.now.places c.args.y.now
    c.in_ok-items.items (c.requires.places (sym c.is_flat.ensures ∙ c.if-not-is_flat.true))
    c.in_ok-items.ensures.gathered

pub repeated_numbers-requires-clause-long : goal.repeated_numbers-requires-clause-long
repeated_numbers-requires-clause-long g c =
    ap len (c.in-Numpy.ensures.class ∙ c.node.ensures) ∙ c.requires.long

-- IfOk-weaker carries repeated_numbers' clause from flat lane to y
pub returns : goal.returns
returns g c =
    let l = c.args.level.now.lead.now in
    IfOk-weaker c.repeated_numbers.result _ _
    (λ r h. subst (λ (y : Layout). IsNext (length_of l) (size_of l.starts) (Items y) r)
    (c.in-Numpy.ensures.class ∙ c.node.ensures) h) c.repeated_numbers.ensures
