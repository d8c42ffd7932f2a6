use Rattle.std.proofs.Common.{◌∙◌, ap, map, sym}
use Rattle.std.specs.Prelude.{reverse}
use Rattle.awk_types.specs.View.{typ_of}
use Rattle.awk_layout.specs.Typing.{array_items}
use Rattle.awk_unify.specs.View.{lifts_of, unified_of}
use Rattle.awk_merge_sides.specs.Sides.{sides_of}
use Rattle.awk_build.specs.Suffix.{carriers}
use Rattle.awk_build.proofs.SideLaws.{carries_count, joined_is, joined_lawful, joined_sides}
use Rattle.awk_build.proofs.joining.joined.Goals as goal

pub columns-requires : goal.columns-requires
columns-requires g c =
    carries_count c.args.xs.now (lifts_of c.in_ok-lifts.lifts)
    (c.in_ok-lifts.ensures
    ∙ ap (λ us. reverse (carriers (map unified_of us)).each) c.deref.ensures.value
    ∙ ap (λ rs. reverse (carriers rs).each) c.in_ok-each.ensures.steps)

pub merge-requires-clause-lawful : goal.merge-requires-clause-lawful
merge-requires-clause-lawful g c =
    joined_lawful c.args.xs.now (typ_of c.in_ok-each.field-0.typ) c.in_ok-each.ensures.typ
    c.in_ok-each.ensures.lawful c.requires

pub merge-requires-clause-sides : goal.merge-requires-clause-sides
merge-requires-clause-sides g c =
    joined_sides c.args.xs.now (typ_of c.in_ok-each.field-0.typ) (lifts_of c.in_ok-lifts.lifts)
    (sides_of c.in_ok-sides.sides) c.in_ok-each.ensures.typ c.in_ok-each.ensures.lawful
    (c.in_ok-lifts.ensures
    ∙ ap (λ us. reverse (carriers (map unified_of us)).each) c.deref.ensures.value
    ∙ ap (λ rs. reverse (carriers rs).each) c.in_ok-each.ensures.steps) c.in_ok-sides.ensures.sides

pub with_type-requires : goal.with_type-requires
with_type-requires g c = record {
  typ = sym c.in_ok-node.ensures.typ;
  lawful =
      joined_lawful c.args.xs.now (typ_of c.in_ok-each.field-0.typ) c.in_ok-each.ensures.typ
      c.in_ok-each.ensures.lawful c.requires;
}

pub returns-clause-items : goal.returns-clause-items
returns-clause-items g c =
    ap array_items c.with_type.ensures ∙ c.in_ok-node.ensures.items
    ∙ joined_is c.args.xs.now (lifts_of c.in_ok-lifts.lifts) (sides_of c.in_ok-sides.sides)
    (c.in_ok-lifts.ensures
    ∙ ap (λ us. reverse (carriers (map unified_of us)).each) c.deref.ensures.value
    ∙ ap (λ rs. reverse (carriers rs).each) c.in_ok-each.ensures.steps) c.in_ok-sides.ensures.sides
