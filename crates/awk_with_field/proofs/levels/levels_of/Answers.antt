use Rattle.std.proofs.Common.{◌≤◌, ◌∙◌, ap, sym, subst}
use Rattle.awk_types.specs.Parts.{list_depth}
use Rattle.awk_types.specs.View.{typ_of}
use Rattle.awk_layout.specs.Typing.{array_type}
use Rattle.awk_with_field.proofs.LevelLaws.{few_lists, levels-arr, levels-one}
use Rattle.awk_with_field.proofs.levels.levels_of.Goals as goal

pub lists_down-down-requires : goal.lists_down-down-requires
lists_down-down-requires c = record {
  few = subst (λ t. list_depth t ≤ 60) (sym c.typ.ensures.typ)
      (few_lists (array_type c.kept.result.now) c.typ.ensures.lawful.within_limits);
}

pub returns-in-Arr : goal.returns-in-Arr
returns-in-Arr c =
    levels-arr c.args.x.now c.in-Arr.field-0 (typ_of c.typ.result.now) c.lists_down-down.result
    c.in-Arr.is (c.typ.ensures.typ ∙ ap array_type c.kept.ensures) c.lists_down-down.ensures.levels

pub returns-in-One : goal.returns-in-One
returns-in-One c =
    levels-one c.args.x.now c.in-One.field-0 (typ_of c.typ.result.now) c.lists_down-down.result
    c.in-One.is (c.typ.ensures.typ ∙ ap array_type c.kept.ensures) c.lists_down-down.ensures.levels
