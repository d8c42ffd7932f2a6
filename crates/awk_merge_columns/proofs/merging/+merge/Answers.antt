use Rattle.std.proofs.Common.{◌≡◌, ◌∙◌, arith, length, subst, sym}
use Rattle.std.proofs.lemmas.Result.{IfOk-weaker}
use Rattle.awk_base.proofs.Every.{all-get}
use Rattle.awk_types.specs.DataType.{opt, reg, var}
use Rattle.awk_types.specs.View.{typ_of, typs_of}
use Rattle.awk_layout.specs.Array.{IsArrayType}
use Rattle.awk_layout.specs.Layout.{layouts_from, lists, regular, rows}
use Rattle.awk_merge_lists.specs.ListLevels.{IsListLevel, IsRegularLevel}
use Rattle.awk_merge_sides.specs.Groups.{groups_of}
use Rattle.awk_merge_rows.specs.PresentLevels.{option_over}
use Rattle.awk_merge_rows.specs.RowLevels.{row_names}
use Rattle.awk_merge_columns.specs.PartTypes.{part_types}
use Rattle.awk_merge_sides.specs.Sides.{IsMerged, sides_of}
use Rattle.awk_merge_sides.proofs.GroupLaws.{AreGroups-get, AreMerged-all, AreMerged-next}
use Rattle.awk_merge_sides.proofs.GroupLaws.{length-groups}
use Rattle.awk_merge_lists.proofs.ListLaws.{list_merged, list_spans}
use Rattle.awk_merge_columns.proofs.MergedLaws.{row_groups, row_parts_lawful, rows_are_named}
use Rattle.awk_merge_columns.proofs.MergedLaws.{rows_merged}
use Rattle.awk_merge_columns.proofs.MergedLaws.{rows_reach, union_groups, union_parts_lawful}
use Rattle.awk_merge_columns.proofs.MergedLaws.{unions_merged, unions_valid}
use Rattle.awk_merge_rows.proofs.WholeLaws.{present_index, present_merged}
use Rattle.awk_merge_lists.proofs.RegularLaws.{regular_merged, regular_room}
use Rattle.awk_merge_columns.proofs.TypeParts.{item_lawful, present_plain, sized_lawful}
use Rattle.awk_merge_columns.proofs.merging.+merge.Goals as goal

-- ---- options

pub merge_options-option_node-requires : goal.merge_options-option_node-requires
merge_options-option_node-requires g t c =
    present_index (typ_of c.args.present.now) (sides_of c.args.sides.now) c.in_ok-level.level
    c.in_ok-content.content c.in_ok-level.ensures c.in_ok-content.ensures

pub merge_options-returns : goal.merge_options-returns
merge_options-returns g t c =
    let u = typ_of c.args.present.now in
    let ss = sides_of c.args.sides.now in
    IfOk-weaker c.option_node.result
    (λ x. x ≡ option_over c.in_ok-level.level.index c.in_ok-content.content) (IsMerged (opt u) ss)
    (λ x e. subst (IsMerged (opt u) ss) (sym e)
    (present_merged u ss c.in_ok-level.level c.in_ok-content.content
    (present_plain u c.requires.lawful)
    c.in_ok-level.ensures c.in_ok-content.ensures))
    c.option_node.ensures

-- ---- lists

pub merge_lists-merge-requires : goal.merge_lists-merge-requires
merge_lists-merge-requires g t c κs within =
    let l : IsListLevel (typ_of c.args.item.now) (sides_of c.args.sides.now) c.in_ok-level.level
    = c.in_ok-level.ensures (typ_of c.args.item.now) c.requires.sides in (
      omega (arith, c.decreases),
      (within, (item_lawful (typ_of c.args.item.now) c.requires.lawful, (l.sides, l.counted))),
    )

pub merge_lists-list_node-requires-clause-length : goal.merge_lists-list_node-requires-clause-length
merge_lists-list_node-requires-clause-length g t c =
    let l : IsListLevel (typ_of c.args.item.now) (sides_of c.args.sides.now) c.in_ok-level.level
    = c.in_ok-level.ensures (typ_of c.args.item.now) c.requires.sides in
    l.fits

pub merge_lists-list_node-requires-clause-valid : goal.merge_lists-list_node-requires-clause-valid
merge_lists-list_node-requires-clause-valid g t c =
    list_spans (typ_of c.args.item.now) (sides_of c.args.sides.now) c.in_ok-level.level
    c.in_ok-content.content (c.in_ok-level.ensures (typ_of c.args.item.now) c.requires.sides)
    c.in_ok-content.ensures

pub merge_lists-returns : goal.merge_lists-returns
merge_lists-returns g t c =
    let u = typ_of c.args.item.now in
    let ss = sides_of c.args.sides.now in
    IfOk-weaker c.list_node.result
    (λ x. x ≡ lists c.in_ok-level.level.starts c.in_ok-level.level.stops c.in_ok-content.content)
    (IsMerged (var u) ss)
    (λ x e. subst (IsMerged (var u) ss) (sym e)
    (list_merged u ss c.in_ok-level.level c.in_ok-content.content
    (c.in_ok-level.ensures u c.requires.sides) c.in_ok-content.ensures))
    c.list_node.ensures

pub merge_regular-regular_level-requires-clause-lists :
    goal.merge_regular-regular_level-requires-clause-lists
merge_regular-regular_level-requires-clause-lists g t c =
    (c.args.size, (typ_of c.args.item.now, c.requires.sides))

pub merge_regular-merge-requires : goal.merge_regular-merge-requires
merge_regular-merge-requires g t c κs within =
    let l : IsRegularLevel c.args.size (typ_of c.args.item.now) (sides_of c.args.sides.now)
    c.in_ok-items.items
    = c.in_ok-items.ensures c.args.size (typ_of c.args.item.now) c.requires.sides in (
      omega (arith, c.decreases),
      (
        within,
        (sized_lawful c.args.size (typ_of c.args.item.now) c.requires.lawful, (l.sides, l.counted)),
      ),
    )

pub merge_regular-regular_node-requires-clause-valid :
    goal.merge_regular-regular_node-requires-clause-valid
merge_regular-regular_node-requires-clause-valid g t c =
    regular_room c.args.size (typ_of c.args.item.now) (sides_of c.args.sides.now)
    c.in_ok-items.items
    c.in_ok-content.content c.total.result (c.total.ensures ∙ c.requires.counted.total)
    (c.in_ok-items.ensures c.args.size (typ_of c.args.item.now) c.requires.sides)
    c.in_ok-content.ensures

pub merge_regular-returns : goal.merge_regular-returns
merge_regular-returns g t c =
    let u = typ_of c.args.item.now in
    let ss = sides_of c.args.sides.now in
    IfOk-weaker c.regular_node.result
    (λ x. x ≡ regular c.args.size c.total.result c.in_ok-content.content)
    (IsMerged (reg c.args.size u) ss)
    (λ x e. subst (IsMerged (reg c.args.size u) ss) (sym e)
    (regular_merged c.args.size u ss c.in_ok-items.items c.in_ok-content.content c.total.result
    (c.total.ensures ∙ c.requires.counted.total)
    (c.in_ok-items.ensures c.args.size u c.requires.sides) c.in_ok-content.ensures))
    c.regular_node.ensures

-- ---- rows

pub merge_rows-merge_each-requires : goal.merge_rows-merge_each-requires
merge_rows-merge_each-requires g t c κs within = (
  omega (arith, c.decreases),
  (
    within,
    (
      row_parts_lawful (typ_of c.args.t.now) c.requires.row c.requires.lawful,
      (
        row_groups (typ_of c.args.t.now) (sides_of c.args.sides.now) c.in_ok-groups.groups
            c.requires.row c.in_ok-groups.ensures,
        c.in_ok-groups.ensures.counted,
      ),
    ),
  ),
)

pub merge_rows-row_node-requires-clause-names : goal.merge_rows-row_node-requires-clause-names
merge_rows-row_node-requires-clause-names g t c =
    rows_are_named (typ_of c.args.t.now) (groups_of c.in_ok-groups.groups) c.in_ok-nodes.nodes
    c.requires.row c.requires.lawful c.in_ok-nodes.ensures

pub merge_rows-row_node-requires-clause-valid : goal.merge_rows-row_node-requires-clause-valid
merge_rows-row_node-requires-clause-valid g t c =
    rows_reach (typ_of c.args.t.now) (sides_of c.args.sides.now) c.total.result
    c.in_ok-groups.groups
    c.in_ok-nodes.nodes c.requires.row (c.total.ensures ∙ c.requires.counted.total)
    c.in_ok-groups.ensures c.in_ok-nodes.ensures

pub merge_rows-returns : goal.merge_rows-returns
merge_rows-returns g t c =
    IfOk-weaker c.row_node.result
    (λ x. x ≡ rows (row_names (typ_of c.args.t.now)) c.total.result
    (layouts_from c.in_ok-nodes.nodes))
    (IsMerged (typ_of c.args.t.now) (sides_of c.args.sides.now))
    (λ x e. rows_merged (typ_of c.args.t.now) (sides_of c.args.sides.now) c.total.result
    c.in_ok-groups.groups c.in_ok-nodes.nodes x c.requires.row
    (c.total.ensures ∙ c.requires.counted.total) c.in_ok-groups.ensures c.in_ok-nodes.ensures e)
    c.row_node.ensures

-- ---- unions

pub merge_unions-merge_each-requires : goal.merge_unions-merge_each-requires
merge_unions-merge_each-requires g t c κs within = (
  omega (arith, c.decreases),
  (
    within,
    (
      union_parts_lawful (typ_of c.args.t.now) (typs_of c.args.alternatives.now) c.requires.typ
          c.requires.lawful,
      (
        union_groups (typ_of c.args.t.now) (typs_of c.args.alternatives.now)
            (sides_of c.args.sides.now) c.in_ok-level.level c.requires.typ c.in_ok-level.ensures,
        c.in_ok-level.ensures.counted,
      ),
    ),
  ),
)

pub merge_unions-union-requires-clause-valid : goal.merge_unions-union-requires-clause-valid
merge_unions-union-requires-clause-valid g t c =
    unions_valid (typ_of c.args.t.now) (typs_of c.args.alternatives.now) (sides_of c.args.sides.now)
    c.in_ok-level.level c.in_ok-nodes.nodes c.requires.typ c.requires.lawful c.in_ok-level.ensures
    c.in_ok-nodes.ensures

pub merge_unions-returns : goal.merge_unions-returns
merge_unions-returns g t c =
    unions_merged (typ_of c.args.t.now) (typs_of c.args.alternatives.now)
    (sides_of c.args.sides.now)
    c.in_ok-level.level c.in_ok-nodes.nodes c.union.result c.requires.typ c.requires.lawful
    c.in_ok-level.ensures c.in_ok-nodes.ensures c.union.ensures.node

-- ---- each

pub merge_each-part_type-requires : goal.merge_each-part_type-requires
merge_each-part_type-requires g t c =
    omega (
      arith,
      c.loop-j-test.true,
      c.loop-j.auto.j-end,
      c.len-j-end.ensures,
      length-groups (part_types (typ_of c.args.t.now)) (groups_of c.args.groups.now)
          c.requires.groups,
    )

pub merge_each-merge-requires : goal.merge_each-merge-requires
merge_each-merge-requires g t c κs within =
    let ts = part_types (typ_of c.args.t.now) in
    let u = typ_of c.part_type.result.now in (
      omega (arith, c.part_type.ensures.below, c.decreases),
      (
        within,
        (
          all-get IsArrayType ts c.loop-j.j u c.part_type.ensures.item c.requires.lawful,
          (
            AreGroups-get ts (groups_of c.args.groups.now) c.loop-j.j u (sides_of c.get.result.now)
                c.requires.groups c.part_type.ensures.item c.get.ensures.group,
            c.get.ensures.counted,
          ),
        ),
      ),
    )

pub merge_each-loop-j-preserved : goal.merge_each-loop-j-preserved
merge_each-loop-j-preserved g t c =
    rw c.in_ok-push.ensures.ok
    (AreMerged-next (part_types (typ_of c.args.t.now)) (groups_of c.args.groups.now) c.loop-j.nodes
    c.loop-j.j (typ_of c.part_type.result.now) (sides_of c.get.result.now) c.in_ok-node.node
    c.part_type.ensures.item c.get.ensures.group c.loop-j.invariant c.in_ok-node.ensures)

pub merge_each-returns : goal.merge_each-returns
merge_each-returns g t c =
    let ts = part_types (typ_of c.args.t.now) in
    let n : length (groups_of c.args.groups.now) ≡ length ts
    = length-groups ts (groups_of c.args.groups.now) c.requires.groups in
    AreMerged-all ts (groups_of c.args.groups.now) c.loop-j.nodes c.loop-j.j
    (omega (arith, c.loop-j-test.false, c.loop-j.auto.j-end, c.len-j-end.ensures, n))
    (omega (arith, c.loop-j-test.false, c.loop-j.auto.j-end, c.len-j-end.ensures))
    c.loop-j.invariant
