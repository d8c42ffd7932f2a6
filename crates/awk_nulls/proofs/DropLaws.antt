-- Lists of the items that are not null.
use Rattle.std.specs.Prelude.{◌≡◌, ℕ, ◌+◌, ◌-◌, ◌<◌, ◌≤◌, map, sum, length, Some, None}
use Rattle.std.specs.List.{range_with_len, flat_map}
use Rattle.std.proofs.Common.{arith, ap, sym, ◌∙◌, subst}
use Rattle.awk_types.specs.DataType.{DataType}
use Rattle.awk_types.specs.Simple.{present, simple, simple_value}
use Rattle.awk_types.specs.Value.{value_list}
use Rattle.awk_types.specs.ItemLimit.{item_limit}
use Rattle.awk_types.proofs.SimpleLaws.{simple_twice}
use Rattle.awk_lanes.specs.Column.{Column}
use Rattle.awk_lanes.specs.Places.{size_of, place_at}
use Rattle.awk_layout.specs.Layout.{Layout}
use Rattle.awk_layout.specs.Item.{run}
use Rattle.awk_layout.specs.Typing.{layout_type, array_type}
use Rattle.awk_layout.specs.Valid.{len}
use Rattle.awk_gather.specs.Arrays.{array_item}
use Rattle.awk_columns.specs.Columns.{is_present, present_values}
use Rattle.awk_list_ends.specs.Kept.{KeepsItems}
use Rattle.awk_list_ends.proofs.EndLaws as ends
use Rattle.awk_list_functions.specs.DropNone.{drop_none_function}
use Rattle.awk_columns.specs.Joined.{AreOffsets, JoinsLists, total}
use Rattle.awk_columns.specs.ListClass.{Class}
use Rattle.awk_list_functions.specs.Made.{AreGiven}
use Rattle.awk_columns.specs.Lists.{AreLists, items_at, all_items_at}
use Rattle.awk_list_functions.specs.Spoils.{too_many}
use Rattle.awk_list_functions.specs.declared.causes.Spoil.TheVariants.{Size}
use Rattle.awk_nulls.specs.Lanes.{ArePresent}
use Rattle.awk_list_ends.specs.Ends.{AreListEnds, numbers_at_ends}
use Rattle.awk_option_nodes.proofs.OptionNodes.{HasItems, run_stays}
use Rattle.awk_nulls.proofs.PresentLaws.{keeps_present}
use Rattle.awk_list_functions.proofs.SpoilLimits.{over_limit, within_limit}
use Rattle.awk_columns.proofs.OffsetLaws.{count_lists}

module _ (class : Class) (s t : Column) (y : Layout) (a : AreLists class s t y)
    (c : Column) (z : Layout) (h : ArePresent y c z) where
  kept : KeepsItems is_present y c z
  kept = keeps_present y c z h

  pub starts_are : AreListEnds c s t s
  starts_are = ends.starts_are is_present class s t y a c z kept

  pub stops_are : AreListEnds c s t t
  stops_are = ends.stops_are is_present class s t y a c z kept

  abbrev starts : Column
  starts = numbers_at_ends c s t s

  abbrev stops : Column
  stops = numbers_at_ends c s t t

  size-starts : size_of starts ≡ size_of s
  size-starts = ends.size-starts is_present class s t y a c z kept

  pub present_lists : AreLists None starts stops z
  present_lists = ends.kept_lists is_present class s t y a c z kept

  list_is : (i : ℕ) → i < size_of s
      → items_at starts stops z i ≡ present_values (items_at s t y i)
  list_is i p = ends.list_is is_present class s t y a c z kept i p

  count_is : sum (map (λ l. length (present_values l)) (all_items_at s t y)) ≡ total starts stops z
  count_is =
      count_lists (λ vs. present_values vs) s t y (items_at starts stops z)
      (λ i p. ap length (sym (list_is i p)))
      ∙ ap (λ n. length (flat_map (items_at starts stops z) (range_with_len 0 n))) (sym size-starts)

  pub present_spoilt : item_limit < total starts stops z
      → drop_none_function.spoil (array_type y) (all_items_at s t y) ≡ Some Size
  present_spoilt q = ap too_many count_is ∙ over_limit (total starts stops z) q

  pub present_fine : total starts stops z ≤ item_limit
      → drop_none_function.spoil (array_type y) (all_items_at s t y) ≡ None
  present_fine q = ap too_many count_is ∙ within_limit (total starts stops z) q

  module _ (o : Column) (w : Layout) (j : JoinsLists starts stops z o w) (has : HasItems w) where
    abbrev typ : DataType
    typ = present (array_type y)

    made_typ : array_type w ≡ typ
    made_typ = j.typ ∙ h.typ

    list_made : (i : ℕ) → i < size_of s
        → value_list (run (array_item w) (place_at o i) (place_at o (i + 1) - place_at o i))
        ≡ present_values (items_at s t y i)
    list_made i p = ap value_list (sym (j.lists i (omega (arith, p, size-starts)))) ∙ list_is i p

    pub present_given : AreGiven None typ (λ vs. present_values vs) s t y o w
    present_given = record {
      valid = j.valid;
      offsets = subst (λ n. AreOffsets o n (len w)) size-starts j.offsets;
      even = tt;
      typ = sym (simple_twice (layout_type w)) ∙ ap simple made_typ;
      lists = λ i p.
          let within = j.offsets.within i (omega (arith, p, size-starts)) in
          list_made i p
          ∙ sym (ap (λ u. map (simple_value u) (present_values (items_at s t y i))) (sym made_typ)
          ∙ ap (map (simple_value (array_type w))) (sym (list_made i p))
          ∙ run_stays w has (place_at o i) (place_at o (i + 1) - place_at o i) within
          ∙ list_made i p);
    }
