-- The lists of one list joined: their items, and what is made of these.
use Rattle.std.specs.Prelude.{◌≡◌, ℕ, zero, suc, ◌+◌, ◌-◌, ◌<◌, ◌≤◌, [], ◌∷◌, map}
use Rattle.std.specs.Prelude.{length, pos, Option, Some, None}
use Rattle.std.specs.List.{AllByRecursion, flat_map, range_with_len}
use Rattle.std.proofs.Common.{arith, ap, sym, ◌∙◌, subst}
use Rattle.std.proofs.lemmas.List.{take_all, append-nil}
use Rattle.awk_types.specs.DataType.{DataType}
use Rattle.awk_types.specs.Has.{Has}
use Rattle.awk_types.specs.ItemLimit.{item_limit}
use Rattle.awk_types.specs.Parts.{item_of}
use Rattle.awk_types.specs.Simple.{present, simple, simple_value}
use Rattle.awk_types.specs.Value.{value_list}
use Rattle.awk_types.proofs.SimpleLaws.{simple_twice}
use Rattle.awk_lanes.specs.Column.{Column}
use Rattle.awk_lanes.specs.Counted.{before, offsets_by}
use Rattle.awk_lanes.specs.Places.{size_of, place_at}
use Rattle.awk_lanes.specs.declared.kind.Kind.TheVariants.{I64}
use Rattle.awk_layout.specs.Layout.{Layout}
use Rattle.awk_layout.specs.Item.{run}
use Rattle.awk_layout.specs.Typing.{layout_type, array_type, array_items}
use Rattle.awk_layout.specs.Valid.{len, IsValid}
use Rattle.awk_layout.proofs.ArrayItems.{length-array_items}
use Rattle.awk_counts.specs.Counted.{spans}
use Rattle.awk_gather.specs.Arrays.{array_item}
use Rattle.awk_columns.specs.Columns.{joined_items}
use Rattle.awk_columns.specs.Joined.{AreOffsets, JoinsLists}
use Rattle.awk_columns.specs.ListClass.{Class}
use Rattle.awk_columns.specs.Lists.{AreLists, items_at}
use Rattle.awk_columns.specs.Reached.{IsReached}
use Rattle.awk_columns.proofs.JoinLaws.{reached-items}
use Rattle.awk_columns.proofs.OffsetLaws.{are_offsets}
use Rattle.awk_list_functions.specs.Made.{AreGiven}
use Rattle.awk_open.specs.Opens.{OpensLists}
use Rattle.awk_list_ends.proofs.KeptItems.{run-slice}
use Rattle.awk_lists.specs.Listed.{HoldsAll, IsWhole, AreFewItems}
use Rattle.awk_lists.proofs.Ends.{present-list, joined_lists}
use Rattle.awk_lists.proofs.Flattened.{items_stay}

-- ---- all items of lists

pub holds_all : (class : Class) (s t : Column) (y x z : Layout) → OpensLists class s t y x
    → IsReached y (spans s t) z → IsValid z → HoldsAll x z
holds_all class s t y x z op r v = record {
  typ = r.typ ∙ sym (ap (λ u. item_of (present u)) op.typ ∙ present-list class (array_type y));
  valid = v;
  column = reached-items s t y z r ∙ sym (joined_lists class s t y x op);
}

pub lists_whole : (class : Class) (s t : Column) (y x : Layout) (r : Option Layout)
    → OpensLists class s t y x → AreFewItems s t y r → IsWhole x r
lists_whole class s t y x None op h =
    subst (λ n. item_limit < n) (sym (ap length (joined_lists class s t y x op))) h
lists_whole class s t y x (Some z) op h =
    let items = joined_lists class s t y x op in (
      subst (λ n. n ≤ item_limit) (sym (ap length items)) h.0,
      holds_all class s t y x z op h.1 h.2,
    )

-- ---- one row

module _ (s e : Column) (y : Layout) (rows : Column) (lists : Layout) (class : Class)
    (a : AreLists class s e y) (j : JoinsLists s e y rows lists) (one : size_of s ≡ 1)
    (z : Layout) (h : HoldsAll lists z) where
  abbrev offsets : Column
  offsets = record { kind = I64; items = pos 0 ∷ pos (len z) ∷ [] }

  offsets_is : offsets_by (λ i. len z) 1 ≡ offsets
  offsets_is =
      let n : 0 + len z ≡ len z = omega arith in
      ap (λ k. record { kind = I64; items = pos 0 ∷ pos k ∷ [] }) n

  one_offsets : AreOffsets offsets (size_of s) (len z)
  one_offsets =
      let n : before (λ i. len z) 1 ≡ len z = omega arith in
      subst (λ o. AreOffsets o (size_of s) (len z)) offsets_is
      (subst (λ k. AreOffsets (offsets_by (λ i. len z) 1) k (len z)) (sym one)
      (subst (AreOffsets (offsets_by (λ i. len z) 1) 1) n
      (are_offsets (λ i. len z) 1 (omega arith))))

  -- the row is the first list
  row_is : array_items lists ≡ items_at s e y 0
  row_is =
      j.column ∙ ap (λ n. flat_map (items_at s e y) (range_with_len 0 n)) one
      ∙ append-nil (items_at s e y 0)

  abbrev t : DataType
  t = item_of (present (array_type y))

  made_type : array_type z ≡ t
  made_type = h.typ ∙ ap (λ u. item_of (present u)) j.typ

  whole_run : value_list (run (array_item z) 0 (len z)) ≡ array_items z
  whole_run =
      run-slice z 0 (len z) (omega arith)
      ∙ take_all (len z) (array_items z) (omega (arith, length-array_items z))

  first_list : AllByRecursion (Has (array_type z)) (array_items z)
      → value_list (run (array_item z) 0 (len z))
      ≡ map (simple_value t) (joined_items (items_at s e y 0))
  first_list has =
      whole_run ∙ sym (items_stay z t made_type has)
      ∙ ap (map (simple_value t)) (h.column ∙ ap joined_items row_is)

  pub one_given : AllByRecursion (Has (array_type z)) (array_items z)
      → AreGiven None t (λ ws. joined_items ws) s e y offsets z
  one_given has = record {
    valid = h.valid;
    offsets = one_offsets;
    even = tt;
    typ = sym (simple_twice (layout_type z)) ∙ ap simple made_type;
    lists = λ i p. only i (omega (arith, p, one));
  }
    where
      only : (i : ℕ) → i < 1
          → value_list (run (array_item z) (place_at offsets i)
          (place_at offsets (i + 1) - place_at offsets i))
          ≡ map (simple_value t) (joined_items (items_at s e y i))
      only zero p =
          let n : len z - 0 ≡ len z = omega arith in
          ap (λ k. value_list (run (array_item z) 0 k)) n ∙ first_list has
      only (suc i) p = absurd (omega (arith, p))
