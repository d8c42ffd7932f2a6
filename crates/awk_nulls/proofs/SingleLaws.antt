-- Each item as a list of at most one.
use Rattle.std.specs.Prelude.{◌≡◌, ℕ, ◌+◌, ◌-◌, ◌<◌, ◌≤◌, ◌^◌, refl, List, [], ◌∷◌, map, length}
use Rattle.std.specs.Prelude.{Some, None}
use Rattle.std.proofs.Common.{arith, ap, sym, ◌∙◌}
use Rattle.std.proofs.lemmas.Int.{ints}
use Rattle.std.proofs.lemmas.List.{length-map}
use Rattle.std.proofs.lemmas.Simd.{map-map}
use Rattle.awk_types.specs.DataType.{DataType, unknown, leaf, var, reg, rec, tup, opt, uni}
use Rattle.awk_types.specs.Simple.{present, simple, simple_value, in_list, in_option}
use Rattle.awk_types.specs.Value.{Value, int, truth, null, list, row, alt, no_values, value}
use Rattle.awk_types.specs.Value.{value_list, values_from}
use Rattle.awk_types.specs.ItemLimit.{item_limit}
use Rattle.awk_types.proofs.SimpleLaws.{simple_twice, in_option_stays}
use Rattle.awk_types.proofs.Trees.{values_from-list}
use Rattle.awk_lanes.specs.Column.{Column}
use Rattle.awk_lanes.specs.Places.{size_of, place_at, IsOffsets}
use Rattle.awk_layout.specs.Layout.{Layout, offset_lists}
use Rattle.awk_layout.specs.Item.{item}
use Rattle.awk_layout.specs.Typing.{layout_type, array_type}
use Rattle.awk_layout.specs.Valid.{len}
use Rattle.awk_layout.proofs.Runs.{run-same}
use Rattle.awk_gather.specs.Arrays.{array_item}
use Rattle.awk_columns.specs.Columns.{is_present, present_values}
use Rattle.awk_columns.specs.Joined.{JoinsLists, total}
use Rattle.awk_columns.specs.ListClass.{Class}
use Rattle.awk_list_functions.specs.Made.{AreGiven}
use Rattle.awk_columns.specs.Lists.{AreLists, items_at, all_items_at}
use Rattle.awk_list_functions.specs.Spoils.{too_many}
use Rattle.awk_list_functions.specs.declared.causes.Spoil.TheVariants.{Size}
use Rattle.awk_columns.proofs.ArrayLaws.{run_map, run_in_list}
use Rattle.awk_columns.proofs.ListNodes.{joined_even}
use Rattle.awk_nulls.specs.Singletons.{single_list, singletons_function}
use Rattle.awk_nulls.specs.Lanes.{ArePresent, AreSingles}
use Rattle.awk_option_nodes.proofs.OptionNodes.{HasItems, item_stays}
use Rattle.awk_list_ends.specs.Kept.{KeepsItems}
use Rattle.awk_list_ends.proofs.KeptItems.{at-count, counts_up, counts_within, kept_run}
use Rattle.awk_nulls.proofs.PresentLaws.{keeps_present}
use Rattle.awk_list_functions.proofs.SpoilLimits.{over_limit, within_limit}
use Rattle.awk_columns.proofs.OffsetLaws.{count_same}

single-present : (v : Value) → list (values_from (present_values (v ∷ []))) ≡ single_list v
single-present null = refl
single-present (int z) = refl
single-present (truth b) = refl
single-present (list vs) = refl
single-present (row vs) = refl
single-present (alt k v) = refl

-- ---- simplifying changes nothing in them

present_stays : (t : DataType) (v : Value) → simple_value t v ≡ v
    → in_option (simple_value (present t)) v ≡ v
present_stays unknown v e = in_option_stays (simple_value unknown) v e
present_stays (leaf p) v e = in_option_stays (simple_value (leaf p)) v e
present_stays (var t) v e = in_option_stays (simple_value (var t)) v e
present_stays (reg n t) v e = in_option_stays (simple_value (reg n t)) v e
present_stays (rec ns ts) v e = in_option_stays (simple_value (rec ns ts)) v e
present_stays (tup ts) v e = in_option_stays (simple_value (tup ts)) v e
present_stays (opt t) v e = e
present_stays (uni ts) v e = in_option_stays (simple_value (uni ts)) v e

single_in : (f : Value → Value) (v : Value) → in_option f v ≡ v
    → in_list f (single_list v) ≡ single_list v
single_in f null e = refl
single_in f (int z) e = ap (λ w. list (value w no_values)) e
single_in f (truth b) e = ap (λ w. list (value w no_values)) e
single_in f (list vs) e = ap (λ w. list (value w no_values)) e
single_in f (row vs) e = ap (λ w. list (value w no_values)) e
single_in f (alt k v) e = ap (λ w. list (value w no_values)) e

single_stays : (t : DataType) (v : Value) → simple_value t v ≡ v
    → simple_value (var (present t)) (single_list v) ≡ single_list v
single_stays t v e = single_in (simple_value (present t)) v (present_stays t v e)

-- ---- of a column of lists

module _ (x : Layout) (c : Column) (z : Layout) (fits : len x < 2 ^ 63) (h : ArePresent x c z) where
  kept : KeepsItems is_present x c z
  kept = keeps_present x c z h

  pub single_offsets : IsOffsets c (len z)
  single_offsets = record {
    kind = h.kind;
    some = omega (arith, h.size);
    ordered = λ i p.
        let q : i + 1 ≤ len x = omega (arith, p, h.size) in
        let a = at-count is_present x c z kept i (omega (arith, q)) in
        let b = at-count is_present x c z kept (i + 1) q in
        let up = counts_up is_present x c z kept i 1 q in
        let within = counts_within is_present x c z kept (i + 1) q in
        rw (a, b) (λ d.
        (omega (arith, ints), omega (arith, ints, up), omega (arith, ints, within)));
  }

  pub single_fit : size_of c ≤ 2 ^ 63
  single_fit = omega (arith, h.size, fits)

  single_item : (i : ℕ) → i < len x
      → array_item (offset_lists c z) i ≡ single_list (array_item x i)
  single_item i p =
      run_in_list (simple_value (layout_type z)) (item z) (place_at c i)
      (place_at c (i + 1) - place_at c i)
      ∙ ap list (sym (values_from-list _) ∙ ap values_from
      (kept_run is_present x c z kept i 1 (omega (arith, p))))
      ∙ single-present (array_item x i)

  pub singles_are : AreSingles x (offset_lists c z)
  singles_are = record {
    valid = (single_fit, single_offsets, h.valid);
    size = omega (arith, h.size);
    typ = ap var h.typ;
    items = single_item;
  }

module _ (class : Class) (s t : Column) (y : Layout) (o : Column) (x w : Layout)
    (a : AreLists class s t y) (j : JoinsLists s t y o x) (has : HasItems x)
    (h : AreSingles x w) where
  abbrev typ : DataType
  typ = var (present (array_type y))

  made_typ : array_type w ≡ typ
  made_typ = h.typ ∙ ap (λ u. var (present u)) j.typ

  stay : (i : ℕ) → i < len x
      → simple_value typ (single_list (array_item x i)) ≡ single_list (array_item x i)
  stay i p =
      ap (λ u. simple_value (var (present u)) (single_list (array_item x i))) (sym j.typ)
      ∙ single_stays (array_type x) (array_item x i) (item_stays x has i p)

  pub singles_given : AreGiven class typ (λ vs. map single_list vs) s t y o w
  singles_given = record {
    valid = h.valid;
    offsets = rw h.size j.offsets;
    even = joined_even class s t y o x a.same_class j;
    typ = sym (simple_twice (layout_type w)) ∙ ap simple made_typ;
    lists = λ i p.
        let first = place_at o i in
        let n = place_at o (i + 1) - place_at o i in
        let within = j.offsets.within i p in
        ap value_list (run-same (array_item w)
        (λ k. simple_value typ (single_list (array_item x k))) first n
        (λ k _ q. h.items k (omega (arith, q, within))
        ∙ sym (stay k (omega (arith, q, within)))))
        ∙ sym (run_map (λ v. simple_value typ (single_list v)) (array_item x) first n)
        ∙ ap (λ r. map (λ v. simple_value typ (single_list v)) (value_list r)) (sym (j.lists i p))
        ∙ sym (map-map (simple_value typ) single_list (items_at s t y i));
  }

length-singles : (vs : List Value) → length (map single_list vs) ≡ length vs
length-singles vs = length-map vs single_list

pub singles_spoilt : (s t : Column) (y : Layout) → item_limit < total s t y
    → singletons_function.spoil (array_type y) (all_items_at s t y) ≡ Some Size
singles_spoilt s t y h =
    ap too_many (count_same (map single_list) s t y length-singles) ∙ over_limit (total s t y) h

pub singles_fine : (s t : Column) (y : Layout) → total s t y ≤ item_limit
    → singletons_function.spoil (array_type y) (all_items_at s t y) ≡ None
singles_fine s t y h =
    ap too_many (count_same (map single_list) s t y length-singles) ∙ within_limit (total s t y) h
