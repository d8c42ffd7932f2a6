-- The column of rows over the columns of their parts.
use Rattle.std.proofs.Common.{◌≡◌, ℕ, ◌<◌, List, [], ◌∷◌, length, get_or, Option, Some, None, refl}
use Rattle.std.proofs.Common.{ap, ap₂, sym, subst, ◌∙◌, arith}
use Rattle.std.proofs.lemmas.List.{ext_get_or}
use Rattle.awk_types.specs.DataType.{Name, DataType, rec, tup, row_type, types_from}
use Rattle.awk_types.specs.Simple.{simples, simple_values, values_by}
use Rattle.awk_types.specs.Value.{Value, null, row, value_list, values_from}
use Rattle.awk_layout.specs.Item.{items_across}
use Rattle.awk_layout.specs.Layout.{Layout, Layouts, layouts_from, count, rows}
use Rattle.awk_layout.specs.Typing.{layout_types, array_type, array_items}
use Rattle.awk_layout.specs.Valid.{AllReach}
use Rattle.awk_layout.proofs.ArrayItems.{length-array_items, get_or-array_items}
use Rattle.awk_gather.specs.Arrays.{array_item}
use Rattle.awk_merge_sides.specs.Groups.{groups_of, AreMerged}
use Rattle.awk_merge_rows.specs.RowLevels.{across, AreEachLong, IsRowLevel}
use Rattle.awk_merge_sides.specs.Sides.{Side, merged_items, IsMerged}
use Rattle.awk_open.specs.Opened.{AreLong}
use Rattle.awk_open.proofs.LayoutParts.{reach_long}
use Rattle.awk_merge_sides.specs.declared.groups.Groups.{Groups}

-- ---- the column of rows over the columns of the parts

merged_at : (ts : List DataType) (gs : List (List Side)) (ys : List Layout) (n : ℕ)
    → AreMerged ts gs ys → AreEachLong n gs → AreLong n ys
merged_at [] [] [] n h l = tt
merged_at (t ∷ ts) (g ∷ gs) (y ∷ ys) n h l =
    (sym (length-array_items y) ∙ ap length h.0.items ∙ l.0, merged_at ts gs ys n h.1 l.1)
merged_at [] [] (y ∷ ys) n h l = absurd h
merged_at [] (g ∷ gs) ys n h l = absurd h
merged_at (t ∷ ts) [] ys n h l = absurd h
merged_at (t ∷ ts) (g ∷ gs) [] n h l = absurd h

pub row_reach : (ts : List DataType) (ss : List Side) (n : ℕ) (r : Groups) (ys : List Layout)
    → n ≡ length (merged_items ss) → IsRowLevel ts ss r → AreMerged ts (groups_of r) ys
    → AllReach n (layouts_from ys)
row_reach ts ss n r ys e h m =
    reach_long n ys (merged_at ts (groups_of r) ys n m
    (subst (λ n. AreEachLong n (groups_of r)) (sym e) h.long))

pub merged_count : (ts : List DataType) (gs : List (List Side)) (ys : List Layout)
    → AreMerged ts gs ys → count (layouts_from ys) ≡ length ts
merged_count [] [] [] h = refl
merged_count (t ∷ ts) (g ∷ gs) (y ∷ ys) h = omega (arith, merged_count ts gs ys h.1)
merged_count [] [] (y ∷ ys) h = absurd h
merged_count [] (g ∷ gs) ys h = absurd h
merged_count (t ∷ ts) [] ys h = absurd h
merged_count (t ∷ ts) (g ∷ gs) [] h = absurd h

merged_types : (ts : List DataType) (gs : List (List Side)) (ys : List Layout)
    → AreMerged ts gs ys → simples (layout_types (layouts_from ys)) ≡ ts
merged_types [] [] [] h = refl
merged_types (t ∷ ts) (g ∷ gs) (y ∷ ys) h =
    ap₂ (λ u us. u ∷ us) h.0.typ (merged_types ts gs ys h.1)
merged_types [] [] (y ∷ ys) h = absurd h
merged_types [] (g ∷ gs) ys h = absurd h
merged_types (t ∷ ts) [] ys h = absurd h
merged_types (t ∷ ts) (g ∷ gs) [] h = absurd h

merged_across : (ts : List DataType) (gs : List (List Side)) (ys : List Layout) (i n : ℕ)
    → AreMerged ts gs ys → AreLong n ys → i < n
    → values_by (simple_values (layout_types (layouts_from ys)))
    (value_list (items_across (layouts_from ys) i)) ≡ across gs i
merged_across [] [] [] i n h l p = refl
merged_across (t ∷ ts) (g ∷ gs) (y ∷ ys) i n h l p =
    ap₂ (λ v vs. v ∷ vs)
    (sym (get_or-array_items y i (omega (arith, l.0, p))) ∙ ap (λ vs. get_or vs i null) h.0.items)
    (merged_across ts gs ys i n h.1 l.1 p)
merged_across [] [] (y ∷ ys) i n h l p = absurd h
merged_across [] (g ∷ gs) ys i n h l p = absurd h
merged_across (t ∷ ts) [] ys i n h l p = absurd h
merged_across (t ∷ ts) (g ∷ gs) [] i n h l p = absurd h

row_type-simple : (names : Option (List Name)) (n : ℕ) (xs : Layouts) (ts : List DataType)
    → simples (layout_types xs) ≡ ts → array_type (rows names n xs) ≡ row_type names (types_from ts)
row_type-simple None n xs ts e = ap (λ us. tup (types_from us)) e
row_type-simple (Some ns) n xs ts e = ap (λ us. rec ns (types_from us)) e

row_value-simple : (names : Option (List Name)) (n : ℕ) (xs : Layouts) (i : ℕ) (vs : List Value)
    → values_by (simple_values (layout_types xs)) (value_list (items_across xs i)) ≡ vs
    → array_item (rows names n xs) i ≡ row (values_from vs)
row_value-simple None n xs i vs e = ap (λ ws. row (values_from ws)) e
row_value-simple (Some ns) n xs i vs e = ap (λ ws. row (values_from ws)) e

pub row_merged : (names : Option (List Name)) (ts : List DataType) (ss : List Side) (n : ℕ)
    (r : Groups) (ys : List Layout) → n ≡ length (merged_items ss) → IsRowLevel ts ss r
    → AreMerged ts (groups_of r) ys
    → IsMerged (row_type names (types_from ts)) ss (rows names n (layouts_from ys))
row_merged names ts ss n r ys e h m = record {
  typ = row_type-simple names n (layouts_from ys) ts (merged_types ts (groups_of r) ys m);
  items = ext_get_or null (array_items (rows names n (layouts_from ys))) (merged_items ss)
      (length-array_items (rows names n (layouts_from ys)) ∙ e)
      (λ i l.
      let p : i < n = omega (arith, l, length-array_items (rows names n (layouts_from ys))) in
      get_or-array_items (rows names n (layouts_from ys)) i p
      ∙ row_value-simple names n (layouts_from ys) i (across (groups_of r) i)
      (merged_across ts (groups_of r) ys i n m lens p)
      ∙ sym (h.items i (omega (arith, p, e))));
}
  where
    lens : AreLong n ys
    lens = merged_at ts (groups_of r) ys n m
        (subst (λ n. AreEachLong n (groups_of r)) (sym e) h.long)
