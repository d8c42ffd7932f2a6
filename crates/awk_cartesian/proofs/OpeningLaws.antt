-- Operands as lists of rows.
use Rattle.std.specs.Prelude.{◌≡◌, ◌==◌, refl, ℕ, zero, suc, ◌+◌, ◌<◌, ◌≤◌, true, false}
use Rattle.std.specs.Prelude.{if◌then◌else◌, List, [], ◌∷◌, length, map, get_or, Option, Some, None}
use Rattle.std.specs.Prelude.{is_some}
use Rattle.std.specs.List.{AllByRecursion}
use Rattle.std.proofs.Common.{arith, ap, ap₂, sym, ◌∙◌, subst}
use Rattle.std.proofs.lemmas.List.FromFn.{get_or-map-range_with_len, length-map-range_with_len}
use Rattle.awk_base.proofs.Ranges.{map-same}
use Rattle.awk_types.specs.DataType.{DataType, Name, unknown, leaf, var, reg, rec, tup, opt, uni}
use Rattle.awk_types.specs.DataType.{types_from, row_type}
use Rattle.awk_types.specs.Has.{Has}
use Rattle.awk_types.specs.Parts.{list_item, IsListType}
use Rattle.awk_types.specs.Predicates.{is_unknown}
use Rattle.awk_types.specs.Simple.{is_option}
use Rattle.awk_types.specs.Value.{Value, null, list, value_list, values_from}
use Rattle.awk_types.proofs.Trees.{value_list-from}
use Rattle.awk_lanes.specs.Column.{Column}
use Rattle.awk_lanes.specs.Places.{size_of, place_at, option_place_at}
use Rattle.awk_unify.proofs.Tests.{unknown_is}
use Rattle.awk_layout.specs.Item.{run, at_option}
use Rattle.awk_layout.specs.Laws.{len-fits}
use Rattle.awk_layout.specs.Layout.{Layout}
use Rattle.awk_layout.specs.Typing.{array_type, array_items}
use Rattle.awk_layout.specs.Valid.{len, IsValid}
use Rattle.awk_layout.proofs.ArrayItems.{length-array_items}
use Rattle.awk_layout.proofs.Runs.{value_list-run}
use Rattle.awk_gather.specs.Arrays.{array_item}
use Rattle.awk_columns.specs.Columns.{is_present, list_items}
use Rattle.awk_columns.specs.ListClass.{Class, list_type}
use Rattle.awk_columns.specs.Lists.{span_length, Listed}
use Rattle.awk_open.specs.Opens.{OpensLists, OpensOption, OpensNothing, Opens}
use Rattle.awk_open.specs.declared.opening.Opened.{Opened}
use Rattle.awk_open.specs.declared.opening.Opened.TheVariants as opened
use Rattle.awk_columns.proofs.ArrayLaws.{array_items-at}
use Rattle.awk_columns.proofs.ListTypes.{list_no_option}
use Rattle.awk_places.proofs.ProductLaws.{are_counts, count-at}
use Rattle.awk_combi.proofs.SpanLaws.{within}
use Rattle.awk_merge_operands.specs.Operands.{list_place, values_by, IsListIndex}
use Rattle.awk_merge_operands.proofs.ListPlaceLaws.{place_within, indexes_all}
use Rattle.awk_cartesian.specs.Cartesian.{rows_item}
use Rattle.awk_cartesian.specs.Sources.{IsOpened, IsOfLists, IsOfNone}
use Rattle.awk_products.specs.Sources.{IsSource, source_list, repeated, zeros}
use Rattle.awk_cartesian.specs.Spans.{first_of, length_of, first_lane, length_lane}
use Rattle.awk_cartesian.specs.declared.sources.Source.{Source}

-- ---- rows by an index

module _ (index : Option Column) (n : ℕ) (x : Layout) (g : IsListIndex index n (len x)) where
  abbrev vs : List Value
  vs = values_by index n (array_item x)

  pub length-rows : length vs ≡ n
  length-rows = length-map-range_with_len (λ j. at_option (list_place index j) (array_item x)) 0 n

  row-at : (i : ℕ) → i < n → get_or vs i null ≡ at_option (list_place index i) (array_item x)
  row-at i p =
      get_or-map-range_with_len (λ j. at_option (list_place index j) (array_item x)) 0 n i i null p
      (omega arith)

  -- what holds of null and of each list holds of each row
  by_row : (P : Option ℕ → Value → Type 0) → P None null
      → ((p : ℕ) → p < len x → P (Some p) (array_item x p))
      → (i : ℕ) → i < n → P (list_place index i) (get_or vs i null)
  by_row P a b i p =
      subst (P (list_place index i)) (sym (row-at i p))
      (go (list_place index i) (λ q e. place_within index n (len x) i q g p e))
    where
      go : (o : Option ℕ) → ((q : ℕ) → o ≡ Some q → q < len x)
          → P o (at_option o (array_item x))
      go None l = a
      go (Some q) l = b q (l q refl)

  pub all_index : (index : Option Column) → IsListIndex index n (len x)
      → (m : ℕ) → m ≡ n → IsListIndex index m (len x)
  all_index index h m e = subst (λ m. IsListIndex index m (len x)) (sym e) h

-- ---- lists of a content

module _ (index : Option Column) (n : ℕ) (class : Class) (s t : Column) (y x : Layout)
    (o : OpensLists class s t y x) (g : IsListIndex index n (len x)) where
  abbrev first : ℕ → ℕ
  first i = first_of s t (list_place index i)

  abbrev long : ℕ → ℕ
  long i = length_of s t (list_place index i)

  first-some : (p : ℕ) → 0 < span_length s t p → first_of s t (Some p) ≡ place_at s p
  first-some p q =
      let e : (span_length s t p == 0) ≡ false = grind (arith, q) in
      ap (λ b. if b then 0 else place_at s p) e

  within_place : (p : ℕ) → p < size_of s → (m : ℕ) → span_length s t p ≡ m
      → first_of s t (Some p) + m ≤ len y
  within_place p l zero e =
      let z : (span_length s t p == 0) ≡ true = grind (arith, e) in
      let f : first_of s t (Some p) ≡ 0 = ap (λ b. if b then 0 else place_at s p) z in
      omega (arith, f)
  within_place p l (suc m) e =
      let q : 0 < span_length s t p = omega (arith, e) in
      omega (arith, first-some p q, within s t (len y) p o.lists.spans l q, e)

  within_row : (w : Option ℕ) → ((p : ℕ) → w ≡ Some p → p < size_of s)
      → first_of s t w + length_of s t w ≤ len y
  within_row None l = omega arith
  within_row (Some p) l = within_place p (l p refl) (span_length s t p) refl

  row_within : (i : ℕ) → i < n → first i + long i ≤ len y
  row_within i p =
      within_row (list_place index i)
      (λ q e. omega (arith, place_within index n (len x) i q g p e, o.size))

  pub lists_source : IsSource n (first_lane index s t n) (length_lane index s t n) y
  lists_source = record {
    spans = record {
      firsts = are_counts n first;
      lengths = are_counts n long;
      fits = λ i p.
          omega (
            arith,
            count-at n first i p,
            count-at n long i p,
            row_within i p,
            len-fits y o.lists.valid,
          );
    };
    within = λ i p. omega (arith, count-at n first i p, count-at n long i p, row_within i p);
  }

  list_there : (p : ℕ) → p < len x → (m : ℕ) → span_length s t p ≡ m
      → value_list (run (array_item y) (first_of s t (Some p)) m) ≡ list_items (array_item x p)
  list_there p l zero e =
      sym (ap list_items (o.items p l)
      ∙ ap (λ k. value_list (run (array_item y) (place_at s p) k)) e)
  list_there p l (suc m) e =
      let q : 0 < span_length s t p = omega (arith, e) in
      ap (λ f. value_list (run (array_item y) f (suc m))) (first-some p q)
      ∙ sym (ap list_items (o.items p l)
      ∙ ap (λ k. value_list (run (array_item y) (place_at s p) k)) e)

  pub lists_rows : (i : ℕ) → i < n
      → source_list (first_lane index s t n) (length_lane index s t n) y i
      ≡ list_items (get_or (values_by index n (array_item x)) i null)
  lists_rows i p =
      ap₂ (λ f m. value_list (run (array_item y) f m)) (count-at n first i p) (count-at n long i p)
      ∙ by_row index n x g
      (λ w v. value_list (run (array_item y) (first_of s t w) (length_of s t w)) ≡ list_items v)
      refl (λ q l. list_there q l (span_length s t q) refl) i p

  pub lists_present : (i : ℕ) → i < n
      → is_some (list_place index i) ≡ is_present (get_or (values_by index n (array_item x)) i null)
  lists_present i p =
      by_row index n x g (λ w v. is_some w ≡ is_present v) refl
      (λ q l. sym (ap is_present (o.items q l))) i p

  class_item : (class : Class) (u : DataType) → list_item (list_type class u) ≡ Some u
  class_item None u = refl
  class_item (Some m) u = refl

  pub lists_item : list_item (array_type x) ≡ Some (array_type y)
  lists_item = ap list_item o.typ ∙ class_item class (array_type y)

  pub lists_opened : (r : Source)
      → IsOfLists index n (record { class = class; starts = s; stops = t; content = y }) r
      → IsOpened (values_by index n (array_item x)) (list_item (array_type x)) (is_some index) r
  lists_opened r a =
      let m : length (values_by index n (array_item x)) ≡ n = length-rows index n x g in
      rw (a.index, a.first, a.long, a.content) (record {
        source = subst (λ k. IsSource k (first_lane index s t n) (length_lane index s t n) y)
            (sym m) lists_source;
        lists = λ i p. lists_rows i (omega (arith, p, m));
        typ = lists_item;
        index = indexes_all index (length (values_by index n (array_item x))) (len x)
            (subst (λ k. IsListIndex index k (len x)) (sym m) g);
        present = λ i p. lists_present i (omega (arith, p, m));
        optional = refl;
      })

-- ---- lists of unknown, of which there are none

module _ (index : Option Column) (n : ℕ) (x : Layout) (o : OpensNothing x)
    (g : IsListIndex index n (len x)) where
  none_rows : (i : ℕ) → i < n
      → source_list (zeros n) (zeros n) x i
      ≡ list_items (get_or (values_by index n (array_item x)) i null)
  none_rows i p =
      ap₂ (λ f m. value_list (run (array_item x) f m)) (count-at n (λ i. 0) i p)
      (count-at n (λ i. 0) i p)
      ∙ by_row index n x g (λ w v. [] ≡ list_items v) refl
      (λ q l. absurd (omega (arith, l, o.none))) i p

  none_present : (i : ℕ) → i < n
      → is_some (list_place index i) ≡ is_present (get_or (values_by index n (array_item x)) i null)
  none_present i p =
      by_row index n x g (λ w v. is_some w ≡ is_present v) refl
      (λ q l. absurd (omega (arith, l, o.none))) i p

  none_source : IsSource n (zeros n) (zeros n) x
  none_source = record {
    spans = record {
      firsts = are_counts n (λ i. 0);
      lengths = are_counts n (λ i. 0);
      fits = λ i p. omega (arith, count-at n (λ i. 0) i p);
    };
    within = λ i p. omega (arith, count-at n (λ i. 0) i p);
  }

  pub none_opened : (r : Source) → IsOfNone index n x r
      → IsOpened (values_by index n (array_item x)) (list_item (array_type x)) (is_some index) r
  none_opened r a =
      let m : length (values_by index n (array_item x)) ≡ n = length-rows index n x g in
      rw (a.index, a.first, a.long, a.content) (record {
        source = subst (λ k. IsSource k (zeros n) (zeros n) x) (sym m) none_source;
        lists = λ i p. none_rows i (omega (arith, p, m));
        typ = ap list_item o.typ ∙ ap Some (sym o.typ);
        index = indexes_all index (length (values_by index n (array_item x))) (len x)
            (subst (λ k. IsListIndex index k (len x)) (sym m) g);
        present = λ i p. none_present i (omega (arith, p, m));
        optional = refl;
      })

-- ---- the rows of an array

pub plain_item : (t : DataType) → is_option t ≡ false → list_item t ≡ rows_item t
plain_item (opt t) e = absurd (cc)
plain_item unknown e = refl
plain_item (leaf p) e = refl
plain_item (var t) e = refl
plain_item (reg n t) e = refl
plain_item (rec ns ts) e = refl
plain_item (tup ts) e = refl
plain_item (uni ts) e = refl

pub plain_values : (x : Layout) → values_by None (len x) (array_item x) ≡ array_items x
plain_values x = sym (array_items-at x)

pub plain_opened : (x : Layout) (r : Source) → is_option (array_type x) ≡ false
    → IsOpened (values_by None (len x) (array_item x)) (list_item (array_type x)) false r
    → IsOpened (array_items x) (rows_item (array_type x)) (is_option (array_type x)) r
plain_opened x r e h =
    subst (λ b. IsOpened (array_items x) (rows_item (array_type x)) b r) (sym e)
    (subst (λ i. IsOpened (array_items x) i false r) (plain_item (array_type x) e)
    (subst (λ vs. IsOpened vs (list_item (array_type x)) false r) (plain_values x) h))

module _ (j : Column) (y x : Layout) (o : OpensOption j y x) where
  pub option_item : list_item (array_type y) ≡ rows_item (array_type x)
  option_item = sym (ap rows_item o.typ)

  option_values : values_by (Some j) (len x) (array_item y) ≡ array_items x
  option_values =
      map-same (λ i. at_option (option_place_at j i) (array_item y)) (array_item x) 0 (len x)
      (λ i p q. sym (o.items i (omega (arith, q))))
      ∙ sym (array_items-at x)

  pub option_index : IsListIndex (Some j) (len x) (len y)
  option_index = (o.size, o.index)

  pub option_opened : (r : Source)
      → IsOpened (values_by (Some j) (len x) (array_item y)) (list_item (array_type y)) true r
      → IsOpened (array_items x) (rows_item (array_type x)) (is_option (array_type x)) r
  option_opened r h =
      subst (λ b. IsOpened (array_items x) (rows_item (array_type x)) b r)
      (sym (ap is_option o.typ))
      (subst (λ i. IsOpened (array_items x) i true r) option_item
      (subst (λ vs. IsOpened vs (list_item (array_type y)) true r) option_values h))

-- ---- an array as one row

pub whole_opened : (x : Layout) (r : Source) → IsValid x → r.index ≡ None → r.first ≡ repeated 1 0
    → r.length ≡ repeated 1 (len x) → r.content ≡ x
    → IsOpened (list (values_from (array_items x)) ∷ []) (Some (array_type x)) false r
whole_opened x r v a b c d = rw (a, b, c, d) (record {
  source = record {
    spans = record {
      firsts = are_counts 1 (λ i. 0);
      lengths = are_counts 1 (λ i. len x);
      fits = λ i p.
          omega (arith, count-at 1 (λ i. 0) i p, count-at 1 (λ i. len x) i p, len-fits x v);
    };
    within = λ i p. omega (arith, count-at 1 (λ i. 0) i p, count-at 1 (λ i. len x) i p);
  };
  lists = λ i p.
      let z : i ≡ 0 = omega (arith, p) in
      ap₂ (λ f m. value_list (run (array_item x) f m)) (count-at 1 (λ i. 0) i p)
      (count-at 1 (λ i. len x) i p)
      ∙ value_list-run (array_item x) 0 (len x) ∙ sym (array_items-at x)
      ∙ sym (value_list-from (array_items x))
      ∙ ap (λ i. list_items (get_or (list (values_from (array_items x)) ∷ []) i null)) (sym z);
  typ = refl;
  index = tt;
  present = λ i p.
      let z : i ≡ 0 = omega (arith, p) in
      ap (λ i. is_present (get_or (list (values_from (array_items x)) ∷ []) i null)) (sym z);
  optional = refl;
})

-- ---- what can be opened

no_row : (names : Option (List Name)) (ts : List DataType)
    → IsListType (row_type names (types_from ts)) → ⊥
no_row None ts h = h
no_row (Some names) ts h = h

pub only_lists : (x : Layout) (o : Opened) → Opens x o → IsListType (array_type x)
    → ((l : Listed) → o ≡ opened.Items l → ⊥) → ⊥
only_lists x opened.Empty k h n = subst IsListType k.typ h
only_lists x (opened.Leaf c) k h n = subst IsListType k.typ h
only_lists x (opened.Items l) k h n = n l refl
only_lists x (opened.Row names ys) k h n =
    no_row names (map array_type ys) (subst IsListType k.typ h)
only_lists x (opened.Option j y) k h n = subst IsListType k.typ h
only_lists x (opened.Union t j ys) k h n = subst IsListType k.typ h

row_no_option : (names : Option (List Name)) (ts : List DataType)
    → is_option (row_type names (types_from ts)) ≡ false
row_no_option None ts = refl
row_no_option (Some names) ts = refl

both_ways : (t u : DataType) → t ≡ u → is_option u ≡ false → is_option t ≡ true → ⊥
both_ways t u e f g = go (sym g ∙ ap is_option e ∙ f)
  where
    go : true ≡ false → ⊥
    go h = cc

pub only_option : (x : Layout) (o : Opened) → Opens x o → is_option (array_type x) ≡ true
    → ((j : Column) (y : Layout) → o ≡ opened.Option j y → ⊥) → ⊥
only_option x opened.Empty k h n = both_ways (array_type x) _ k.typ refl h
only_option x (opened.Leaf c) k h n = both_ways (array_type x) _ k.typ refl h
only_option x (opened.Items l) k h n =
    both_ways (array_type x) _ k.typ (list_no_option l.class (array_type l.content)) h
only_option x (opened.Row names ys) k h n =
    both_ways (array_type x) _ k.typ (row_no_option names (map array_type ys)) h
only_option x (opened.Option j y) k h n = n j y refl
only_option x (opened.Union t j ys) k h n = both_ways (array_type x) _ k.typ refl h

pub some_lists : (t : DataType) → is_some (list_item t) ≡ true → is_unknown t ≡ false → IsListType t
some_lists (var t) h e = tt
some_lists (reg n t) h e = tt
some_lists unknown h e = absurd (cc)
some_lists (leaf p) h e = absurd (cc)
some_lists (rec ns ts) h e = absurd (cc)
some_lists (tup ts) h e = absurd (cc)
some_lists (opt t) h e = absurd (cc)
some_lists (uni ts) h e = absurd (cc)

-- of unknown there are no items
pub nothing : (x : Layout) → is_unknown (array_type x) ≡ true
    → AllByRecursion (Has (array_type x)) (array_items x) → OpensNothing x
nothing x e h = record {
  typ = unknown_is (array_type x) e;
  none = sym (length-array_items x) ∙ go (array_items x)
      (subst (λ t. AllByRecursion (Has t) (array_items x)) (unknown_is (array_type x) e) h);
}
  where
    go : (ws : List Value) → AllByRecursion (Has unknown) ws → length ws ≡ 0
    go [] h = refl
    go (w ∷ ws) h = absurd h.0
