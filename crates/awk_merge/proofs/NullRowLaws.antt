-- Rows joined, where those with a null are null, and what the calls answer of them.
use Rattle.std.proofs.Common.{◌≡◌, ◌∙◌, ◌+◌, ◌*◌, ◌<◌, [], ℕ, zero, suc, Bool, true, false, List}
use Rattle.std.proofs.Common.{Option, Some, None, Ok, ap, ap₂, sym, subst, refl, map, length}
use Rattle.std.proofs.Common.{get_or, arith}
use Rattle.std.specs.Prelude.{if◌then◌else◌}
use Rattle.std.specs.List.{list_all, range_with_len}
use Rattle.std.proofs.lemmas.List.Folds.{flat_map-map}
use Rattle.std.proofs.lemmas.List.FromFn.{get_or-map-range_with_len, length-map-range_with_len}
use Rattle.awk_base.proofs.Ranges.{map-in, flat-in}
use Rattle.awk_types.proofs.RefusalLaws.{Told-same, refused_or-None, refused_or-Ok}
use Rattle.awk_types.specs.DataType.{DataType, unknown, leaf, var, reg, rec, tup, opt, uni}
use Rattle.awk_types.specs.Datum as shown
use Rattle.awk_types.specs.Gives.{Told}
use Rattle.awk_types.specs.ItemLimit.{too_many}
use Rattle.awk_types.specs.Simple.{present, is_option, simple_value, in_option}
use Rattle.awk_types.specs.Value.{Value, null, list, values_from}
use Rattle.awk_types.specs.declared.fault.Fault.{Fault}
use Rattle.awk_types.proofs.NullLaws.{simple_value-null, in_option-same}
use Rattle.awk_lanes.specs.Column.{Column}
use Rattle.awk_lanes.specs.Places.{size_of, option_place_at}
use Rattle.awk_layout.specs.Item.{item, at_option}
use Rattle.awk_layout.specs.Layout.{Layout, optional}
use Rattle.awk_layout.specs.Typing.{layout_type, array_type, array_items, array_datum}
use Rattle.awk_layout.specs.Valid.{len}
use Rattle.awk_layout.proofs.ArrayItems.{length-array_items, get_or-array_items}
use Rattle.awk_gather.specs.Arrays.{array_item}
use Rattle.awk_columns.specs.Columns.{is_present, list_items, joined_items}
use Rattle.awk_columns.specs.ListClass.{Class, list_type}
use Rattle.awk_open.specs.Opens.{OpensLists, OpensOption}
use Rattle.awk_columns.proofs.ArrayLaws.{array_items-at}
use Rattle.awk_merge_operands.specs.Concatenate.{joined_row}
use Rattle.awk_merge_operands.specs.Operands.{stacked_row, stacked_rows, filled_row, filled_rows}
use Rattle.awk_merge_operands.specs.Operands.{rows_datum, list_place, values_by, type_by}
use Rattle.awk_merge_operands.specs.Operands.{list_between, rows_lane, IsListIndex, IsRowsType}
use Rattle.awk_merge.proofs.JoinedRowLaws.{row-whole}
use Rattle.awk_merge_operands.proofs.ListPlaceLaws.{ends_place, size-rows, option-rows}
use Rattle.awk_merge_operands.proofs.ListPlaceLaws.{place_within}

-- ---- filled rows and rows with nulls

-- they have the same items
fill_items : (b : Bool) (ws : List Value)
    → list_items (list (values_from (if b then joined_items ws else [])))
    ≡ list_items (if b then list (values_from (joined_items ws)) else null)
fill_items true ws = refl
fill_items false ws = refl

pub same-items : (n k : ℕ) (vs : List Value)
    → joined_items (filled_rows n k vs) ≡ joined_items (stacked_rows n k vs)
same-items n k vs =
    flat_map-map list_items (λ i. filled_row (stacked_row n k vs i)) (range_with_len 0 n)
    ∙ flat-in (λ i. list_items (filled_row (stacked_row n k vs i)))
    (λ i. list_items (joined_row (stacked_row n k vs i))) 0 n
    (λ i p. fill_items (list_all is_present (stacked_row n k vs i)) (stacked_row n k vs i))
    ∙ sym (flat_map-map list_items (λ i. joined_row (stacked_row n k vs i)) (range_with_len 0 n))

pub same-count : (n k : ℕ) (vs : List Value)
    → too_many (length (joined_items (stacked_rows n k vs)))
    ≡ too_many (length (joined_items (filled_rows n k vs)))
same-count n k vs = ap (λ ws. too_many (length ws)) (sym (same-items n k vs))

whole_row : (b : Bool) (ws : List Value) → b ≡ true
    → list (values_from (if b then joined_items ws else []))
    ≡ (if b then list (values_from (joined_items ws)) else null)
whole_row true ws e = refl
whole_row false ws e = absurd (cc)

all_true : (a n : ℕ) → list_all (λ (j : ℕ). true) (range_with_len a n) ≡ true
all_true a zero = refl
all_true a (suc n) = all_true (a + 1) n

-- without an index no row is null
pub plain-rows : (n k : ℕ) (f : ℕ → Value) → ((p : ℕ) → is_present (f p) ≡ true)
    → filled_rows n k (values_by None (k * n) f) ≡ stacked_rows n k (values_by None (k * n) f)
plain-rows n k f h =
    map-in (λ i. filled_row (stacked_row n k (values_by None (k * n) f) i))
    (λ i. joined_row (stacked_row n k (values_by None (k * n) f) i)) 0 n
    (λ i p. whole_row (list_all is_present (stacked_row n k (values_by None (k * n) f) i))
    (stacked_row n k (values_by None (k * n) f) i)
    (row-whole None n k f h i (omega (arith, p)) ∙ all_true 0 k))

-- ---- an option over filled rows

module _ (index : Option Column) (n k : ℕ) (f : ℕ → Value)
    (h : (p : ℕ) → is_present (f p) ≡ true) (x : Layout)
    (e : array_items x ≡ filled_rows n k (values_by index (k * n) f)) where
  abbrev vs : List Value
  vs = values_by index (k * n) f

  pub rows-len : len x ≡ n
  rows-len =
      sym (length-array_items x) ∙ ap length e
      ∙ length-map-range_with_len (λ i. filled_row (stacked_row n k vs i)) 0 n

  filled-at : (i : ℕ) → i < n → array_item x i ≡ filled_row (stacked_row n k vs i)
  filled-at i p =
      sym (get_or-array_items x i (omega (arith, p, rows-len)))
      ∙ ap (λ ws. get_or ws i null) e
      ∙ get_or-map-range_with_len (λ i. filled_row (stacked_row n k vs i)) 0 n i i null p
      (omega arith)

  null-or : (b : Bool) (i : ℕ) (ws : List Value)
      → array_item x i ≡ list (values_from (if b then joined_items ws else []))
      → in_option (simple_value (layout_type x)) (at_option (ends_place b i) (item x))
      ≡ (if b then list (values_from (joined_items ws)) else null)
  null-or true i ws g =
      in_option-same (simple_value (layout_type x)) (simple_value-null (layout_type x)) (item x i)
      ∙ g
  null-or false i ws g = refl

  item-is : (i : ℕ) → i < n
      → array_item (optional (rows_lane index n k) x) i ≡ joined_row (stacked_row n k vs i)
  item-is i p =
      ap (λ o. in_option (simple_value (layout_type x)) (at_option o (item x)))
      (option-rows index n k i p
      ∙ ap (λ b. ends_place b i) (sym (row-whole index n k f h i p)))
      ∙ null-or (list_all is_present (stacked_row n k vs i)) i (stacked_row n k vs i)
      (filled-at i p)

  pub null-rows : array_items (optional (rows_lane index n k) x) ≡ stacked_rows n k vs
  null-rows =
      array_items-at (optional (rows_lane index n k) x)
      ∙ ap (λ m. map (array_item (optional (rows_lane index n k) x)) (range_with_len 0 m))
      (size-rows index n k)
      ∙ map-in (array_item (optional (rows_lane index n k) x))
      (λ i. joined_row (stacked_row n k vs i)) 0 n (λ i p. item-is i (omega (arith, p)))

-- ---- answers

pub datum_is : (t u : DataType) (vs ws : List Value) → shown.arr t vs ≡ shown.arr u ws
    → (t ≡ u) × (vs ≡ ws)
datum_is t u vs ws e = (cc, cc)

pub rows_made : (t : DataType) (vs : List Value) (x : Layout) → rows_datum t vs ≡ Ok (array_datum x)
    → (too_many (length (joined_items vs)) ≡ None) × (t ≡ array_type x) × (vs ≡ array_items x)
rows_made t vs x e =
    let both = refused_or-Ok (too_many (length (joined_items vs))) (shown.arr t vs) (array_datum x)
    e in
    let same = datum_is t (array_type x) vs (array_items x) both.1 in
    (both.0, same.0, same.1)

-- of rows that are filled, as of those with nulls
pub rows_told : (o : Option Fault) (t u : DataType) (n k : ℕ) (vs : List Value)
    → Told o (rows_datum t (filled_rows n k vs)) → Told o (rows_datum u (stacked_rows n k vs))
rows_told o t u n k vs h =
    Told-same o (too_many (length (joined_items (stacked_rows n k vs))))
    (too_many (length (joined_items (filled_rows n k vs))))
    (shown.arr t (filled_rows n k vs)) (shown.arr u (stacked_rows n k vs)) (same-count n k vs) h

pub plain_gives : (index : Option Column) (n k : ℕ) (f : ℕ → Value) (t : DataType) (d : shown.Datum)
    → index ≡ None → ((p : ℕ) → is_present (f p) ≡ true)
    → rows_datum t (filled_rows n k (values_by index (k * n) f)) ≡ Ok d
    → rows_datum (type_by index t) (stacked_rows n k (values_by index (k * n) f)) ≡ Ok d
plain_gives None n k f t d e h g =
    subst (λ ws. rows_datum t ws ≡ Ok d) (plain-rows n k f h) g
plain_gives (Some j) n k f t d e h g = absurd (cc)

pub null_gives : (index : Option Column) (n k : ℕ) (f : ℕ → Value) (u : DataType) (x : Layout)
    → ((p : ℕ) → is_present (f p) ≡ true)
    → rows_datum (var u) (filled_rows n k (values_by index (k * n) f)) ≡ Ok (array_datum x)
    → rows_datum (opt (var u)) (stacked_rows n k (values_by index (k * n) f))
    ≡ Ok (array_datum (optional (rows_lane index n k) x))
null_gives index n k f u x h g =
    let vs : List Value = values_by index (k * n) f in
    let made = rows_made (var u) (filled_rows n k vs) x g in
    refused_or-None (too_many (length (joined_items (stacked_rows n k vs))))
    (shown.arr (opt (var u)) (stacked_rows n k vs))
    (array_datum (optional (rows_lane index n k) x)) (same-count n k vs ∙ made.0)
    (ap₂ shown.arr (ap (λ t. opt (present t)) made.1)
    (sym (null-rows index n k f h x (sym made.2))))

-- ---- what is opened

pub var_of : (t : DataType) → IsRowsType t → is_option t ≡ false → (u : DataType) × (t ≡ var u)
var_of (var t) h e = (t, refl)
var_of (opt t) h e = absurd (cc)
var_of unknown h e = absurd h
var_of (leaf p) h e = absurd h
var_of (reg n t) h e = absurd h
var_of (rec ns ts) h e = absurd h
var_of (tup ts) h e = absurd h
var_of (uni ts) h e = absurd h

pub var_in : (t : DataType) → IsRowsType (opt t) → (u : DataType) × (t ≡ var u)
var_in (var t) h = (t, refl)
var_in (opt t) h = absurd h
var_in unknown h = absurd h
var_in (leaf p) h = absurd h
var_in (reg n t) h = absurd h
var_in (rec ns ts) h = absurd h
var_in (tup ts) h = absurd h
var_in (uni ts) h = absurd h

var_class : (class : Class) (u v : DataType) → list_type class v ≡ var u → var v ≡ list_type class v
var_class None u v e = refl
var_class (Some n) u v e = absurd (cc)

module _ (index : Option Column) (n k : ℕ) (class : Class) (s t : Column) (y x : Layout)
    (h : OpensLists class s t y x) (g : IsListIndex index (k * n) (len x)) where
  pub lists_index : IsListIndex index (k * n) (size_of s)
  lists_index = subst (IsListIndex index (k * n)) (sym h.size) g

  same_item : (o : Option ℕ) → ((p : ℕ) → o ≡ Some p → p < len x)
      → at_option o (list_between s t y) ≡ at_option o (array_item x)
  same_item None l = refl
  same_item (Some p) l = sym (h.items p (l p refl))

  pub lists_gives : (u : DataType) → array_type x ≡ var u
      → rows_datum (type_by index (var (array_type y)))
      (stacked_rows n k (values_by index (k * n) (list_between s t y)))
      ≡ rows_datum (type_by index (array_type x))
      (stacked_rows n k (values_by index (k * n) (array_item x)))
  lists_gives u e =
      ap₂ (λ w vs. rows_datum (type_by index w) (stacked_rows n k vs))
      (var_class class u (array_type y) (sym h.typ ∙ e) ∙ sym h.typ)
      (map-in (λ j. at_option (list_place index j) (list_between s t y))
      (λ j. at_option (list_place index j) (array_item x)) 0 (k * n)
      (λ j q. same_item (list_place index j)
      (λ p r. place_within index (k * n) (len x) j p g (omega (arith, q)) r)))

pub option_gives : (j : Column) (n k : ℕ) (y x : Layout) → OpensOption j y x → len x ≡ k * n
    → rows_datum (opt (array_type y)) (stacked_rows n k (values_by (Some j) (k * n) (array_item y)))
    ≡ rows_datum (array_type x) (stacked_rows n k (array_items x))
option_gives j n k y x h e =
    ap₂ (λ w vs. rows_datum w (stacked_rows n k vs)) (sym h.typ)
    (sym (array_items-at x
    ∙ map-in (array_item x) (λ i. at_option (option_place_at j i) (array_item y)) 0 (len x)
    (λ i p. h.items i (omega (arith, p)))
    ∙ ap (λ m. map (λ i. at_option (option_place_at j i) (array_item y)) (range_with_len 0 m)) e))

pub whole_gives : (n k : ℕ) (x : Layout) → len x ≡ k * n
    → rows_datum (array_type x) (stacked_rows n k (values_by None (k * n) (array_item x)))
    ≡ rows_datum (array_type x) (stacked_rows n k (array_items x))
whole_gives n k x e =
    ap (λ vs. rows_datum (array_type x) (stacked_rows n k vs))
    (sym (array_items-at x ∙ ap (λ m. map (array_item x) (range_with_len 0 m)) e))
