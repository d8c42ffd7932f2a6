-- How an item of a valid layout settles, by what it is one level down.
use Rattle.std.proofs.Common.{◌≡◌, ◌≢◌, ℕ, zero, suc, ◌+◌, ◌-◌, ◌*◌, ◌<◌, ◌≤◌, ◌==◌, Bool, true}
use Rattle.std.proofs.Common.{false, List, [], ◌∷◌, length, map, drop, get_or, slice_range, Option}
use Rattle.std.proofs.Common.{Some, None, if◌then◌else◌, arith, refl, ap, sym, subst, ◌∙◌, ℤ}
use Rattle.std.proofs.Common.{length-take, length-drop, get_or-take, get_or-drop}
use Rattle.std.specs.List.{range_with_len}
use Rattle.std.specs.Ordering.{int_eq}
use Rattle.std.proofs.lemmas.List.{ext_get_or, length-map, get_or-map}
use Rattle.std.proofs.lemmas.List.FromFn.{length-map-range_with_len, get_or-map-range_with_len}
use Rattle.awk_types.specs.DataType.{Name, DataType, DataTypes, var, reg, opt, uni, row_type}
use Rattle.awk_types.specs.DataType.{types_from}
use Rattle.awk_types.specs.Datum.{arr, one}
use Rattle.awk_types.specs.Has.{HasAlternative}
use Rattle.awk_types.specs.Settle.{settle, settle_alternative}
use Rattle.awk_types.specs.Simple.{simple, simples, simple_value, simple_values, value_by}
use Rattle.awk_types.specs.Simple.{value_after, alternatives_before}
use Rattle.awk_types.specs.Value.{Value, Values, null, row, alt, value_list, values_from}
use Rattle.awk_view.proofs.SettleLaws.{settle-option_of, value_after-present, settle-union_of}
use Rattle.awk_types.proofs.SimpleLaws.{simples_are_simple, has_simple_alternative}
use Rattle.awk_types.proofs.Trees.{value_list-from}
use Rattle.awk_types.proofs.NullLaws.{in_option-simple}
use Rattle.awk_lanes.specs.declared.kind.Kind.{Kind}
use Rattle.awk_lanes.specs.declared.kind.Kind.TheVariants.{Bool as Truths, I8, I16, I32, I64, U8}
use Rattle.awk_lanes.specs.declared.kind.Kind.TheVariants.{U16, U32, U64}
use Rattle.awk_lanes.specs.Places.{at, place_at, option_place_at}
use Rattle.awk_layout.specs.Layout.{Layout, Layouts, count, weight, weights, empty, flat, regular}
use Rattle.awk_layout.specs.Layout.{lists, offset_lists, rows, indexed, optional, byte_masked}
use Rattle.awk_layout.specs.Layout.{bit_masked, unmasked, union, no_layouts, layout}
use Rattle.awk_layout.specs.Valid.{len, IsValid}
use Rattle.awk_layout.specs.Numbered.{IsNumbered}
use Rattle.awk_layout.specs.Item.{item, items_across, item_of, leaf_value, run, byte_shows}
use Rattle.awk_layout.specs.Item.{bit_shows}
use Rattle.awk_layout.specs.Place.{Case, number, span, across, missing, through, alternative}
use Rattle.awk_layout.specs.Place.{case_of, value_of, nth, span_between, through_option, IsWithin}
use Rattle.awk_layout.specs.Laws.{item-case_of, case_of-within}
use Rattle.awk_layout.specs.Typing.{layout_type, layout_types, array_type, array_items}
use Rattle.awk_layout.proofs.ArrayItems.{length-array_items, get_or-array_items}
use Rattle.awk_layout.proofs.Runs.{value_list-run}
use Rattle.awk_layout.proofs.TypedItems.{alternative_has}

-- a value that settles as it is
pub record StaysOne (t : DataType) (v : Value) : Type 0 where
  pub present : simple_value t v ≢ null
  pub is : settle (simple t) (simple_value t v) ≡ one (simple t) (simple_value t v)

-- a list of the items of a layout from lo below hi
pub record IsListed (t : DataType) (v : Value) (y : Layout) (lo hi : ℕ) : Type 0 where
  pub present : simple_value t v ≢ null
  pub is : settle (simple t) (simple_value t v) ≡ arr (array_type y)
      (slice_range (array_items y) lo hi)

-- a value that settles as another value of another type does
pub record Follows (t : DataType) (v : Value) (u : DataType) (w : Value) : Type 0 where
  pub nulls : simple_value u w ≡ null → simple_value t v ≡ null
  pub present : simple_value u w ≢ null → simple_value t v ≢ null
  pub is : simple_value u w ≢ null
      → settle (simple t) (simple_value t v) ≡ settle (simple u) (simple_value u w)

-- how a value of a type settles, by its case in a layout of n nodes
abbrev pub SettlesAs : ℕ → DataType → Value → Case → Type 0
SettlesAs n t v (number w) = StaysOne t v
SettlesAs n t v (across names xs i) = StaysOne t v
SettlesAs n t v (span y lo hi) = (weight y < n) × IsListed t v y lo hi
SettlesAs n t v missing = simple_value t v ≡ null
SettlesAs n t v (through y k) = (weight y < n) × Follows t v (layout_type y) (item y k)
SettlesAs n t v (alternative tag y k) = (weight y < n) × Follows t v (layout_type y) (item y k)

-- ---- numbers and rows

leaf_value-present : (k : Kind) (z : ℤ) → leaf_value k z ≢ null
leaf_value-present Truths z = λ e. cc
leaf_value-present I8 z = λ e. cc
leaf_value-present I16 z = λ e. cc
leaf_value-present I32 z = λ e. cc
leaf_value-present I64 z = λ e. cc
leaf_value-present U8 z = λ e. cc
leaf_value-present U16 z = λ e. cc
leaf_value-present U32 z = λ e. cc
leaf_value-present U64 z = λ e. cc

row_stays : (names : Option (List Name)) (ts : DataTypes) (vs : Values)
    → StaysOne (row_type names ts) (row vs)
row_stays None ts vs = record { present = λ e. cc; is = refl }
row_stays (Some names) ts vs = record { present = λ e. cc; is = refl }

-- ---- lists

get_or-run : (y : Layout) (lo n j : ℕ) → j < n
    → get_or (map (simple_value (layout_type y)) (map (item y) (range_with_len lo n))) j null ≡
    simple_value (layout_type y) (item y (lo + j))
get_or-run y lo n j h =
    get_or-map (simple_value (layout_type y)) (map (item y) (range_with_len lo n)) j null null
    (omega (arith, length-map-range_with_len (item y) lo n))
    ∙ ap (simple_value (layout_type y)) (get_or-map-range_with_len (item y) lo n j (lo + j) null h
    refl)

-- the items of an array from a place below another
part : (y : Layout) (lo hi : ℕ) → lo ≤ hi → hi ≤ len y
    → map (simple_value (layout_type y)) (map (item y) (range_with_len lo (hi - lo))) ≡ slice_range
    (array_items y) lo hi
part y lo hi le within =
    let f : ℕ → Value = λ k. simple_value (layout_type y) (item y k) in
    let n : length (slice_range (array_items y) lo hi) ≡ hi - lo = omega (
      arith,
      length-take (hi - lo) (drop lo (array_items y)),
      length-drop lo (array_items y),
      length-array_items y,
    ) in
    let m : length (map (simple_value (layout_type y)) (map (item y) (range_with_len lo (hi - lo))))
    ≡ hi - lo =
    length-map (map (item y) (range_with_len lo (hi - lo))) (simple_value (layout_type y)) ∙
    length-map-range_with_len (item y) lo (hi - lo) in
    ext_get_or null _ _ (m ∙ sym n)
    (λ j h.
    let h' : j < hi - lo = omega arith in
    get_or-run y lo (hi - lo) j h'
    ∙ sym (get_or-take (hi - lo) (drop lo (array_items y)) j null h' ∙ get_or-drop lo
    (array_items y) j null ∙ get_or-array_items y (lo + j) (omega arith)))

-- the part of one item
pub item_part : (x : Layout) (i : ℕ) → i < len x
    → slice_range (array_items x) i (i + 1) ≡ simple_value (layout_type x) (item x i) ∷ []
item_part x i h =
    let n : i + 1 - i ≡ 1 = omega arith in
    sym (part x i (i + 1) (omega arith) (omega arith)) ∙ ap
    (λ n. map (simple_value (layout_type x)) (map (item x) (range_with_len i n))) n

run_part : (y : Layout) (lo hi : ℕ) → lo ≤ hi → hi ≤ len y
    → value_list (values_from (map (simple_value (layout_type y))
    (value_list (run (item y) lo (hi - lo))))) ≡ slice_range (array_items y) lo hi
run_part y lo hi le within =
    value_list-from (map (simple_value (layout_type y)) (value_list (run (item y) lo (hi - lo))))
    ∙ ap (map (simple_value (layout_type y))) (value_list-run (item y) lo (hi - lo))
    ∙ part y lo hi le within

var_listed : (h n : ℕ) (y : Layout) (lo hi : ℕ) → weight y < n → IsWithin h (span y lo hi)
    → SettlesAs n (var (layout_type y)) (value_of (span y lo hi)) (span y lo hi)
var_listed h n y lo hi l w =
    (l, record { present = λ e. cc; is = ap (arr (array_type y)) (run_part y lo hi w.0 w.1) })

reg_listed : (h n size : ℕ) (y : Layout) (lo hi : ℕ) → weight y < n → IsWithin h (span y lo hi)
    → SettlesAs n (reg size (layout_type y)) (value_of (span y lo hi)) (span y lo hi)
reg_listed h n size y lo hi l w =
    (l, record { present = λ e. cc; is = ap (arr (array_type y)) (run_part y lo hi w.0 w.1) })

between_listed : (h n : ℕ) (y : Layout) (a b : ℤ) (e : Bool) → int_eq a b ≡ e → weight y < n
    → IsWithin h (span_between y a b)
    → SettlesAs n (var (layout_type y)) (value_of (span_between y a b)) (span_between y a b)
between_listed h n y a b true e l w = rw e (var_listed h n y _ _ l (rw e at w))
between_listed h n y a b false e l w = rw e (var_listed h n y _ _ l (rw e at w))

block_listed : (h n size i : ℕ) (y : Layout) (e : Bool) → (size == 0) ≡ e → weight y < n
    → IsWithin h (if size == 0 then span y 0 0 else span y (i * size) (i * size + size))
    → SettlesAs n (reg size (layout_type y)) (value_of
    (if size == 0 then span y 0 0 else span y (i * size) (i * size + size)))
    (if size == 0 then span y 0 0 else span y (i * size) (i * size + size))
block_listed h n size i y true e l w = rw e (reg_listed h n size y _ _ l (rw e at w))
block_listed h n size i y false e l w = rw e (reg_listed h n size y _ _ l (rw e at w))

-- ---- options

itself_follows : (t : DataType) (v : Value) → Follows t v t v
itself_follows t v = record { nulls = λ h. h; present = λ h. h; is = λ h. refl }

option_follows : (t : DataType) (v : Value) → Follows (opt t) v t v
option_follows t v = record {
  nulls = λ h. in_option-simple t v ∙ h;
  present = λ h e. h (sym (in_option-simple t v) ∙ e);
  is = λ h. ap (settle (simple (opt t))) (in_option-simple t v) ∙ settle-option_of (simple t)
      (simple_value t v) h;
}

option_settles : (n : ℕ) (y : Layout) (o : Option ℕ) → weight y < n
    → SettlesAs n (opt (layout_type y)) (value_of (through_option y o)) (through_option y o)
option_settles n y None l = refl
option_settles n y (Some k) l = (l, option_follows (layout_type y) (item y k))

mask_settles : (n i : ℕ) (y : Layout) (b : Bool) → weight y < n
    → SettlesAs n (opt (layout_type y)) (value_of (if b then through y i else missing))
    (if b then through y i else missing)
mask_settles n i y true l = (l, option_follows (layout_type y) (item y i))
mask_settles n i y false l = refl

-- ---- unions

value_by-nth : (xs : Layouts) (k : ℕ) (v : Value) → k < count xs
    → value_by (simple_values (layout_types xs)) k v ≡ simple_value (layout_type (nth xs k)) v
value_by-nth no_layouts k v h = absurd (omega arith)
value_by-nth (layout x xs) zero v h = refl
value_by-nth (layout x xs) (suc k) v h = value_by-nth xs k v (omega arith)

settle_alternative-nth : (xs : Layouts) (k : ℕ) (v : Value) → k < count xs
    → settle_alternative (types_from (simples (layout_types xs))) k v ≡ settle
    (array_type (nth xs k)) v
settle_alternative-nth no_layouts k v h = absurd (omega arith)
settle_alternative-nth (layout x xs) zero v h = refl
settle_alternative-nth (layout x xs) (suc k) v h = settle_alternative-nth xs k v (omega arith)

item_of-nth : (xs : Layouts) (k i : ℕ) → item_of xs k i ≡ item (nth xs k) i
item_of-nth no_layouts k i = refl
item_of-nth (layout x xs) zero i = refl
item_of-nth (layout x xs) (suc k) i = item_of-nth xs k i

weight-nth : (xs : Layouts) (k : ℕ) → k < count xs → weight (nth xs k) ≤ weights xs
weight-nth no_layouts k h = absurd (omega arith)
weight-nth (layout x xs) zero h = omega arith
weight-nth (layout x xs) (suc k) h = omega (arith, weight-nth xs k (omega arith))

-- an alternative, whose simple value is w
alternative_follows : (ts : DataTypes) (k : ℕ) (v w : Value) (u : DataType)
    → value_by (simple_values ts) k v ≡ w → HasAlternative ts k v → simple_value u v ≡ w
    → settle_alternative (types_from (simples ts)) k w ≡ settle (simple u) w
    → Follows (uni ts) (alt k v) u v
alternative_follows ts k v w u e h f s =
    let b : ℕ = alternatives_before (simples ts) k in
    let same : simple_value (uni ts) (alt k v) ≡ value_after b w = ap (value_after b) e in
    let has : HasAlternative (types_from (simples ts)) k w = subst
    (HasAlternative (types_from (simples ts)) k) e (has_simple_alternative ts k v h) in
    record {
      nulls = λ n. same ∙ ap (value_after b) (sym f ∙ n);
      present = λ n q. value_after-present b w (λ z. n (f ∙ z)) (sym same ∙ q);
      is = λ n.
          ap (settle (simple (uni ts))) same
          ∙ settle-union_of (simples ts) k w (simples_are_simple ts) has (λ z. n (f ∙ z))
          ∙ s ∙ ap (settle (simple u)) (sym f);
    }

union_settles : (n : ℕ) (xs : Layouts) (k i : ℕ) → k < count xs → weights xs < n
    → HasAlternative (layout_types xs) k (item (nth xs k) i)
    → SettlesAs n (uni (layout_types xs)) (alt k (item (nth xs k) i)) (alternative k (nth xs k) i)
union_settles n xs k i t l h =
    let v : Value = item (nth xs k) i in
    let e : value_by (simple_values (layout_types xs)) k v ≡ simple_value (layout_type (nth xs k))
    v = value_by-nth xs k v t in (
      omega (arith, weight-nth xs k t),
      alternative_follows (layout_types xs) k v
          (simple_value (layout_type (nth xs k)) v) (layout_type (nth xs k)) e h refl
          (settle_alternative-nth xs k (simple_value (layout_type (nth xs k)) v) t),
    )

-- ---- all classes

by_case : (x : Layout) (i : ℕ) → IsValid x → IsNumbered x → i < len x
    → SettlesAs (weight x) (layout_type x) (value_of (case_of x i)) (case_of x i)
by_case empty i v m p = absurd (omega arith)
by_case (flat c) i v m p = record { present = leaf_value-present c.kind (at c i); is = refl }
by_case (regular size n y) i v m p =
    block_listed _ _ size i y (size == 0) refl (omega arith)
    (case_of-within (regular size n y) i v p)
by_case (lists s t y) i v m p =
    between_listed _ _ y (at s i) (at t i) _ refl (omega arith) (case_of-within (lists s t y) i v p)
by_case (offset_lists o y) i v m p =
    between_listed _ _ y (at o i) (at o (i + 1)) _ refl (omega arith)
    (case_of-within (offset_lists o y) i v p)
by_case (rows names n xs) i v m p = row_stays names (layout_types xs) (items_across xs i)
by_case (indexed j y) i v m p =
    (omega arith, itself_follows (layout_type y) (item y (place_at j i)))
by_case (optional j y) i v m p = option_settles _ y (option_place_at j i) (omega arith)
by_case (byte_masked b s y) i v m p = mask_settles _ i y (byte_shows b s i) (omega arith)
by_case (bit_masked b s y) i v m p = mask_settles _ i y (bit_shows b s i) (omega arith)
by_case (unmasked n y) i v m p = (omega arith, option_follows (layout_type y) (item y i))
by_case (union t j xs) i v m p =
    union_settles _ xs (place_at t i) (place_at j i) (v.1.tags i p).1 (omega arith)
    (subst (HasAlternative (layout_types xs) (place_at t i))
    (item_of-nth xs (place_at t i) (place_at j i))
    (alternative_has xs (place_at t i) (place_at j i) v.2 m ((v.1.places i p).1)))

-- an item settles as its case says
pub item-settles : (x : Layout) (i : ℕ) (c : Case) → c ≡ case_of x i → IsValid x → IsNumbered x
    → i < len x → SettlesAs (weight x) (layout_type x) (item x i) c
item-settles x i c e v m p =
    subst (SettlesAs (weight x) (layout_type x) (item x i)) (sym e)
    (subst (λ w. SettlesAs (weight x) (layout_type x) w (case_of x i)) (sym (item-case_of x i))
    (by_case x i v m p))
