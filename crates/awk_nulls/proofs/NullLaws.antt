-- Which items of an array are null.
use Rattle.std.specs.Prelude.{◌≡◌, ℕ, ◌+◌, ◌-◌, ◌<◌, ◌≤◌, refl, false, List, length, ℤ, pos, negsuc}
use Rattle.std.specs.Prelude.{◌<ℤ◌, Some, None}
use Rattle.std.proofs.Common.{arith, ap, sym, ◌∙◌, subst}
use Rattle.std.proofs.lemmas.Int.{ints}
use Rattle.std.proofs.lemmas.List.{length-map}
use Rattle.std.proofs.lemmas.Simd.{map-map}
use Rattle.awk_types.specs.DataType.{leaf, opt}
use Rattle.awk_types.specs.Predicates.{is_null}
use Rattle.awk_types.specs.Simple.{is_option, simple_value, IsSimple}
use Rattle.awk_types.specs.Value.{Value, null, int, truth, list, row, alt, value_list}
use Rattle.awk_types.specs.ItemLimit.{item_limit}
use Rattle.awk_types.specs.declared.primitive.Primitive.TheVariants.{Bool as Truths}
use Rattle.awk_types.proofs.SimpleLaws.{simple_is_simple}
use Rattle.awk_lanes.specs.declared.kind.Kind.TheVariants as kinds
use Rattle.awk_lanes.specs.Column.{Column}
use Rattle.awk_lanes.specs.Numbers.{is_nonzero, element}
use Rattle.awk_lanes.specs.Places.{size_of, at, place_at, option_place, option_place_at}
use Rattle.awk_layout.specs.Kinds.{primitive_of}
use Rattle.awk_layout.specs.Laws.{len-fits}
use Rattle.awk_layout.specs.Layout.{Layout, flat}
use Rattle.awk_layout.specs.Item.{at_option}
use Rattle.awk_layout.specs.Typing.{layout_type, array_type}
use Rattle.awk_layout.specs.Valid.{len, IsValid}
use Rattle.awk_gather.specs.Arrays.{array_item}
use Rattle.awk_open.specs.Opened.{IsOpened}
use Rattle.awk_open.specs.declared.opening.Opened.TheVariants.{Option as Optional}
use Rattle.awk_open.proofs.ItemShapes.{present_item}
use Rattle.awk_lanes.proofs.MadeLanes.{size-lane_of, at-lane_of}
use Rattle.awk_layout.proofs.Runs.{run-same}
use Rattle.awk_columns.specs.Joined.{JoinsLists, total}
use Rattle.awk_columns.specs.ListClass.{Class}
use Rattle.awk_list_functions.specs.Made.{AreGiven}
use Rattle.awk_columns.specs.Lists.{AreLists, items_at, all_items_at}
use Rattle.awk_list_functions.specs.Spoils.{too_many}
use Rattle.awk_list_functions.specs.declared.causes.Spoil.TheVariants.{Size}
use Rattle.awk_columns.proofs.ArrayLaws.{run_map}
use Rattle.awk_columns.proofs.ListNodes.{joined_even}
use Rattle.awk_nulls.specs.IsNone.{nulls, is_none_function}
use Rattle.awk_nulls.specs.Lanes.{null_number, nulls_lane, falses_lane, AreNulls}
use Rattle.awk_list_functions.proofs.SpoilLimits.{over_limit, within_limit}
use Rattle.awk_columns.proofs.OffsetLaws.{count_same}

-- the type under an option is none
pub inner_not_option : (x y : Layout) → array_type x ≡ opt (array_type y)
    → is_option (array_type y) ≡ false
inner_not_option x y e = (subst IsSimple e (simple_is_simple (layout_type x))).0

is_null-present : (v : Value) → (v ≡ null → ⊥) → is_null v ≡ false
is_null-present null h = absurd (h refl)
is_null-present (int z) h = refl
is_null-present (truth b) h = refl
is_null-present (list vs) h = refl
is_null-present (row vs) h = refl
is_null-present (alt k v) h = refl

pub no_null : (y : Layout) (k : ℕ) → IsValid y → is_option (array_type y) ≡ false → k < len y
    → is_null (array_item y k) ≡ false
no_null y k v n p = is_null-present (array_item y k) (present_item y k v p n)

-- where the type is no option
pub falses_are : (x : Layout) → IsValid x → is_option (array_type x) ≡ false
    → AreNulls x (falses_lane (len x))
falses_are x v n = record {
  kind = refl;
  size = size-lane_of kinds.Bool (len x) (λ i. pos 0);
  nulls = λ i p.
      ap (λ z. truth (is_nonzero z)) (at-lane_of kinds.Bool (len x) (λ j. pos 0) i p)
      ∙ ap truth (sym (no_null x i v n p));
}

null_shown : (y : Layout) (z : ℤ) → IsValid y → is_option (array_type y) ≡ false → z <ℤ pos (len y)
    → is_nonzero (element kinds.Bool (null_number (option_place z)))
    ≡ is_null (at_option (option_place z) (array_item y))
null_shown y (negsuc k) v n p = refl
null_shown y (pos k) v n p = sym (no_null y k v n (omega (arith, ints, p)))

-- those of an option
pub nulls_are : (x y : Layout) (j : Column) → IsOpened x (Optional j y)
    → AreNulls x (nulls_lane j)
nulls_are x y j o =
    let n : is_option (array_type y) ≡ false = inner_not_option x y o.kind in
    record {
      kind = refl;
      size = size-lane_of kinds.Bool (size_of j) (λ i. null_number (option_place_at j i)) ∙ o.size;
      nulls = λ i p.
          let q : i < size_of j = omega (arith, p, o.size) in
          ap (λ z. truth (is_nonzero z))
          (at-lane_of kinds.Bool (size_of j) (λ k. null_number (option_place_at j k)) i q)
          ∙ ap truth (null_shown y (at j i) o.valid.2 n (o.valid.1.below i q))
          ∙ ap (λ v. truth (is_null v)) (sym (o.items i p));
    }

-- ---- of a column of lists

pub nulls_given : (class : Class) (s t : Column) (y : Layout) (o : Column) (x : Layout) (c : Column)
    → AreLists class s t y → IsValid x → JoinsLists s t y o x → AreNulls x c
    → AreGiven class (leaf Truths) (λ vs. nulls vs) s t y o (flat c)
nulls_given class s t y o x c a v j h = record {
  valid = omega (arith, h.size, len-fits x v);
  offsets = rw h.size j.offsets;
  even = joined_even class s t y o x a.same_class j;
  typ = ap (λ k. leaf (primitive_of k)) h.kind;
  lists = λ i p.
      let first = place_at o i in
      let n = place_at o (i + 1) - place_at o i in
      ap value_list (run-same (array_item (flat c)) (λ k. truth (is_null (array_item x k))) first n
      (λ k _ q. h.nulls k (omega (arith, q, j.offsets.within i p))))
      ∙ sym (run_map (λ w. truth (is_null w)) (array_item x) first n)
      ∙ ap (λ r. nulls (value_list r)) (sym (j.lists i p))
      ∙ sym (map-map (simple_value (leaf Truths)) (λ w. truth (is_null w)) (items_at s t y i));
}

length-nulls : (vs : List Value) → length (nulls vs) ≡ length vs
length-nulls vs = length-map vs (λ v. truth (is_null v))

pub nulls_spoilt : (s t : Column) (y : Layout) → item_limit < total s t y
    → is_none_function.spoil (array_type y) (all_items_at s t y) ≡ Some Size
nulls_spoilt s t y h =
    ap too_many (count_same nulls s t y length-nulls) ∙ over_limit (total s t y) h

pub nulls_fine : (s t : Column) (y : Layout) → total s t y ≤ item_limit
    → is_none_function.spoil (array_type y) (all_items_at s t y) ≡ None
nulls_fine s t y h =
    ap too_many (count_same nulls s t y length-nulls) ∙ within_limit (total s t y) h
