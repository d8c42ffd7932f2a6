-- Lists whose items are of a type that is no option: none of them is null.
use Rattle.std.specs.Prelude.{◌≡◌, ℕ, zero, suc, ◌+◌, ◌<◌, ◌≤◌, refl, false, List, ◌∷◌, map}
use Rattle.std.specs.Prelude.{sum, length, Some, None}
use Rattle.std.proofs.Common.{arith, ap, sym, ◌∙◌, subst}
use Rattle.awk_types.specs.Predicates.{is_null}
use Rattle.awk_types.specs.Simple.{present, simple, simple_value, is_option}
use Rattle.awk_types.specs.Value.{Value, null, int, truth, list, row, alt, value_list}
use Rattle.awk_types.specs.ItemLimit.{item_limit}
use Rattle.awk_types.proofs.SimpleLaws.{simple_twice, present_stays}
use Rattle.awk_lanes.specs.Column.{Column}
use Rattle.awk_lanes.specs.Places.{size_of, at, place_at}
use Rattle.awk_layout.specs.Layout.{Layout}
use Rattle.awk_layout.specs.Item.{run}
use Rattle.awk_layout.specs.Typing.{layout_type, array_type}
use Rattle.awk_layout.specs.Valid.{len}
use Rattle.awk_gather.specs.Arrays.{array_item}
use Rattle.awk_columns.specs.Columns.{present_values}
use Rattle.awk_columns.specs.Joined.{total}
use Rattle.awk_columns.specs.ListClass.{Class}
use Rattle.awk_columns.specs.Lists.{AreLists, items_at, all_items_at}
use Rattle.awk_list_functions.specs.DropNone.{drop_none_function}
use Rattle.awk_list_functions.specs.Made.{AreSpanned}
use Rattle.awk_list_functions.specs.Spoils.{too_many}
use Rattle.awk_list_functions.specs.declared.causes.Spoil.TheVariants.{Size}
use Rattle.awk_nulls.specs.Lanes.{span_length}
use Rattle.awk_list_ends.proofs.SpanLaws.{start_there}
use Rattle.awk_nulls.proofs.NullLaws.{no_null}
use Rattle.awk_option_nodes.proofs.OptionNodes.{HasItems, span_stays}
use Rattle.awk_list_functions.proofs.SpoilLimits.{over_limit, within_limit}
use Rattle.awk_columns.proofs.OffsetLaws.{count_lists}

shown_first : (v : Value) (vs : List Value) → is_null v ≡ false
    → present_values (v ∷ vs) ≡ v ∷ present_values vs
shown_first null vs h = cc
shown_first (int z) vs h = refl
shown_first (truth b) vs h = refl
shown_first (list ws) vs h = refl
shown_first (row ws) vs h = refl
shown_first (alt k v) vs h = refl

run_shown : (f : ℕ → Value) (a n : ℕ) → ((k : ℕ) → k < n → is_null (f (a + k)) ≡ false)
    → present_values (value_list (run f a n)) ≡ value_list (run f a n)
run_shown f a zero h = refl
run_shown f a (suc n) h =
    let z : a + 0 ≡ a = omega arith in
    shown_first (f a) (value_list (run f (suc a) n))
    (subst (λ m. is_null (f m) ≡ false) z (h 0 (omega arith)))
    ∙ ap (λ ws. f a ∷ ws) (run_shown f (suc a) n (λ k p.
    subst (λ m. is_null (f m) ≡ false) (more a k) (h (suc k) (omega (arith, p)))))
  where
    more : (a k : ℕ) → a + suc k ≡ suc a + k
    more a k = omega arith

module _ (class : Class) (s t : Column) (y : Layout) (a : AreLists class s t y)
    (plain : is_option (array_type y) ≡ false) where
  kept : (i : ℕ) → i < size_of s → present_values (items_at s t y i) ≡ items_at s t y i
  kept i p = run_shown (array_item y) (place_at s i) (span_length s t i) (λ k q.
      let b = start_there (len y) (at s i) (at t i) (a.spans.ordered i p) (omega (arith, q)) in
      no_null y (place_at s i + k) a.valid plain (omega (arith, q, b.1)))

  count_is : sum (map (λ l. length (present_values l)) (all_items_at s t y)) ≡ total s t y
  count_is =
      count_lists (λ vs. present_values vs) s t y (items_at s t y) (λ i p. ap length (kept i p))

  pub kept_spoilt : item_limit < total s t y
      → drop_none_function.spoil (array_type y) (all_items_at s t y) ≡ Some Size
  kept_spoilt q = ap too_many count_is ∙ over_limit (total s t y) q

  pub kept_fine : total s t y ≤ item_limit
      → drop_none_function.spoil (array_type y) (all_items_at s t y) ≡ None
  kept_fine q = ap too_many count_is ∙ within_limit (total s t y) q

  -- the lists as they lie
  pub kept_spanned : HasItems y
      → AreSpanned (present (array_type y)) (λ vs. present_values vs) s t y s t y
  kept_spanned has = record {
    valid = a.valid;
    fits = a.fits;
    size = refl;
    spans = a.spans;
    typ = sym (simple_twice (layout_type y)) ∙ ap simple (sym (present_stays (array_type y) plain));
    lists = λ i p.
        sym (ap (λ u. map (simple_value u) (present_values (items_at s t y i)))
        (present_stays (array_type y) plain)
        ∙ ap (map (simple_value (array_type y))) (kept i p)
        ∙ span_stays y has (place_at s i) (span_length s t i)
        (λ q. (start_there (len y) (at s i) (at t i) (a.spans.ordered i p) q).1));
  }
