-- What is made of lists, by what is made of their items.
use Rattle.std.specs.Prelude.{◌≡◌, ℕ, ◌<◌, ◌≤◌, refl, true, false, Bool, nat_lt, List, [], length}
use Rattle.std.specs.Prelude.{map, sum, Option, Some, None, if◌then◌else◌}
use Rattle.std.specs.List.{range_with_len, list_any}
use Rattle.std.proofs.Common.{arith, ap, sym, ◌∙◌, subst}
use Rattle.std.proofs.lemmas.List.Folds.{list_any_at}
use Rattle.std.proofs.lemmas.List.FromFn.{get_or-map-range_with_len, length-map-range_with_len}
use Rattle.std.proofs.lemmas.Simd.{map-map}
use Rattle.awk_base.proofs.Ranges.{none-any}
use Rattle.awk_types.specs.DataType.{DataType, unknown, leaf, var, reg, rec, tup, opt, uni}
use Rattle.awk_types.specs.ItemLimit.{item_limit}
use Rattle.awk_types.specs.Predicates.{is_leaf}
use Rattle.awk_types.specs.Simple.{present, is_option}
use Rattle.awk_types.specs.Value.{Value}
use Rattle.awk_types.proofs.ItemLimits.{nat_lt-over, nat_lt-within}
use Rattle.awk_lanes.specs.Column.{Column}
use Rattle.awk_lanes.specs.Counted.{before}
use Rattle.awk_lanes.specs.Places.{size_of, at, place_at}
use Rattle.awk_lanes.proofs.CountedLanes.{sum-before}
use Rattle.awk_layout.specs.Layout.{Layout}
use Rattle.awk_layout.specs.Typing.{array_type}
use Rattle.awk_layout.proofs.Runs.{length-run}
use Rattle.awk_gather.specs.Arrays.{array_item}
use Rattle.awk_columns.specs.Joined.{total, IsJoined}
use Rattle.awk_columns.specs.Lists.{Listed, items_at, all_items_at, span_length}
use Rattle.awk_columns.specs.declared.lists.Joined.TheVariants.{TooMany}
use Rattle.awk_columns.proofs.OffsetLaws.{counted_total}
use Rattle.awk_list_functions.specs.Made.{IsMade, IsColumn}
use Rattle.awk_list_functions.specs.declared.causes.Refusal.TheVariants as refused
use Rattle.awk_list_functions.specs.declared.causes.Spoil.{Spoil}
use Rattle.awk_list_functions.specs.declared.causes.Spoil.TheVariants.{Index, Size, Overflow}
use Rattle.awk_list_functions.specs.declared.function.Made.{Made}
use Rattle.awk_list_functions.specs.declared.function.Made.TheVariants as made
use Rattle.awk_parts.specs.Spans.{span_count, span_size, AreEnds}
use Rattle.awk_parts.specs.declared.parts.Spans.{Spans}
use Rattle.awk_reduce.specs.Lists.{list_in, IsReduced}
use Rattle.awk_reduce.specs.Reduce.{overflows, overflow_spoil, reduced_spoil, reducer_function}
use Rattle.awk_reduce.specs.Reducers.{reduced_type, reduced}
use Rattle.awk_reduce.specs.declared.reducer.Reducer.{Reducer}
use Rattle.awk_reduce.proofs.SpanLaws.{before-is}

-- ---- counts

-- the same by the lengths of lists
pub total-before : (s e : Column) (y : Layout) → total s e y ≡ before (span_length s e) (size_of s)
total-before s e y =
    sym (counted_total s e y)
    ∙ ap sum
    (map-map (λ (l : List Value). length l) (items_at s e y) (range_with_len 0 (size_of s)))
    ∙ sum-before (span_length s e) (λ i. length (items_at s e y i))
    (λ i. length-run (array_item y) (place_at s i) (span_length s e i)) (size_of s)

pub total-is : (l : Listed) (p : Spans) → AreEnds (size_of l.starts) (at l.starts) (at l.stops) p
    → total l.starts l.stops l.content ≡ before (span_size p) (span_count p)
total-is l p ends =
    total-before l.starts l.stops l.content ∙ sym (before-is l.starts l.stops p ends)

module _ (how : Reducer) (s e : Column) (y : Layout) where
  abbrev spoil : Option Spoil
  spoil = reduced_spoil how (array_type y) (all_items_at s e y)

  abbrev by_count : Bool → Option Spoil
  by_count b = if b then Some Size else overflow_spoil how (array_type y) (all_items_at s e y)

  counted : spoil ≡ by_count (nat_lt item_limit (total s e y))
  counted = ap (λ n. by_count (nat_lt item_limit n)) (counted_total s e y)

  pub reduced_spoilt : IsJoined s e y TooMany → spoil ≡ Some Size
  reduced_spoilt h = counted ∙ ap by_count (nat_lt-over (total s e y) h)

  few_spoil : total s e y ≤ item_limit
      → spoil ≡ overflow_spoil how (array_type y) (all_items_at s e y)
  few_spoil h = counted ∙ ap by_count (nat_lt-within (total s e y) h)

-- no list overflows
reduced_fine : (how : Reducer) (s e : Column) (y : Layout) → total s e y ≤ item_limit
    → ((i : ℕ) → i < size_of s → overflows how (array_type y) (items_at s e y i) ≡ false)
    → reduced_spoil how (array_type y) (all_items_at s e y) ≡ None
reduced_fine how s e y h f =
    few_spoil how s e y h
    ∙ ap (λ b. if b then Some Overflow else None)
    (none-any (overflows how (array_type y)) (items_at s e y) 0 (size_of s)
    (λ j l. f j (omega (arith, l))))

-- some list overflows
reduced_overflow : (how : Reducer) (s e : Column) (y : Layout) (i : ℕ) → total s e y ≤ item_limit
    → i < size_of s → overflows how (array_type y) (items_at s e y i) ≡ true
    → reduced_spoil how (array_type y) (all_items_at s e y) ≡ Some Overflow
reduced_overflow how s e y i h l f =
    few_spoil how s e y h
    ∙ ap (λ b. if b then Some Overflow else None)
    (list_any_at (overflows how (array_type y)) (all_items_at s e y) i []
    (omega (arith, l, length-map-range_with_len (items_at s e y) 0 (size_of s)))
    (ap (overflows how (array_type y))
    (get_or-map-range_with_len (items_at s e y) 0 (size_of s) i i [] l (omega arith)) ∙ f))

-- no list is refused for a place
pub reduced-never : (how : Reducer) (t : DataType) (ls : List (List Value))
    → reduced_spoil how t ls ≡ Some Index → ⊥
reduced-never how t ls h =
    go (nat_lt item_limit (sum (map (λ (l : List Value). length l) ls)))
    (list_any (overflows how t) ls) h
  where
    go : (b c : Bool) → (if b then Some Size else if c then Some Overflow else None) ≡ Some Index
        → ⊥
    go true c e = cc
    go false true e = cc
    go false false e = cc

-- ---- leaves

-- what is a leaf without its option alone is an option
pub optional_leaf : (t : DataType) → is_leaf t ≡ false → is_leaf (present t) ≡ true
    → is_option t ≡ true
optional_leaf unknown h e = cc
optional_leaf (leaf p) h e = cc
optional_leaf (var t) h e = cc
optional_leaf (reg n t) h e = cc
optional_leaf (rec ns ts) h e = cc
optional_leaf (tup ts) h e = cc
optional_leaf (opt t) h e = refl
optional_leaf (uni ts) h e = cc

pub leaves_taken : (how : Reducer) (t : DataType) → (reducer_function how).refusal t ≡ None
    → is_leaf (present t) ≡ true
leaves_taken how t h = go (is_leaf (present t)) h
  where
    go : (b : Bool) → (if b then None else Some refused.WrongType) ≡ None → b ≡ true
    go true e = refl
    go false e = cc

-- ---- lists

-- what is made of lists by their items is made of them
pub made_of_lists : (l : Listed) (how : Reducer) (n : ℕ) (m : Made) → n ≡ size_of l.starts
    → total l.starts l.stops l.content ≤ item_limit
    → IsReduced how (array_type l.content) (list_in l) n m
    → IsMade (reducer_function how) l.class l.starts l.stops l.content m
made_of_lists l how n (made.Spoiled why) e few h =
    reduced_overflow how l.starts l.stops l.content h.1.0 few (omega (arith, e, h.1.1)) h.1.2
    ∙ ap (λ w. Some w) (sym h.0)
made_of_lists l how n (made.Lists q w) e few h = absurd h
made_of_lists l how n (made.Even w) e few h = absurd h
made_of_lists l how n (made.Spans a b w) e few h = absurd h
made_of_lists l how n (made.Singles w) e few h = (
  reduced_fine how l.starts l.stops l.content few (λ i k. h.0 i (omega (arith, e, k))),
  subst (λ m. IsColumn (reduced_type how (array_type l.content))
      (λ i. reduced how (array_type l.content) (list_in l i)) m w) e h.1,
)
