-- Laws of lists in order, of one list of items, nulls among them or not.
use Rattle.std.specs.Prelude.{◌≡◌, ℕ, ◌<◌, Bool, true, false, List, length, map, get_or, Ok}
use Rattle.std.specs.List.{range_with_len}
use Rattle.std.specs.List.Sorted.{IsPermutation}
use Rattle.awk_types.specs.DataType.{DataType}
use Rattle.awk_types.specs.Datum.{Datum, arr, datum_type}
use Rattle.awk_types.specs.Parts.{number_of}
use Rattle.awk_types.specs.Predicates.{is_leaf, is_list, is_null}
use Rattle.awk_types.specs.Simple.{IsSimple, present}
use Rattle.awk_types.specs.Value.{Value, null}
use Rattle.awk_list_functions.specs.declared.place.Reach.TheVariants.{Innermost}
use Rattle.awk_jagged.specs.Jagged.{jagged_of}
use Rattle.awk_select.specs.Picks.{picked, take_places, take_of}
use Rattle.awk_sorting.specs.Order.{number_first}
use Rattle.awk_order.specs.Order.{item_order, items_in_order}
use Rattle.awk_order.specs.Sort.{place_items, sort_of, argsort_of}
use Rattle.awk_law_chains.specs.Arrays.{AreItems, of_any_length}
use Rattle.awk_law_chains.specs.Innermost.{innermost_lists}
use Rattle.awk_number_laws.specs.Leaves.{on_result}

-- of two items that are not null the later one does not come before the earlier one by its number,
-- and behind a null are nulls alone
pub record IsInOrder (up : Bool) (vs : List Value) : Type 0 where
  pub numbers : (i j : ℕ) → i < j → j < length vs → is_null (get_or vs i null) ≡ false
      → is_null (get_or vs j null) ≡ false
      → number_first up (number_of (get_or vs j null)) (number_of (get_or vs i null)) ≡ false
  pub nulls_last : (i j : ℕ) → i < j → j < length vs → is_null (get_or vs i null) ≡ true
      → is_null (get_or vs j null) ≡ true

pub record OrderLaws : Type 0 where
  -- sort gives the same items, each as often
  pub same_items : (up : Bool) (vs : List Value) → IsPermutation vs (items_in_order up vs)
  -- numbers that rise, or fall, and then the nulls
  pub in_order : (up : Bool) (vs : List Value) → IsInOrder up (items_in_order up vs)
  -- argsort gives each place once
  pub places : (up : Bool) (vs : List Value)
      → IsPermutation (range_with_len 0 (length vs)) (item_order up vs)
  -- a pick by argsort is sort
  pub pick : (up : Bool) (vs : List Value)
      → picked vs (take_places (length vs) (place_items up vs)) ≡ items_in_order up vs
  -- the same of a whole array of leaves
  pub picks : (up : Bool) (t : DataType) (vs : List Value) (places : Datum)
      → is_leaf (present t) ≡ true → argsort_of up (arr t vs) ≡ Ok places
      → take_of (arr t vs) places ≡ sort_of up (arr t vs)
  -- and row by row of an array of lists, which are then of any length, however deep they lie
  pub picks_rows : (up : Bool) (t : DataType) (vs : List Value) (places : Datum)
      → is_list (present t) ≡ true → AreItems t vs → argsort_of up (arr t vs) ≡ Ok places
      → jagged_of (arr t vs) places
      ≡ on_result (λ d. Ok (of_any_length Innermost d)) (sort_of up (arr t vs))
  -- of any nesting: each innermost list of what sort gives is that list in order, and of what
  -- argsort gives its places in order
  pub nested : (up : Bool) (d sorted : Datum) → IsSimple (datum_type d) → sort_of up d ≡ Ok sorted
      → innermost_lists sorted ≡ map (items_in_order up) (innermost_lists d)
  pub nested_places : (up : Bool) (d places : Datum) → IsSimple (datum_type d)
      → argsort_of up d ≡ Ok places
      → innermost_lists places ≡ map (place_items up) (innermost_lists d)
  -- sorting twice is sorting once, of a list and of a whole array of leaves
  pub twice : (up : Bool) (vs : List Value)
      → items_in_order up (items_in_order up vs) ≡ items_in_order up vs
  pub again : (up : Bool) (t : DataType) (vs : List Value) (sorted : Datum)
      → is_leaf (present t) ≡ true → sort_of up (arr t vs) ≡ Ok sorted
      → sort_of up sorted ≡ Ok sorted
  -- the same of any nesting
  pub again_of : (up : Bool) (d sorted : Datum) → IsSimple (datum_type d) → sort_of up d ≡ Ok sorted
      → sort_of up sorted ≡ Ok sorted
