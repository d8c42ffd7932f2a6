-- Laws of reducers, of one list of leaves: what is given for it, nulls among its items or not.
use Rattle.std.specs.Prelude.{◌≡◌, ℕ, ◌<◌, ◌-◌, pos, true, false, List, map, length, get_or, Ok}
use Rattle.std.specs.Prelude.{Bool, Err, [], ◌∷◌, if◌then◌else◌}
use Rattle.std.specs.List.{AllByRecursion, count_by, flat_map, list_any}
use Rattle.awk_types.specs.DataType.{DataType, var, reg, opt}
use Rattle.awk_types.specs.Datum.{Datum, arr, one, datum_type}
use Rattle.awk_types.specs.Has.{Has}
use Rattle.awk_types.specs.Predicates.{is_leaf, is_null}
use Rattle.awk_types.specs.Simple.{IsSimple, present}
use Rattle.awk_types.specs.Value.{Value, int, null}
use Rattle.awk_types.specs.declared.fault.Fault.TheVariants.{Overflow}
use Rattle.awk_columns.specs.Columns.{is_present, joined_items, list_items, list_of, present_values}
use Rattle.awk_numbers.specs.declared.extremes.Extreme.{Extreme}
use Rattle.awk_pair_operands.specs.Typed.{IsTyped}
use Rattle.awk_kernels.specs.Kernels.{total}
use Rattle.awk_present.specs.Numbers.{numbers}
use Rattle.awk_reduce.specs.Reduce.{overflows, reduce_of}
use Rattle.awk_reduce.specs.Reducers.{reduced, reduced_type}
use Rattle.awk_reduce.specs.Totals.{item_reducer, place_reducer}
use Rattle.awk_reduce.specs.declared.reducer.Reducer.{Reducer}
use Rattle.awk_reduce.specs.declared.reducer.Reducer.TheVariants.{Sum, Count}
use Rattle.awk_number_laws.specs.Extremes.{IsExtreme, IsFirstExtreme}
use Rattle.awk_law_chains.specs.Innermost.{innermost_lists, innermost_type, leaves_in}

-- whether a type is of lists of leaves
abbrev pub holds_leaves : DataType → Bool
holds_leaves (var t) = is_leaf (present t)
holds_leaves (reg n t) = is_leaf (present t)
holds_leaves t = false

-- each list of innermost lists in a value of a type, these joined to one list
abbrev pub joined_in : DataType → Value → List (List Value)
joined_in (var t) v =
    if holds_leaves (present t) then map joined_items (list_of v)
    else flat_map (joined_in t) (list_items v)
joined_in (reg n t) v =
    if holds_leaves (present t) then map joined_items (list_of v)
    else flat_map (joined_in t) (list_items v)
joined_in (opt t) v = joined_in t v
joined_in t v = []

-- an array of innermost lists is itself one of them
abbrev pub joined_lists : Datum → List (List Value)
joined_lists (arr t vs) =
    if holds_leaves (present t) then joined_items vs ∷ [] else flat_map (joined_in t) vs
joined_lists (one t v) = joined_in t v

pub record ReducerLaws : Type 0 where
  -- the sum of lists joined is the sum of their sums
  pub sum : (t : DataType) (ls : List (List Value))
      → reduced Sum t (flat_map (λ l. l) ls)
      ≡ reduced Sum (reduced_type Sum t) (map (reduced Sum t) ls)
  -- of an array of lists whose sums there are: the sum of the sums is that of the lists joined, or
  -- both overflow
  pub sums : (t : DataType) (vs : List Value) (sums : Datum) → is_leaf (present t) ≡ true
      → AllByRecursion (Has (var t)) vs → reduce_of Sum (arr (var t) vs) ≡ Ok sums
      → reduce_of Sum sums ≡ reduce_of Sum (arr t (joined_items vs))
  -- count is how many items there are, without the nulls
  pub count : (t : DataType) (vs : List Value)
      → reduced Count t vs ≡ int (pos (length vs - count_by is_null vs))
  -- min and max, where there is one, are an item, and none is less or greater
  pub item : (how : Extreme) (t : DataType) (vs : List Value) (v : Value)
      → is_leaf (present t) ≡ true → AllByRecursion (Has t) vs
      → reduced (item_reducer how) t vs ≡ v → is_present v ≡ true → IsExtreme how vs v
  -- argmin and argmax are the first place of such an item, nulls counted
  pub place : (how : Extreme) (t : DataType) (vs : List Value) (k : ℕ)
      → reduced (place_reducer how) t vs ≡ int (pos k) → IsFirstExtreme how vs k
  -- where min and max stand
  pub found : (how : Extreme) (t : DataType) (vs : List Value) (k : ℕ)
      → is_leaf (present t) ≡ true → AllByRecursion (Has t) vs
      → reduced (place_reducer how) t vs ≡ int (pos k)
      → get_or vs k null ≡ reduced (item_reducer how) t vs
  -- there is one where an item is not null
  pub some : (how : Extreme) (t : DataType) (vs : List Value) (i : ℕ)
      → i < length vs → is_present (get_or vs i null) ≡ true
      → (k : ℕ) × (reduced (place_reducer how) t vs ≡ int (pos k))
  -- and else both are null
  pub none : (how : Extreme) (t : DataType) (vs : List Value)
      → AllByRecursion (λ v. is_null v ≡ true) vs
      → (reduced (item_reducer how) t vs ≡ null) × (reduced (place_reducer how) t vs ≡ null)
  -- of any nesting: the leaves of what is given are, in order, what the reducer gives for each
  -- innermost list, where neither is null
  pub nested : (how : Reducer) (d made : Datum) → IsTyped d → reduce_of how d ≡ Ok made
      → present_values (leaves_in made)
      ≡ present_values (map (reduced how (innermost_type (datum_type d))) (innermost_lists d))
  -- of any nesting: where a reducer is given its exact result fits for each innermost list
  pub no_overflow : (how : Reducer) (d made : Datum) → reduce_of how d ≡ Ok made
      → list_any (overflows how (innermost_type (datum_type d))) (innermost_lists d) ≡ false
  -- and where it is refused as an overflow that of some innermost list does not fit
  pub overflow : (how : Reducer) (d : Datum) → reduce_of how d ≡ Err Overflow
      → list_any (overflows how (innermost_type (datum_type d))) (innermost_lists d) ≡ true
  -- of any nesting: the innermost lists of what sum gives, which are lists of sums, add up one by
  -- one to what the lists joined do whose sums they are. So where sums are summed again they
  -- overflow where these do not fit.
  pub sums_joined : (d made : Datum) → IsSimple (datum_type d) → IsTyped d
      → reduce_of Sum d ≡ Ok made
      → map (λ l. total (numbers l)) (innermost_lists made)
      ≡ map (λ l. total (numbers l)) (joined_lists d)
  -- of any nesting: the leaves of what sum gives add up to what the leaves of the datum do, so that
  -- sums that are summed again give the sum of all
  pub totals : (d made : Datum) → IsTyped d → reduce_of Sum d ≡ Ok made
      → total (numbers (leaves_in made)) ≡ total (numbers (leaves_in d))
