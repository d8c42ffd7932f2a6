-- Laws of tuples of the items of lists: how many there are, and which.
use Rattle.std.specs.Prelude.{◌≡◌, ℕ, ◌+◌, ◌-◌, ◌*◌, ◌<◌, ◌≤◌, ℤ, Bool, true, false, pos, List}
use Rattle.std.specs.Prelude.{map, length, get_or, Ok}
use Rattle.std.specs.List.{AllByRecursion, Contains}
use Rattle.awk_types.specs.DataType.{DataType}
use Rattle.awk_types.specs.Datum.{Datum, arr, datum_type}
use Rattle.awk_types.specs.Simple.{IsSimple}
use Rattle.awk_types.specs.Value.{Value, null}
use Rattle.awk_columns.specs.Columns.{is_present, list_items}
use Rattle.awk_places.specs.Places.{rising_places, place_count}
use Rattle.awk_merge_operands.specs.Concatenate.{operand_items, row_of}
use Rattle.awk_combi.specs.Combinations.{combinations_of, tuples}
use Rattle.awk_products.specs.Tuples.{tuples_of}
use Rattle.awk_cartesian.specs.Cartesian.{cartesian_of}
use Rattle.awk_pair_operands.specs.Typed.{IsTyped}
use Rattle.awk_laws.specs.Choices.{binomial, factorial, IsChoice, comes_before, AreInOrder}
use Rattle.awk_laws.specs.Choices.{HasSlots, picked_tuple, tuples_of_list}
use Rattle.awk_laws.specs.Axes.{lists_of}

pub record TupleLaws : Type 0 where
  -- there are as many combinations of n items as choices of n of them
  pub count : (places : Bool) (n : ℕ) (t : DataType) (vs : List Value) → HasSlots n places t
      → length (tuples false places n t vs) ≡ binomial (length vs) n
  -- and with replacement as of n - 1 items more
  pub count_repeated : (places : Bool) (n : ℕ) (t : DataType) (vs : List Value)
      → HasSlots n places t
      → length (tuples true places n t vs) ≡ binomial (length vs + n - 1) n
  -- what that number is, by factorials
  pub factorials : (m n : ℕ) → n ≤ m
      → binomial m n * (factorial n * factorial (m - n)) ≡ factorial m
  -- each is made of n places that go up
  pub choices : (rep : Bool) (n m : ℕ) → AllByRecursion (IsChoice rep n m) (rising_places rep n m)
  -- each n places that go up are among them
  pub each : (rep : Bool) (n m : ℕ) (ks : List ℕ) → IsChoice rep n m ks
      → Contains (rising_places rep n m) ks
  -- they stand in order, each before all others behind it, so none stands there twice
  pub in_order : (rep : Bool) (n m : ℕ) → AreInOrder (rising_places rep n m)
  pub not_before_itself : (ks : List ℕ) → comes_before ks ks ≡ false
  -- argcombinations picked from the list is combinations
  pub pick : (rep : Bool) (n : ℕ) (t : DataType) (vs : List Value) → HasSlots n false t
      → map (picked_tuple vs) (tuples rep true n t vs) ≡ tuples rep false n t vs
  -- at each axis, of any nesting: each list of what combinations gives there is the tuples of that
  -- list, so that the laws above hold of it
  pub nested : (n : ℕ) (rep places : Bool) (axis : ℤ) (d made : Datum) → IsTyped d
      → IsSimple (datum_type d) → combinations_of n rep axis places d ≡ Ok made
      → lists_of axis made ≡ map (tuples_of_list n rep places) (lists_of axis d)
  -- and has as many of them as the binomial says, or with replacement that of n - 1 items more
  pub nested_count : (n : ℕ) (places : Bool) (axis : ℤ) (d made : Datum) → IsTyped d
      → IsSimple (datum_type d) → combinations_of n false axis places d ≡ Ok made
      → map (λ l. length l.1) (lists_of axis made)
      ≡ map (λ l. binomial (length l.1) n) (lists_of axis d)
  pub nested_repeated : (n : ℕ) (places : Bool) (axis : ℤ) (d made : Datum) → IsTyped d
      → IsSimple (datum_type d) → combinations_of n true axis places d ≡ Ok made
      → map (λ l. length l.1) (lists_of axis made)
      ≡ map (λ l. binomial (length l.1 + n - 1) n) (lists_of axis d)
  -- and argcombinations, picked from each list there, is combinations
  pub nested_pick : (rep : Bool) (n : ℕ) (axis : ℤ) (d made : Datum) → IsTyped d
      → IsSimple (datum_type d) → combinations_of n rep axis false d ≡ Ok made
      → AllByRecursion (λ l. map (picked_tuple l.1) (tuples_of_list n rep true l).1
      ≡ (tuples_of_list n rep false l).1) (lists_of axis d)
  -- cartesian of lists has as many tuples as the product of their lengths
  pub product : (places : Bool) (ls : List (List Value))
      → length (tuples_of places ls) ≡ place_count (map length ls)
  -- the same of whole arrays
  pub products : (places : Bool) (ds : List Datum) (t : DataType) (vs : List Value)
      → cartesian_of (pos 0) places ds ≡ Ok (arr t vs)
      → length vs ≡ place_count (map (λ d. length (operand_items d)) ds)
  -- and of each row of lists, where none of them is null
  pub products_of_rows : (places : Bool) (ds : List Datum) (t : DataType) (vs : List Value)
      → cartesian_of (pos 1) places ds ≡ Ok (arr t vs) → (i : ℕ) → i < length vs
      → is_present (get_or vs i null) ≡ true → length (list_items (get_or vs i null))
      ≡ place_count (map (λ v. length (list_items v)) (row_of (map operand_items ds) i))
