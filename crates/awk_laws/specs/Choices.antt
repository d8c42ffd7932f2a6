-- Lists of places of one list: how many there are, which they are, and their order.
use Rattle.std.specs.Prelude.{◌≡◌, ◌==◌, ℕ, zero, suc, ◌+◌, ◌*◌, ◌<◌, nat_lt, Bool, true, false}
use Rattle.std.specs.Prelude.{if◌then◌else◌, List, [], ◌∷◌, length}
use Rattle.std.specs.List.{AllByRecursion}
use Rattle.awk_types.specs.DataType.{DataType}
use Rattle.awk_types.specs.Value.{Value, row, value_list, values_from}
use Rattle.awk_places.specs.Places.{goes_up}
use Rattle.awk_combi.specs.Combinations.{slot_type, slots, tuple_type, tuples}
use Rattle.awk_select.specs.Picks.{picked, take_places}
use Rattle.awk_laws.specs.Axes.{TypedList}

-- how many choices there are of n of m items, by Pascal's triangle
abbrev pub binomial : ℕ → ℕ → ℕ
binomial m zero = 1
binomial zero (suc n) = 0
binomial (suc m) (suc n) = binomial m n + binomial m (suc n)

abbrev pub factorial : ℕ → ℕ
factorial zero = 1
factorial (suc n) = suc n * factorial n

-- n places of m items that increase, or with replacement do not decrease
pub record IsChoice (rep : Bool) (n m : ℕ) (ks : List ℕ) : Type 0 where
  pub long : length ks ≡ n
  pub below : AllByRecursion (λ k. k < m) ks
  pub rising : goes_up rep ks ≡ true

-- whether a list of places comes before another, by the first place in which they differ
abbrev pub comes_before : List ℕ → List ℕ → Bool
comes_before [] ks = false
comes_before (j ∷ js) [] = false
comes_before (j ∷ js) (k ∷ ks) = if j == k then comes_before js ks else nat_lt j k

-- each comes before all that stand after it
abbrev pub AreInOrder : List (List ℕ) → Type 0
AreInOrder [] = Unit {0}
AreInOrder (ks ∷ kss) = AllByRecursion (λ js. comes_before ks js ≡ true) kss × AreInOrder kss

-- ---- tuples of them

-- a type may have as many as n slots
abbrev pub HasSlots : ℕ → Bool → DataType → Type 0
HasSlots n places t = slots n (slot_type places t) ≡ n

-- the tuples of one list, with their type
abbrev pub tuples_of_list : ℕ → Bool → Bool → TypedList → TypedList
tuples_of_list n rep places l = (tuple_type places n l.0, tuples rep places n l.0 l.1)

-- a tuple of places as the items that a pick by them gives
abbrev pub picked_tuple : List Value → Value → Value
picked_tuple vs (row ks) =
    row (values_from (picked vs (take_places (length vs) (value_list ks))))
picked_tuple vs v = v
