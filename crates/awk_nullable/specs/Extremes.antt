-- The extreme of numbers, and its first item.
use Rattle.std.specs.Prelude.{◌≡◌, ℕ, ◌<◌, ℤ, ◌+ℤ◌, Bool, true, false, ◌||◌, List, [], position}
use Rattle.std.specs.Prelude.{Option, Some, None, if◌then◌else◌, cond, FitsSigned, ◌⊎◌}
use Rattle.std.specs.Int.{w64}
use Rattle.std.specs.List.{range_with_len}
use Rattle.std.specs.Option.{is_some, option_and_then, option_map, unwrap_or}
use Rattle.std.specs.Ordering.{int_eq}
use Rattle.awk_lanes.specs.Column.{Column}
use Rattle.awk_lanes.specs.Places.{size_of, at}
use Rattle.awk_numbers.specs.Folds.{beats, extreme_of}
use Rattle.awk_numbers.specs.declared.extremes.Extreme.{Extreme}
use Rattle.awk_nullable.specs.Numbers.{numbers_from}
use Rattle.awk_nullable.specs.declared.extremes.Placed.{Placed}
use Rattle.awk_nullable.specs.declared.keys.Found.{Found}

-- whether an item has a number
abbrev pub is_some_number : ℤ → Option ℤ → Bool
is_some_number z None = false
is_some_number z (Some y) = int_eq z y

-- the first of n items from one on that has a number, counted from the first
abbrev pub number_place : (ℕ → Option ℤ) → ℕ → ℕ → ℤ → Option ℕ
number_place g first n z = position (λ i. is_some_number z (g i)) (range_with_len first n)

-- the first of the first i items that is found, or the count of all where none is
abbrev pub IsItem : ℕ → ℕ → Option ℕ → ℕ → Type 0
IsItem count i None place = place ≡ count
IsItem count i (Some k) place = (place ≡ k) × (k < i)

-- the first item of the extreme
abbrev pub extreme_place : Extreme → (ℕ → Option ℤ) → ℕ → ℕ → Option ℕ
extreme_place how g first n =
    option_and_then (number_place g first n) (extreme_of how (numbers_from g first n))

-- the extreme, which is a number of the lane, or none of no numbers
abbrev pub IsExtreme : Extreme → Column → List ℤ → Option ℤ → Type 0
IsExtreme how c zs None = zs ≡ []
IsExtreme how c zs (Some z) =
    (k : ℕ) × (k < size_of c) × (extreme_of how zs ≡ Some z) × (z ≡ at c k)

-- ---- by keys, each so far from its number

-- the key of item i, or none where it is null
abbrev pub leaf_key : (ℕ → Option ℕ) → Column → ℤ → ℕ → Option ℤ
leaf_key f c shift i = option_map (λ k. at c k +ℤ shift) (f i)

-- the key of the extreme, which is a number of the lane, or none of no numbers
abbrev pub IsExtremeKey : Extreme → Column → ℤ → List ℤ → Option ℤ → Type 0
IsExtremeKey how c shift zs None = zs ≡ []
IsExtremeKey how c shift zs (Some key) =
    (k : ℕ) × (k < size_of c) × (extreme_of how zs ≡ Some (at c k)) × (key ≡ at c k +ℤ shift)

-- the better one of two keys
abbrev pub better_key : Extreme → ℤ → ℤ → ℤ
better_key how old next = if beats how next old then next else old

-- a key of 64 bits that beats none
abbrev pub IsWorst : Extreme → ℤ → Type 0
IsWorst how worst = (z : ℤ) → FitsSigned w64 z → beats how worst z ≡ false

-- what is found after one item more, a null as the worst key
abbrev pub next_found : Extreme → ℤ → Found → Option ℤ → Found
next_found how worst old next = record {
  key = better_key how old.key (unwrap_or next worst);
  some = old.some || is_some next;
}

abbrev pub found_key : Found → Option ℤ
found_key b = if b.some then Some b.key else None

-- the key of the extreme, or the worst one of no numbers
abbrev pub IsFoundKey : Extreme → Column → ℤ → ℤ → List ℤ → ℤ → Bool → Type 0
IsFoundKey how c shift worst zs key true = IsExtremeKey how c shift zs (Some key)
IsFoundKey how c shift worst zs key false = (zs ≡ []) × (key ≡ worst)

abbrev pub IsFound : Extreme → Column → ℤ → ℤ → List ℤ → Found → Type 0
IsFound how c shift worst zs b = IsFoundKey how c shift worst zs b.key b.some

-- ---- with the first item of the best key

-- what is found after item i
abbrev pub next_placed : Extreme → ℤ → ℕ → Placed → Option ℤ → Placed
next_placed how worst i old next = record {
  found = next_found how worst old.found next;
  place = cond (beats how (unwrap_or next worst) old.found.key) i old.place;
}

-- no item so far has a better key, and the place is the first item of the best one, or the count of
-- all items where that is the worst key
pub record IsPlacedKey (how : Extreme) (worst : ℤ) (count : ℕ) (g : ℕ → Option ℤ) (first i : ℕ)
    (key : ℤ) (place : ℕ) : Type 0 where
  pub before : (z : ℤ) → beats how z key ≡ true → number_place g first i z ≡ None
  pub here : ((place ≡ count) × (key ≡ worst))
      ⊎ ((place < i) × (number_place g first i key ≡ Some place))

abbrev pub IsPlaced : Extreme → ℤ → ℕ → (ℕ → Option ℤ) → ℕ → ℕ → Placed → Type 0
IsPlaced how worst count g first i b =
    IsPlacedKey how worst count g first i b.found.key b.place
