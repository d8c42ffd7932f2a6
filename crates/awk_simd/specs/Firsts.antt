-- The first least and the first greatest among the first numbers of a list.
use Rattle.std.specs.Prelude.{◌≡◌, ℕ, ◌<◌, ℤ, pos, List, length, get_or, false, true, int_lt}

-- none of the first n numbers is less than the one at a place, and all before it are greater
pub record IsFirstLeast (xs : List ℤ) (n place : ℕ) : Type 0 where
  pub inside : place < length xs
  pub before : (k : ℕ) → k < place
      → int_lt (get_or xs place (pos 0)) (get_or xs k (pos 0)) ≡ true
  pub bound : (k : ℕ) → k < n → int_lt (get_or xs k (pos 0)) (get_or xs place (pos 0)) ≡ false

-- none of them is greater, and all before it are less
pub record IsFirstGreatest (xs : List ℤ) (n place : ℕ) : Type 0 where
  pub inside : place < length xs
  pub before : (k : ℕ) → k < place
      → int_lt (get_or xs k (pos 0)) (get_or xs place (pos 0)) ≡ true
  pub bound : (k : ℕ) → k < n → int_lt (get_or xs place (pos 0)) (get_or xs k (pos 0)) ≡ false
