-- Items of functions that agree, through an option.
use Rattle.std.specs.Prelude.{◌<◌, None, Option, Some, refl, ℕ, ◌≡◌, ◌<ℤ◌, negsuc, pos, ℤ}
use Rattle.std.proofs.Common.{arith}
use Rattle.std.proofs.lemmas.Int.{ints}
use Rattle.awk_types.specs.Value.{Value}
use Rattle.awk_lanes.specs.Places.{option_place}
use Rattle.awk_layout.specs.Item.{at_option}

pub same_at : (o : Option ℕ) (n : ℕ) (f g : ℕ → Value) → ((k : ℕ) → o ≡ Some k → k < n)
    → ((k : ℕ) → k < n → f k ≡ g k) → at_option o f ≡ at_option o g
same_at None n f g b e = refl
same_at (Some k) n f g b e = e k (b k refl)

-- and by a number of an index
pub option_same : (z : ℤ) (n : ℕ) (f g : ℕ → Value) → z <ℤ pos n → ((k : ℕ) → k < n → f k ≡ g k)
    → at_option (option_place z) f ≡ at_option (option_place z) g
option_same (pos k) n f g p e = e k (omega (arith, ints, p))
option_same (negsuc k) n f g p e = refl
