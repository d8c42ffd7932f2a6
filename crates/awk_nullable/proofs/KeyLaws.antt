-- Keys compare as their numbers do.
use Rattle.std.proofs.Common.{◌≡◌, arith}
use Rattle.std.specs.Prelude.{ℤ, pos, negsuc, ◌+ℤ◌, false, FitsSigned}
use Rattle.std.specs.Int.{w64}
use Rattle.std.specs.Ordering.{int_eq}
use Rattle.std.proofs.lemmas.Int.{ints}
use Rattle.awk_numbers.specs.Folds.{beats}
use Rattle.awk_numbers.specs.declared.extremes.Extreme.{Extreme}
use Rattle.awk_numbers.specs.declared.extremes.Extreme.TheVariants.{Least, Greatest}

pub beats-shift : (how : Extreme) (x y s : ℤ) → beats how (x +ℤ s) (y +ℤ s) ≡ beats how x y
beats-shift Least x y s = grind (arith, ints)
beats-shift Greatest x y s = grind (arith, ints)

pub eq-shift : (x y s : ℤ) → int_eq (x +ℤ s) (y +ℤ s) ≡ int_eq x y
eq-shift x y s = grind (arith, ints)

pub beats_least : (z : ℤ) → FitsSigned w64 z → beats Least (pos 9223372036854775807) z ≡ false
beats_least (pos n) f = grind (arith, ints)
beats_least (negsuc n) f = grind (arith, ints)

pub beats_greatest : (z : ℤ) → FitsSigned w64 z
    → beats Greatest (negsuc 9223372036854775807) z ≡ false
beats_greatest (pos n) f = grind (arith, ints)
beats_greatest (negsuc n) f = grind (arith, ints)
