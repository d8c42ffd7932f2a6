-- The first least and the first greatest of the first numbers, number by number.
use Rattle.std.proofs.Common.{◌≡◌, ℕ, List, length, get_or, true, false, refl, arith}
use Rattle.std.specs.Prelude.{ℤ, pos, int_lt, ◌<ℤ◌, ◌≤ℤ◌, Some}
use Rattle.std.proofs.lemmas.Int.{ints}
use Rattle.awk_kernels.specs.Kernels.{first_least, first_greatest}
use Rattle.awk_kernels.proofs.FoldLaws.{least_found, greatest_found}
use Rattle.awk_simd.specs.Firsts.{IsFirstLeast, IsFirstGreatest}

below_from : (x y : ℤ) → int_lt x y ≡ true → x <ℤ y
below_from x y t = grind (arith, ints)

within_from : (x y : ℤ) → int_lt y x ≡ false → x ≤ℤ y
within_from x y t = grind (arith, ints)

pub first_least_is : (xs : List ℤ) (place : ℕ) → IsFirstLeast xs (length xs) place
    → Some place ≡ first_least xs
first_least_is xs place h =
    let x = get_or xs place (pos 0) in
    least_found xs (length xs) place x (omega arith)
    (record {
      inside = h.inside;
      found = refl;
      before = λ k q. below_from x (get_or xs k (pos 0)) (h.before k q);
      bound = λ k q. within_from x (get_or xs k (pos 0)) (h.bound k q);
    })

pub first_greatest_is : (xs : List ℤ) (place : ℕ) → IsFirstGreatest xs (length xs) place
    → Some place ≡ first_greatest xs
first_greatest_is xs place h =
    let x = get_or xs place (pos 0) in
    greatest_found xs (length xs) place x (omega arith)
    (record {
      inside = h.inside;
      found = refl;
      before = λ k q. below_from (get_or xs k (pos 0)) x (h.before k q);
      bound = λ k q. within_from (get_or xs k (pos 0)) x (h.bound k q);
    })
