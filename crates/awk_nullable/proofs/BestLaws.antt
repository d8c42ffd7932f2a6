-- The extreme of numbers, one number more.
use Rattle.std.proofs.Common.{◌≡◌, ℕ, ◌+◌, List, [], ◌∷◌, ◌++◌, arith, refl, ap, ◌∙◌}
use Rattle.std.specs.Prelude.{ℤ, true, false, Option, Some, None}
use Rattle.std.specs.Int.{int_min, int_max}
use Rattle.std.specs.List.{fold}
use Rattle.std.specs.Option.{option_map}
use Rattle.std.proofs.lemmas.Int.{ints}
use Rattle.std.proofs.lemmas.List.{append-nil}
use Rattle.std.proofs.lemmas.List.Sums.{fold-append}
use Rattle.awk_lanes.specs.Column.{Column}
use Rattle.awk_lanes.specs.Places.{at}
use Rattle.awk_numbers.specs.Folds.{beats, extreme_of}
use Rattle.awk_numbers.specs.declared.extremes.Extreme.{Extreme}
use Rattle.awk_numbers.specs.declared.extremes.Extreme.TheVariants.{Least, Greatest}
use Rattle.awk_nullable.specs.Numbers.{leaf_number, number_list, numbers_from}
use Rattle.awk_nullable.proofs.NumberLaws.{numbers-more}

abbrev pub choice : Extreme → ℤ → ℤ → ℤ
choice Least y z = int_min y z
choice Greatest y z = int_max y z

same_number : (y z : ℤ) → Some y ≡ Some z → y ≡ z
same_number y z e = cc

pub extreme_more : (how : Extreme) (zs : List ℤ) (y z : ℤ) → extreme_of how zs ≡ Some y
    → extreme_of how (zs ++ z ∷ []) ≡ Some (choice how y z)
extreme_more Least [] y z e = cc
extreme_more Greatest [] y z e = cc
extreme_more Least (x ∷ xs) y z e =
    ap Some (fold-append int_min x xs (z ∷ [])
    ∙ ap (λ a. int_min a z) (same_number (fold int_min x xs) y e))
extreme_more Greatest (x ∷ xs) y z e =
    ap Some (fold-append int_max x xs (z ∷ [])
    ∙ ap (λ a. int_max a z) (same_number (fold int_max x xs) y e))

pub extreme_one : (how : Extreme) (z : ℤ) → extreme_of how (z ∷ []) ≡ Some z
extreme_one Least z = refl
extreme_one Greatest z = refl

pub extreme_empty : (how : Extreme) → extreme_of how [] ≡ None
extreme_empty Least = refl
extreme_empty Greatest = refl

pub chosen_new : (how : Extreme) (y z : ℤ) → beats how z y ≡ true → choice how y z ≡ z
chosen_new Least y z e = grind (arith, ints)
chosen_new Greatest y z e = grind (arith, ints)

pub chosen_old : (how : Extreme) (y z : ℤ) → beats how z y ≡ false → choice how y z ≡ y
chosen_old Least y z e = grind (arith, ints)
chosen_old Greatest y z e = grind (arith, ints)

-- two numbers of which neither beats the other are one
pub beats_none : (how : Extreme) (y z : ℤ) → beats how y z ≡ false → beats how z y ≡ false → y ≡ z
beats_none Least y z e f = grind (arith, ints)
beats_none Greatest y z e f = grind (arith, ints)

-- an item more, that is null
pub numbers_kept : (f : ℕ → Option ℕ) (c : Column) (a i : ℕ) → f (a + i) ≡ None
    → numbers_from (leaf_number f c) a (i + 1) ≡ numbers_from (leaf_number f c) a i
numbers_kept f c a i e =
    numbers-more (leaf_number f c) a i
    ∙ ap (λ o. numbers_from (leaf_number f c) a i ++ number_list (option_map (at c) o)) e
    ∙ append-nil (numbers_from (leaf_number f c) a i)
