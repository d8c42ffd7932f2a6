-- Which lists have a number, by their extremes and by the places of these.
use Rattle.std.proofs.Common.{◌≡◌, ℕ, List, [], ◌∷◌, refl, ap, sym, ◌∙◌}
use Rattle.std.specs.Prelude.{ℤ, pos, cond, Option, Some, None}
use Rattle.std.specs.Option.{is_some, option_and_then}
use Rattle.awk_numbers.specs.Folds.{extreme_of}
use Rattle.awk_numbers.specs.declared.extremes.Extreme.{Extreme}
use Rattle.awk_nullable.specs.Extremes.{extreme_place, number_place}
use Rattle.awk_nullable.specs.Numbers.{numbers_from}
use Rattle.awk_nullable.proofs.BestLaws.{extreme_empty}
use Rattle.awk_nullable.proofs.FirstLaws.{nowhere_empty}
use Rattle.awk_parts.specs.Lanes.{mask_byte, some_place}

-- numbers that have an extreme are some
pub mark_there : (how : Extreme) (zs : List ℤ) (z : ℤ) → extreme_of how zs ≡ Some z
    → pos 1 ≡ mask_byte (some_place zs)
mark_there how [] z e =
    let none : extreme_of how [] ≡ None = extreme_empty how in
    cc
mark_there how (x ∷ zs) z e = refl

pub mark_nowhere : (zs : List ℤ) → zs ≡ [] → pos 0 ≡ mask_byte (some_place zs)
mark_nowhere zs e = sym (ap (λ ws. mask_byte (some_place ws)) e)

-- and so are those of which an extreme has a place
pub place_mark : (how : Extreme) (g : ℕ → Option ℤ) (a n : ℕ)
    → pos (cond (is_some (extreme_place how g a n)) 1 0)
    ≡ mask_byte (some_place (numbers_from g a n))
place_mark how g a n = go (extreme_place how g a n) refl
  where
    there : (k : ℕ) (o : Option ℤ) → extreme_of how (numbers_from g a n) ≡ o
        → option_and_then (number_place g a n) o ≡ Some k
        → pos 1 ≡ mask_byte (some_place (numbers_from g a n))
    there k None p e = cc
    there k (Some z) p e = mark_there how (numbers_from g a n) z p

    go : (o : Option ℕ) → extreme_place how g a n ≡ o
        → pos (cond (is_some o) 1 0) ≡ mask_byte (some_place (numbers_from g a n))
    go None e = mark_nowhere (numbers_from g a n) (nowhere_empty how g a n e)
    go (Some k) e = there k (extreme_of how (numbers_from g a n)) refl e
