-- What stands at places in order: the numbers in order, and then what has none.
use Rattle.std.proofs.Common.{◌≡◌, ℕ, zero, suc, ◌+◌, refl, ap, sym, ◌∙◌, arith}
use Rattle.std.proofs.Common.{List, [], ◌∷◌, ◌++◌, map, length, get_or, replicate}
use Rattle.std.specs.Prelude.{ℤ, Bool, true, false, Option, Some, None, if◌then◌else◌}
use Rattle.std.specs.List.{fold, range_with_len}
use Rattle.std.proofs.lemmas.List.FromFn.{fill_by_all}
use Rattle.awk_sorting.specs.Nulls.{somes, nones}
use Rattle.awk_sorting.specs.Order.{insert_by, sort_by, number_first, sort_numbers}
use Rattle.awk_sorting.specs.Order.{comes_first, stands_first, order}
use Rattle.awk_sorting.proofs.InsertLaws.{map-sort}
use Rattle.awk_sorting.proofs.KeyLaws.{later_first}

-- numbers, and then so many cells without one
abbrev with_nones : List ℤ → ℕ → List (Option ℤ)
with_nones zs k = map (λ z. Some z) zs ++ replicate k None

insert_none : (up : Bool) (zs : List ℤ) (k : ℕ)
    → insert_by (comes_first up) None (with_nones zs k) ≡ with_nones zs (suc k)
insert_none up [] zero = refl
insert_none up [] (suc k) = ap (λ os. None ∷ os) (insert_none up [] k)
insert_none up (z ∷ zs) k = ap (λ os. Some z ∷ os) (insert_none up zs k)

some_step : (b up : Bool) (z y : ℤ) (ys : List ℤ) (k : ℕ)
    → insert_by (comes_first up) (Some z) (with_nones ys k)
    ≡ with_nones (insert_by (number_first up) z ys) k
    → (if b then Some z ∷ Some y ∷ with_nones ys k
    else Some y ∷ insert_by (comes_first up) (Some z) (with_nones ys k))
    ≡ with_nones (if b then z ∷ y ∷ ys else y ∷ insert_by (number_first up) z ys) k
some_step true up z y ys k h = refl
some_step false up z y ys k h = ap (λ os. Some y ∷ os) h

insert_some : (up : Bool) (z : ℤ) (zs : List ℤ) (k : ℕ)
    → insert_by (comes_first up) (Some z) (with_nones zs k)
    ≡ with_nones (insert_by (number_first up) z zs) k
insert_some up z [] zero = refl
insert_some up z [] (suc k) = refl
insert_some up z (y ∷ ys) k = some_step (number_first up z y) up z y ys k (insert_some up z ys k)

parted : (up : Bool) (os : List (Option ℤ)) (zs : List ℤ) (k : ℕ)
    → fold (λ ys x. insert_by (comes_first up) x ys) (with_nones zs k) os
    ≡ with_nones (fold (λ ys x. insert_by (number_first up) x ys) zs (somes os)) (k + nones os)
parted up [] zs k =
    let e : k ≡ k + 0 = omega arith in
    ap (with_nones zs) e
parted up (None ∷ os) zs k =
    let e : suc k + nones os ≡ k + suc (nones os) = omega arith in
    ap (λ l. fold (λ ys x. insert_by (comes_first up) x ys) l os) (insert_none up zs k)
    ∙ parted up os zs (suc k)
    ∙ ap (with_nones (fold (λ ys x. insert_by (number_first up) x ys) zs (somes os))) e
parted up (Some z ∷ os) zs k =
    ap (λ l. fold (λ ys x. insert_by (comes_first up) x ys) l os) (insert_some up z zs k)
    ∙ parted up os (insert_by (number_first up) z zs) k

sorted_parted : (up : Bool) (os : List (Option ℤ))
    → sort_by (comes_first up) os ≡ with_nones (sort_numbers up (somes os)) (nones os)
sorted_parted up os =
    let e : 0 + nones os ≡ nones os = omega arith in
    parted up os [] 0 ∙ ap (with_nones (sort_numbers up (somes os))) e

cells_by_place : (os : List (Option ℤ))
    → map (λ p. get_or os p None) (range_with_len 0 (length os)) ≡ os
cells_by_place os =
    sym (fill_by_all (λ p. get_or os p None) os (length os) None refl (λ k l. refl))

-- the cells at the places in order
pub cells_in_order : (up : Bool) (os : List (Option ℤ))
    → map (λ p. get_or os p None) (order up os)
    ≡ map (λ z. Some z) (sort_numbers up (somes os)) ++ replicate (nones os) None
cells_in_order up os =
    map-sort (stands_first up os) (comes_first up) (λ p. get_or os p None) (length os)
    (λ p q l m.
    later_first (comes_first up (get_or os p None) (get_or os q None))
    (comes_first up (get_or os q None) (get_or os p None)) p q l)
    ∙ ap (sort_by (comes_first up)) (cells_by_place os) ∙ sorted_parted up os

-- each cell has a number or none
pub somes_nones : (os : List (Option ℤ)) → length (somes os) + nones os ≡ length os
somes_nones [] = refl
somes_nones (None ∷ os) = omega (arith, somes_nones os)
somes_nones (Some z ∷ os) = omega (arith, somes_nones os)
