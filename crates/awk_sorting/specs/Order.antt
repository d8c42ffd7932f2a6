-- A list in order, by which of two items stands before the other; and the order of numbers that may
-- be lacking.
use Rattle.std.specs.Prelude.{ℕ, nat_lt, ℤ, int_lt, Bool, true, false, not, ◌&&◌, ◌||◌}
use Rattle.std.specs.Prelude.{List, [], ◌∷◌, length, get_or, Option, Some, None, if◌then◌else◌}
use Rattle.std.specs.List.{fold, range_with_len}

-- an item put before the first of others that it stands before
abbrev pub insert_by : {X : Type 0} → (X → X → Bool) → X → List X → List X
insert_by first x [] = x ∷ []
insert_by first x (y ∷ ys) = if first x y then x ∷ y ∷ ys else y ∷ insert_by first x ys

-- the items in order; those of which none stands before the other, as they stand
abbrev pub sort_by : {X : Type 0} → (X → X → Bool) → List X → List X
sort_by first xs = fold (λ ys x. insert_by first x ys) [] xs

-- whether a number comes before another: the less, or the greater where they fall
abbrev pub number_first : Bool → ℤ → ℤ → Bool
number_first up y z = if up then int_lt y z else int_lt z y

-- numbers that rise, or fall
abbrev pub sort_numbers : Bool → List ℤ → List ℤ
sort_numbers up zs = sort_by (number_first up) zs

-- the same of numbers and of none, which comes last
abbrev pub comes_first : Bool → Option ℤ → Option ℤ → Bool
comes_first up None b = false
comes_first up (Some y) None = true
comes_first up (Some y) (Some z) = number_first up y z

-- whether place p stands before place q: by what is there, and where neither comes first the lower
-- place
abbrev pub stands_first : Bool → List (Option ℤ) → ℕ → ℕ → Bool
stands_first up os p q =
    comes_first up (get_or os p None) (get_or os q None)
    || (not (comes_first up (get_or os q None) (get_or os p None)) && nat_lt p q)

-- all places in order
abbrev pub order : Bool → List (Option ℤ) → List ℕ
order up os = sort_by (stands_first up os) (range_with_len 0 (length os))
