-- What the kernels answer, over lists of whole numbers.
use Rattle.std.specs.Prelude.{ℕ, ◌+◌, nat_le, ℤ, pos, Bool, not, ◌&&◌, ◌||◌, int_lt, int_le}
use Rattle.std.specs.Prelude.{◌==◌, ◌+ℤ◌, cond, List, [], ◌∷◌, map, get_or, position}
use Rattle.std.specs.Prelude.{Option, Some, None, Result, Ok, Err}
use Rattle.std.specs.Ordering.{int_eq}
use Rattle.std.specs.Int.{int_min, int_max, from_bool}
use Rattle.std.specs.Option.{option_and_then}
use Rattle.std.specs.List.{zip, reduce, count_by}
use Rattle.awk_kernels.specs.declared.operation.Arith.{Arith}
use Rattle.awk_kernels.specs.declared.operation.Compare.{Compare}
use Rattle.awk_kernels.specs.declared.operation.Why.{Why}
use Rattle.awk_kernels.specs.declared.operation.Broken.{Broken}
use Rattle.std.specs.Simd.Lanes.{zip2}
use Rattle.awk_kernels.specs.Operations.{leaf, holds}

-- the list from start below stop is not empty, and ends before it starts or starts below 0
abbrev pub is_out_of_order : ℤ × ℤ → Bool
is_out_of_order (start, stop) =
    not (int_eq start stop) && (int_lt stop start || int_lt start (pos 0))

-- the first place whose list is out of order
abbrev pub first_out_of_order : List ℤ → List ℤ → Option ℕ
first_out_of_order starts stops = position is_out_of_order (zip starts stops)

-- the number is less than lo or not less than hi
abbrev pub is_outside : ℤ → ℤ → ℤ → Bool
is_outside lo hi x = int_lt x lo || int_le hi x

-- the first place of a number that is outside
abbrev pub first_outside : List ℤ → ℤ → ℤ → Option ℕ
first_outside xs lo hi = position (is_outside lo hi) xs

-- the greatest number, or none of none
abbrev pub greatest : List ℤ → Option ℤ
greatest xs = reduce int_max xs

-- the running sums of numbers after a first sum
abbrev pub running_sums : ℕ → List ℕ → List ℕ
running_sums sum [] = []
running_sums sum (x ∷ xs) = (sum + x) ∷ running_sums (sum + x) xs

-- a sum that does not fit a u64
abbrev pub is_past : ℕ → Bool
is_past sum = nat_le 18446744073709551616 sum

-- the first place whose running sum does not fit
abbrev pub first_past : List ℕ → Option ℕ
first_past xs = position is_past (running_sums 0 xs)

-- 0 and the running sums
abbrev pub prefix_sums : List ℕ → List ℕ
prefix_sums xs = 0 ∷ running_sums 0 xs

-- the items at places
abbrev pub gathered : List ℤ → List ℕ → List ℤ
gathered xs places = map (λ k. get_or xs k (pos 0)) places

-- the first place, counted from i, that has no result
abbrev pub first_broken_from : {C : Type 0} → ℕ → List (Result C Why) → Option Broken
first_broken_from i [] = None
first_broken_from i (Ok z ∷ leaves) = first_broken_from (i + 1) leaves
first_broken_from i (Err why ∷ leaves) = Some (record { place = i; why = why })

abbrev pub first_broken : {C : Type 0} → List (Result C Why) → Option Broken
first_broken leaves = first_broken_from 0 leaves

-- the result at each place, or why there is none
abbrev pub leaves : Arith → ℤ → ℤ → List ℤ → List ℤ → List (Result ℤ Why)
leaves op lo hi xs ys = zip2 (leaf op lo hi) xs ys

-- the same of numbers that are not below 0
abbrev pub nat_leaves : Arith → ℕ → List ℕ → List ℕ → List (Result ℤ Why)
nat_leaves op hi xs ys = leaves op (pos 0) (pos hi) (map pos xs) (map pos ys)

-- 1 where the comparison holds, else 0
abbrev pub compared : Compare → List ℤ → List ℤ → List ℕ
compared how xs ys = zip2 (λ x y. from_bool (holds how x y)) xs ys

-- the item of xs where the mask is not 0, else that of ys
abbrev pub chosen : {A : Type 0} → List ℕ → List A → List A → List A
chosen mask xs ys = zip2 (λ m p. cond (m == 0) p.1 p.0) mask (zip xs ys)

-- how many bytes are not 0
abbrev pub count_true : List ℕ → ℕ
count_true xs = count_by (λ x. not (x == 0)) xs

-- the exact sum
abbrev pub total : List ℤ → ℤ
total [] = pos 0
total (x ∷ xs) = x +ℤ total xs

-- the first place of the number that a choice between two leaves over, or none of none
abbrev pub first_by : (ℤ → ℤ → ℤ) → List ℤ → Option ℕ
first_by choice xs = option_and_then (λ x. position (int_eq x) xs) (reduce choice xs)

abbrev pub first_least : List ℤ → Option ℕ
first_least xs = first_by int_min xs

abbrev pub first_greatest : List ℤ → Option ℕ
first_greatest xs = first_by int_max xs
