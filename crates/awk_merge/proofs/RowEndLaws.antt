-- The ends of the lists of each row, made row by row.
use Rattle.std.proofs.Common.{◌≡◌, ◌∙◌, ◌+◌, ◌*◌, ◌<◌, ℕ, zero, suc, ◌++◌, map, Option}
use Rattle.std.proofs.Common.{ap, ap₂, sym, refl, arith}
use Rattle.std.specs.Prelude.{ℤ, pos}
use Rattle.std.specs.List.{range_with_len}
use Rattle.std.proofs.lemmas.List.{map-append}
use Rattle.std.proofs.lemmas.List.FromFn.{fill_by_all, length-map-range_with_len}
use Rattle.std.proofs.lemmas.List.FromFn.{get_or-map-range_with_len}
use Rattle.std.proofs.lemmas.Nat.{div-mul-add, mod-mul-add}
use Rattle.awk_base.proofs.Ranges.{range-append}
use Rattle.awk_lanes.specs.Column.{Column}
use Rattle.awk_lanes.specs.Counted.{items_lane, numbers_of_lists}
use Rattle.awk_lanes.specs.Places.{size_of, option_place_at}
use Rattle.awk_lanes.specs.declared.kind.Kind.TheVariants.{I64}
use Rattle.awk_merge_operands.specs.Operands.{end_of_row, end_in_rows, ends_in_rows}

-- so many numbers, seen from another place on
from_zero : (f g : ℕ → ℤ) (a k : ℕ) → ((j : ℕ) → j < k → f (a + j) ≡ g j)
    → map f (range_with_len a k) ≡ map g (range_with_len 0 k)
from_zero f g a k e =
    fill_by_all g (map f (range_with_len a k)) k (pos 0) (length-map-range_with_len f a k)
    (λ j l. get_or-map-range_with_len f a k j (a + j) (pos 0) l refl ∙ e j l)

-- k numbers for each of n lists, as numbers by their places
blocks : (k : ℕ) (h : ℕ → ℕ → ℤ) (f : ℕ → ℤ)
    → ((i j : ℕ) → j < k → f (i * k + j) ≡ h i j) → (n : ℕ)
    → numbers_of_lists (λ _. k) h n ≡ map f (range_with_len 0 (n * k))
blocks k h f e zero =
    let w : 0 ≡ 0 * k = omega arith in ap (λ m. map f (range_with_len 0 m)) w
blocks k h f e (suc n) =
    let w : n * k + k ≡ suc n * k = grind arith in
    let z : 0 + n * k ≡ n * k = omega arith in
    ap₂ (λ xs ys. xs ++ ys) (blocks k h f e n)
    (sym (from_zero f (h n) (n * k) k (λ j l. e n j l))
    ∙ ap (λ a. map f (range_with_len a k)) (sym z))
    ∙ sym (map-append f (range_with_len 0 (n * k)) (range_with_len (0 + n * k) k))
    ∙ ap (map f) (sym (range-append 0 (n * k) k))
    ∙ ap (λ m. map f (range_with_len 0 m)) w

-- the ends of the lists of each row, as one lane
pub row-ends : (index : Option Column) (k : ℕ) (rows ends : Column)
    → items_lane I64 (λ _. k)
    (λ i j. end_of_row index (size_of rows) ends j (option_place_at rows i)) (size_of rows)
    ≡ ends_in_rows index rows k ends
row-ends index k rows ends =
    ap (λ zs. record { kind = I64; items = zs })
    (blocks k (λ i j. end_of_row index (size_of rows) ends j (option_place_at rows i))
    (end_in_rows index rows k ends)
    (λ i j q. ap₂ (λ a b. end_of_row index (size_of rows) ends b (option_place_at rows a))
    (div-mul-add i k j q) (mod-mul-add i k j q)) (size_of rows))
