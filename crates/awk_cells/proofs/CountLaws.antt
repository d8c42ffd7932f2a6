-- Bytes that are not 0, counted block by block.
use Rattle.std.proofs.Common.{◌≡◌, ℕ, zero, suc, ◌+◌, ◌*◌, ◌≤◌, List, [], ◌∷◌, length, map}
use Rattle.std.proofs.Common.{take, drop, refl, ap, ap₂, sym, ◌∙◌, arith}
use Rattle.std.specs.Prelude.{◌==◌, ◌+ℤ◌, pos, false, not, cond}
use Rattle.std.specs.List.{sum_by}
use Rattle.std.specs.Simd.{first_chunks}
use Rattle.std.proofs.lemmas.List.{drop-drop}
use Rattle.std.proofs.lemmas.List.Sums.{sum_by-cons, sum_by-take-drop, count_by-le-length}
use Rattle.awk_kernels.specs.Kernels.{count_true, total}
use Rattle.awk_lanes.specs.Numbers.{element}
use Rattle.awk_lanes.specs.declared.kind.Kind.TheVariants.{Bool as Truths}

-- those of the first k blocks of n bytes, and those of the rest
pub count_blocks : (n k : ℕ) (xs : List ℕ)
    → count_true xs ≡ sum_by count_true (first_chunks n k xs) + count_true (drop (k * n) xs)
count_blocks n zero xs =
    let none : zero * n ≡ 0 = grind arith in
    let all : count_true (drop (zero * n) xs) ≡ count_true xs =
    ap (λ m. count_true (drop m xs)) none in
    let nothing : sum_by count_true (first_chunks n zero xs) ≡ 0 = refl in
    omega (arith, all, nothing)
count_blocks n (suc k) xs =
    let first : count_true (take n xs) + count_true (drop n xs) ≡ count_true xs =
    sum_by-take-drop (λ x. cond (not (x == 0)) 1 0) xs n in
    let more = sum_by-cons count_true (take n xs) (first_chunks n k (drop n xs)) in
    let far : n + k * n ≡ suc k * n = omega arith in
    let rest : count_true (drop (k * n) (drop n xs)) ≡ count_true (drop (suc k * n) xs) =
    ap count_true (drop-drop (k * n) n xs) ∙ ap (λ m. count_true (drop m xs)) far in
    omega (arith, first, more, rest, count_blocks n k (drop n xs))

-- no more than there are
pub count_within : (xs : List ℕ) → count_true xs ≤ length xs
count_within xs = count_by-le-length (λ x. not (x == 0)) xs

-- the sum of truth values is how many are true
pub truths_summed : (ns : List ℕ)
    → total (map (λ n. element Truths (pos n)) ns) ≡ pos (count_true ns)
truths_summed [] = refl
truths_summed (n ∷ ns) =
    ap₂ (λ a b. a +ℤ b) (one n) (truths_summed ns)
    ∙ ap pos (sym (sum_by-cons (λ x. cond (not (x == 0)) 1 0) n ns))
  where
    one : (n : ℕ) → element Truths (pos n) ≡ pos (cond (not (n == 0)) 1 0)
    one zero = refl
    one (suc n) =
        let f : (suc n == 0) ≡ false = grind arith in
        ap (λ b. pos (cond (not b) 1 0)) (sym f)
