-- Running sums, and the sum of a part as a difference of two of them.
use Rattle.std.proofs.Common.{◌≡◌, ◌≢◌, ℕ, zero, suc, ◌+◌, ◌-◌, ◌<◌, ◌≤◌, List, [], ◌∷◌}
use Rattle.std.proofs.Common.{length, take, drop, get_or, refl, ap, ap₂, sym, ◌∙◌, arith}
use Rattle.std.specs.Prelude.{ℤ, pos, ◌+ℤ◌, ◌-ℤ◌, Bool, true, false, slice_set, ◌==◌}
use Rattle.std.specs.Prelude.{Option, Some, None, SomeIff, IfSome, FitsSigned}
use Rattle.std.specs.Int.{w64}
use Rattle.std.specs.List.{slice_range}
use Rattle.std.proofs.lemmas.Int.{ints}
use Rattle.std.proofs.lemmas.Grind.{get_or-set_at}
use Rattle.std.proofs.lemmas.List.{drop-drop, take-take, get_or-set_other}
use Rattle.awk_kernels.specs.Kernels.{total}
use Rattle.awk_parts.specs.Windows.{AreSums}

total-take-none : (n : ℕ) → total (take n []) ≡ pos 0
total-take-none zero = refl
total-take-none (suc n) = refl

-- the sum of some numbers and those after them
total-take-add : (m n : ℕ) (zs : List ℤ)
    → total (take (m + n) zs) ≡ total (take m zs) +ℤ total (take n (drop m zs))
total-take-add zero n zs =
    let k : 0 + n ≡ n = omega arith in
    let e = ap (λ k. total (take k zs)) k in
    omega (arith, ints, e)
total-take-add (suc m) zero [] = omega (arith, ints, total-take-none (suc m + 0))
total-take-add (suc m) (suc n) [] = omega (arith, ints, total-take-none (suc m + suc n))
total-take-add (suc m) n (z ∷ zs) =
    let k : suc m + n ≡ suc (m + n) = omega arith in
    let e = ap (λ k. total (take k (z ∷ zs))) k in
    omega (arith, ints, total-take-add m n zs, e)

-- a part is a difference of two sums of numbers from a place on
total_between : (zs : List ℤ) (first a b : ℕ) → first ≤ a → a ≤ b
    → total (take (b - first) (drop first zs)) -ℤ total (take (a - first) (drop first zs))
    ≡ total (slice_range zs a b)
total_between zs first a b p q =
    let n : b - first ≡ (a - first) + (b - a) = omega arith in
    let e = ap (λ k. total (take k (drop first zs))) n in
    let h = total-take-add (a - first) (b - a) (drop first zs) in
    let d : drop (a - first) (drop first zs) ≡ drop a zs =
    drop-drop (a - first) first zs ∙ ap (λ k. drop k zs) (omega arith) in
    let t = ap (λ ys. total (take (b - a) ys)) d in
    omega (arith, ints, e, h, t)

pub sum_read : (zs : List ℤ) (first a b : ℕ) (x y : ℤ) (o : Option ℤ) → first ≤ a → a ≤ b
    → x ≡ total (take (b - first) (drop first zs)) → y ≡ total (take (a - first) (drop first zs))
    → SomeIff o (FitsSigned w64 (x -ℤ y)) (x -ℤ y)
    → IfSome o (λ z. z ≡ total (slice_range zs a b))
sum_read zs first a b x y None p q e f h = tt
sum_read zs first a b x y (Some z) p q e f h =
    h.1 ∙ ap₂ (λ x y. x -ℤ y) e f ∙ total_between zs first a b p q

-- sums of the numbers of a part are those of the numbers from its start on
pub sums_from : (zs : List ℤ) (a b n : ℕ) (sums : List ℤ) → n ≤ (b - a) + 1
    → AreSums (slice_range zs a b) n sums → AreSums (drop a zs) n sums
sums_from zs a b n sums l h k m =
    h k m ∙ ap total (take-take k (b - a) (drop a zs) (omega (arith, l, m)))

-- one sum more
pub sums_more : (zs : List ℤ) (i : ℕ) (z : ℤ) (out : List ℤ) → i + 1 < length out
    → z ≡ total (take (i + 1) zs) → AreSums zs (i + 1) out
    → AreSums zs (i + 1 + 1) (slice_set out (i + 1) z)
sums_more zs i z out l e h k m = by (k == i + 1) refl
  where
    by : (b : Bool) → (k == i + 1) ≡ b
        → get_or (slice_set out (i + 1) z) k (pos 0) ≡ total (take k zs)
    by true t =
        let d : k ≡ i + 1 = grind arith in
        get_or-set_at out (i + 1) k z (pos 0) d l ∙ e ∙ ap (λ n. total (take n zs)) (sym d)
    by false t =
        let d : k ≢ i + 1 = λ g. grind arith in
        get_or-set_other out (i + 1) k z (pos 0) d ∙ h k (omega arith)
