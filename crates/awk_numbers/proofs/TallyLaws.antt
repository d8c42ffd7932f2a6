-- What a count of numbers that are not 0 tells of some and of all.
use Rattle.std.proofs.Common.{◌≡◌, ℕ, zero, suc, ◌+◌, ◌≤◌, List, [], ◌∷◌, length, map, refl}
use Rattle.std.proofs.Common.{ap, ap₂, sym, ◌∙◌, arith}
use Rattle.std.specs.Prelude.{ℤ, pos, Bool, true, false, not, cond, nat_lt, ◌==◌, ◌||◌, ◌&&◌}
use Rattle.std.specs.List.{count_by, list_any, list_all}
use Rattle.std.proofs.lemmas.List.Sums.{sum_by-cons, count_by-le-length}
use Rattle.awk_lanes.specs.Numbers.{element, is_nonzero}
use Rattle.awk_lanes.specs.declared.kind.Kind.TheVariants.{Bool as Truths}
use Rattle.awk_kernels.specs.Kernels.{count_true}

count_first : (z : ℤ) (zs : List ℤ)
    → count_by is_nonzero (z ∷ zs) ≡ cond (is_nonzero z) 1 0 + count_by is_nonzero zs
count_first z zs = sum_by-cons (λ z. cond (is_nonzero z) 1 0) z zs

pub any_counted : (zs : List ℤ) → nat_lt 0 (count_by is_nonzero zs) ≡ list_any is_nonzero zs
any_counted [] = refl
any_counted (z ∷ zs) = ap (nat_lt 0) (count_first z zs) ∙ go (is_nonzero z) (any_counted zs)
  where
    go : (b : Bool) → nat_lt 0 (count_by is_nonzero zs) ≡ list_any is_nonzero zs
        → nat_lt 0 (cond b 1 0 + count_by is_nonzero zs) ≡ (b || list_any is_nonzero zs)
    go true h = grind arith
    go false h =
        let e : 0 + count_by is_nonzero zs ≡ count_by is_nonzero zs = omega arith in
        ap (nat_lt 0) e ∙ h

pub all_counted : (zs : List ℤ) → (count_by is_nonzero zs == length zs) ≡ list_all is_nonzero zs
all_counted [] = refl
all_counted (z ∷ zs) =
    ap (λ n. n == length (z ∷ zs)) (count_first z zs)
    ∙ go (is_nonzero z) (all_counted zs) (count_by-le-length is_nonzero zs)
  where
    go : (b : Bool) → (count_by is_nonzero zs == length zs) ≡ list_all is_nonzero zs
        → count_by is_nonzero zs ≤ length zs
        → ((cond b 1 0 + count_by is_nonzero zs) == suc (length zs))
        ≡ (b && list_all is_nonzero zs)
    go true h l = same ∙ h
      where
        same : ((1 + count_by is_nonzero zs) == suc (length zs))
            ≡ (count_by is_nonzero zs == length zs)
        same = grind arith
    go false h l = grind (arith, l)

-- true bytes, counted as numbers
pub truths_counted : (ns : List ℕ)
    → count_true ns ≡ count_by is_nonzero (map (λ n. element Truths (pos n)) ns)
truths_counted [] = refl
truths_counted (n ∷ ns) =
    sum_by-cons (λ x. cond (not (x == 0)) 1 0) n ns
    ∙ ap₂ (λ a b. a + b) (one n) (truths_counted ns)
    ∙ sym (sum_by-cons (λ z. cond (is_nonzero z) 1 0) (element Truths (pos n))
    (map (λ n. element Truths (pos n)) ns))
  where
    one : (n : ℕ)
        → ◌≡◌ {A = ℕ} (cond (not (n == 0)) 1 0) (cond (is_nonzero (element Truths (pos n))) 1 0)
    one zero = refl
    one (suc n) =
        let f : (suc n == 0) ≡ false = grind arith in
        ap (λ b. cond (not b) 1 0) f
