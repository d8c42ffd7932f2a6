-- Numbers that rise, pair by pair.
use Rattle.std.proofs.Common.{◌≡◌, ℕ, zero, suc, ◌+◌, ◌≤◌, ◌&&◌, ℤ, true, false, List, [], ◌∷◌}
use Rattle.std.proofs.Common.{drop, length}
use Rattle.std.proofs.Common.{slice_get, Some, int_lt, int_le, refl, ap, sym, ◌∙◌, arith}
use Rattle.awk_base.proofs.Lists.{drop-get}
use Rattle.awk_expr.specs.WholeNumbers.{are_rising}

module _ (zs : List ℤ) (k : ℕ) (a b : ℤ) (at : slice_get zs k ≡ Some a)
    (next : slice_get zs (k + 1) ≡ Some b) where
  pub rising-step : are_rising (drop k zs) ≡ (int_lt a b && are_rising (drop (k + 1) zs))
  rising-step =
      ap are_rising (drop-get zs k a at ∙ ap (λ ys. a ∷ ys) (drop-get zs (k + 1) b next))
      ∙ ap (λ ys. int_lt a b && are_rising ys) (sym (drop-get zs (k + 1) b next))

  not_above : int_le b a ≡ true → int_lt a b ≡ false
  not_above le = grind (arith, le)

  above : int_le b a ≡ false → int_lt a b ≡ true
  above le = grind (arith, le)

  pub rising-broken : int_le b a ≡ true → are_rising (drop k zs) ≡ false
  rising-broken le = rising-step ∙ ap (λ t. t && are_rising (drop (k + 1) zs)) (not_above le)

  pub rising-on : int_le b a ≡ false → are_rising (drop k zs) ≡ are_rising (drop (k + 1) zs)
  rising-on le = rising-step ∙ ap (λ t. t && are_rising (drop (k + 1) zs)) (above le)

-- one number alone, or none
pub rising-end : (zs : List ℤ) (k : ℕ) → length zs ≤ k + 1 → are_rising (drop k zs) ≡ true
rising-end [] zero le = refl
rising-end [] (suc k) le = refl
rising-end (z ∷ []) zero le = refl
rising-end (z ∷ y ∷ ys) zero le = absurd (omega (arith, le))
rising-end (z ∷ zs) (suc k) le = rising-end zs k (omega (arith, le))
