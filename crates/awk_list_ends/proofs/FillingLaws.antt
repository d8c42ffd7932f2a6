-- Lists that fill a content.
use Rattle.std.specs.Prelude.{◌≡◌, ℕ, zero, suc, ◌+◌, ◌<◌, ◌≤◌, refl}
use Rattle.std.proofs.Common.{arith, ap, sym, ◌∙◌, subst, ◌⊎◌, inl, inr}
use Rattle.std.proofs.lemmas.Bool.{cases_lt}
use Rattle.awk_types.specs.Value.{Value, value_list}
use Rattle.awk_lanes.specs.Column.{Column}
use Rattle.awk_lanes.specs.Counted.{before}
use Rattle.awk_lanes.specs.Places.{place_at}
use Rattle.awk_layout.specs.Item.{run}
use Rattle.awk_columns.specs.Lists.{span_length}

-- one list more that lies where those before it end
pub full_more : (s t : Column) (i place : ℕ)
    → ((k : ℕ) → k < i → 0 < span_length s t k → place_at s k ≡ before (span_length s t) k)
    → place ≡ before (span_length s t) i → (0 < span_length s t i → place ≡ place_at s i)
    → (k : ℕ) → k < i + 1 → 0 < span_length s t k → place_at s k ≡ before (span_length s t) k
full_more s t i place h e f k l q = earlier_or_last (cases_lt k i)
  where
    earlier_or_last : (k < i) ⊎ (i ≤ k) → place_at s k ≡ before (span_length s t) k
    earlier_or_last (inl p) = h k p q
    earlier_or_last (inr p) =
        let same : i ≡ k = omega (arith, l, p) in
        subst (λ n. 0 < span_length s t n → place_at s n ≡ before (span_length s t) n) same
        (λ more. sym (f more) ∙ e) q

-- a run of no items begins anywhere
pub run_from : (g : ℕ → Value) (a b n : ℕ) → (0 < n → a ≡ b)
    → value_list (run g a n) ≡ value_list (run g b n)
run_from g a b zero e = refl
run_from g a b (suc n) e = ap (λ k. value_list (run g k (suc n))) (e (omega arith))
