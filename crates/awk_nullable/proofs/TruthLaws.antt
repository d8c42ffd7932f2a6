-- Whether some or all items that are not null are not 0, one item more.
use Rattle.std.proofs.Common.{◌≡◌, ℕ, zero, suc, ◌+◌, ◌-◌, ◌*◌, ◌/◌, ◌<◌, ◌≤◌, ◌⊎◌, inl, inr}
use Rattle.std.proofs.Common.{List, [], ◌∷◌, arith, refl, ap, ap₂, sym, ◌∙◌}
use Rattle.std.proofs.Common.{subst}
use Rattle.std.specs.Prelude.{ℤ, Bool, true, false, not, ◌||◌, ◌&&◌, cond, Option, Some, None}
use Rattle.std.specs.List.{list_any, list_all, count_by}
use Rattle.std.proofs.lemmas.Bool.{cases_lt}
use Rattle.std.proofs.lemmas.List.Folds.{list_any-append, list_all-append}
use Rattle.std.proofs.lemmas.List.Sums.{sum_by-cons}
use Rattle.std.proofs.Math.Bool.{or-true}
use Rattle.awk_lanes.specs.Numbers.{is_nonzero}
use Rattle.awk_nullable.specs.Numbers.{number_list, numbers_from}
use Rattle.awk_nullable.specs.Totals.{is_true_number, is_false}
use Rattle.awk_nullable.proofs.NumberLaws.{numbers-more, numbers-append}

or_false : (b : Bool) → (b || false) ≡ b
or_false true = refl
or_false false = refl

true_one : (o : Option ℤ) → list_any is_nonzero (number_list o) ≡ is_true_number o
true_one None = refl
true_one (Some z) = or_false (is_nonzero z)

module _ (g : ℕ → Option ℤ) (a : ℕ) where
  abbrev any : ℕ → Bool
  any n = list_any is_nonzero (numbers_from g a n)

  abbrev all : ℕ → Bool
  all n = list_all is_nonzero (numbers_from g a n)

  any-more : (n : ℕ) → any (n + 1) ≡ (any n || is_true_number (g (a + n)))
  any-more n =
      ap (list_any is_nonzero) (numbers-more g a n)
      ∙ list_any-append is_nonzero (numbers_from g a n) (number_list (g (a + n)))
      ∙ ap (λ b. any n || b) (true_one (g (a + n)))

  pub none_true : (n : ℕ) → is_true_number (g (a + n)) ≡ false
      → list_any is_nonzero (numbers_from g a n) ≡ false
      → list_any is_nonzero (numbers_from g a (n + 1)) ≡ false
  none_true n e h = any-more n ∙ ap₂ (λ b c. b || c) h e

  -- one item settles it
  pub one_true : (n i : ℕ) → i < n → is_true_number (g (a + i)) ≡ true
      → list_any is_nonzero (numbers_from g a n) ≡ true
  one_true zero i l e = absurd (omega (arith, l))
  one_true (suc n) i l e =
      let m : suc n ≡ n + 1 = omega arith in
      ap any m ∙ any-more n ∙ go (λ k. one_true n i k e) (cases_lt i n)
    where
      go : (i < n → any n ≡ true) → (i < n) ⊎ (n ≤ i)
          → (any n || is_true_number (g (a + n))) ≡ true
      go h (inl k) = ap (λ b. b || is_true_number (g (a + n))) (h k)
      go h (inr k) =
          let same : n ≡ i = omega (arith, l, k) in
          ap (λ j. any n || is_true_number (g (a + j))) same ∙ ap (λ b. any n || b) e
          ∙ or-true (any n)

  -- ---- blocks of items

  abbrev block : ℕ → ℕ → Bool
  block i n = list_all is_nonzero (numbers_from g (a + i) n)

  all-part : (i n : ℕ) → all (i + n) ≡ (all i && block i n)
  all-part i n =
      ap (list_all is_nonzero) (numbers-append g a i n)
      ∙ list_all-append is_nonzero (numbers_from g a i) (numbers_from g (a + i) n)

  pub all-blocks : (i : ℕ) → all (i * 64) ≡ true → block (i * 64) 64 ≡ true
      → all ((i + 1) * 64) ≡ true
  all-blocks i e h =
      let m : (i + 1) * 64 ≡ i * 64 + 64 = omega arith in
      ap all m ∙ all-part (i * 64) 64 ∙ ap₂ (λ b c. b && c) e h

  -- one block settles it
  pub all-end : (n i : ℕ) → i < n / 64 → all (i * 64) ≡ true → block (i * 64) 64 ≡ false
      → all n ≡ false
  all-end n i l e h =
      let m : n ≡ i * 64 + 64 + (n - (i * 64 + 64)) = omega (arith, l) in
      ap all m
      ∙ all-part (i * 64 + 64) (n - (i * 64 + 64))
      ∙ ap (λ b. b && block (i * 64 + 64) (n - (i * 64 + 64)))
      (all-part (i * 64) 64 ∙ ap₂ (λ b c. b && c) e h)

  pub all-last : (n i : ℕ) → i * 64 ≤ n → all (i * 64) ≡ true
      → all n ≡ block (i * 64) (n - i * 64)
  all-last n i l e =
      let m : n ≡ i * 64 + (n - i * 64) = omega (arith, l) in
      ap all m ∙ all-part (i * 64) (n - i * 64)
      ∙ ap (λ b. b && block (i * 64) (n - i * 64)) e

-- ---- zeros

zeros-cons : (z : ℤ) (zs : List ℤ)
    → count_by is_false (z ∷ zs) ≡ cond (is_false z) 1 0 + count_by is_false zs
zeros-cons z zs = sum_by-cons (λ y. cond (is_false y) 1 0) z zs

pub none_zero : (zs : List ℤ) → count_by is_false zs ≡ 0 → list_all is_nonzero zs ≡ true
none_zero [] e = refl
none_zero (z ∷ zs) e = go (is_nonzero z) (none_zero zs) (sym (zeros-cons z zs) ∙ e)
  where
    go : (b : Bool) → (count_by is_false zs ≡ 0 → list_all is_nonzero zs ≡ true)
        → cond (not b) 1 0 + count_by is_false zs ≡ 0 → (b && list_all is_nonzero zs) ≡ true
    go true next e = next (omega (arith, e))
    go false next e = absurd (omega (arith, e))

pub some_zero : (zs : List ℤ) → 0 < count_by is_false zs → list_all is_nonzero zs ≡ false
some_zero [] l = absurd (omega (arith, l))
some_zero (z ∷ zs) l =
    go (is_nonzero z) (some_zero zs) (subst (λ n. 0 < n) (zeros-cons z zs) l)
  where
    go : (b : Bool) → (0 < count_by is_false zs → list_all is_nonzero zs ≡ false)
        → 0 < cond (not b) 1 0 + count_by is_false zs → (b && list_all is_nonzero zs) ≡ false
    go true next l = next (omega (arith, l))
    go false next l = refl
