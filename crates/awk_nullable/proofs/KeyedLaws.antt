-- The key of the extreme of numbers, one item more.
use Rattle.std.proofs.Common.{◌≡◌, ℕ, ◌+◌, ◌<◌, List, [], ◌∷◌, ◌++◌, refl, ap, sym, ◌∙◌, subst}
use Rattle.std.specs.Prelude.{ℤ, ◌+ℤ◌, Bool, true, false, ◌||◌, Option, Some, None, FitsSigned}
use Rattle.std.specs.Prelude.{if◌then◌else◌}
use Rattle.std.specs.Int.{w64}
use Rattle.std.specs.Option.{option_map}
use Rattle.awk_lanes.specs.Column.{Column}
use Rattle.awk_lanes.specs.Places.{size_of, at}
use Rattle.awk_numbers.specs.Folds.{beats, extreme_of}
use Rattle.awk_numbers.specs.declared.extremes.Extreme.{Extreme}
use Rattle.awk_nullable.specs.Extremes.{better_key, leaf_key, next_found}
use Rattle.awk_nullable.specs.Extremes.{IsWorst, IsExtremeKey, IsFoundKey, IsFound}
use Rattle.awk_nullable.specs.Numbers.{leaf_number, number_list, numbers_from}
use Rattle.awk_nullable.specs.declared.keys.Found.{Found}
use Rattle.awk_nullable.proofs.BestLaws.{choice, extreme_more, extreme_one, chosen_new}
use Rattle.awk_nullable.proofs.BestLaws.{chosen_old, beats_none, numbers_kept}
use Rattle.awk_nullable.proofs.KeyLaws.{beats-shift}
use Rattle.awk_nullable.proofs.NumberLaws.{numbers-more}

module _ (how : Extreme) (f : ℕ → Option ℕ) (c : Column) (s worst : ℤ) (a i : ℕ) where
  abbrev zs : List ℤ
  zs = numbers_from (leaf_number f c) a i

  abbrev more : List ℤ
  more = numbers_from (leaf_number f c) a (i + 1)

  -- a null, which no key is beaten by
  past_null : (old : ℤ) (some : Bool) → beats how worst old ≡ false → f (a + i) ≡ None
      → IsFoundKey how c s worst zs old some
      → IsFoundKey how c s worst more (better_key how old worst) (some || false)
  past_null old true t e h = (
    h.0,
    h.1,
    ap (extreme_of how) (numbers_kept f c a i e) ∙ h.2,
    ap (λ b. if b then worst else old) t ∙ h.3,
  )
  past_null old false t e h =
      (numbers_kept f c a i e ∙ h.0, ap (λ b. if b then worst else old) t ∙ h.1)

  module _ (k : ℕ) (l : k < size_of c) (e : f (a + i) ≡ Some k) where
    numbers_new : more ≡ zs ++ at c k ∷ []
    numbers_new = numbers-more (leaf_number f c) a i
        ∙ ap (λ o. zs ++ number_list (option_map (at c) o)) e

    -- one number more
    past_number : (old : ℤ) → IsExtremeKey how c s zs (Some old)
        → IsExtremeKey how c s more (Some (better_key how old (at c k +ℤ s)))
    past_number old h = go (beats how (at c k +ℤ s) old) refl
      where
        new : extreme_of how more ≡ Some (choice how (at c h.0) (at c k))
        new =
            ap (extreme_of how) numbers_new ∙ extreme_more how zs (at c h.0) (at c k) h.2

        same : beats how (at c k) (at c h.0) ≡ beats how (at c k +ℤ s) old
        same = sym (beats-shift how (at c k) (at c h.0) s) ∙ ap (beats how (at c k +ℤ s)) (sym h.3)

        go : (b : Bool) → beats how (at c k +ℤ s) old ≡ b
            → IsExtremeKey how c s more (Some (if b then at c k +ℤ s else old))
        go true t = (k, l, new ∙ ap Some (chosen_new how (at c h.0) (at c k) (same ∙ t)), refl)
        go false t = (h.0, h.1, new ∙ ap Some (chosen_old how (at c h.0) (at c k) (same ∙ t)), h.3)

    -- the first number
    first_number : zs ≡ [] → beats how worst (at c k +ℤ s) ≡ false
        → IsExtremeKey how c s more (Some (better_key how worst (at c k +ℤ s)))
    first_number h t = (k, l, alone, go (beats how (at c k +ℤ s) worst) refl)
      where
        alone : extreme_of how more ≡ Some (at c k)
        alone = ap (extreme_of how) (numbers_new ∙ ap (λ ys. ys ++ at c k ∷ []) h)
            ∙ extreme_one how (at c k)

        go : (b : Bool) → beats how (at c k +ℤ s) worst ≡ b
            → (if b then at c k +ℤ s else worst) ≡ at c k +ℤ s
        go true u = refl
        go false u = beats_none how worst (at c k +ℤ s) t u

    past_some : (old : ℤ) (some : Bool) → beats how worst (at c k +ℤ s) ≡ false
        → IsFoundKey how c s worst zs old some
        → IsFoundKey how c s worst more (better_key how old (at c k +ℤ s)) (some || true)
    past_some old true t h = past_number old h
    past_some old false t h =
        subst (λ y. IsExtremeKey how c s more (Some (better_key how y (at c k +ℤ s)))) (sym h.1)
        (first_number h.0 t)

  module _ (old : Found) (w : IsWorst how worst) (fits : FitsSigned w64 old.key)
      (h : IsFound how c s worst zs old) where
    abbrev IsNext : Option ℕ → Type 0
    IsNext o = IsFound how c s worst more
        (next_found how worst old (option_map (λ k. at c k +ℤ s) o))

    pub found_more : ((k : ℕ) → f (a + i) ≡ Some k → k < size_of c)
        → ((z : ℤ) → leaf_key f c s (a + i) ≡ Some z → FitsSigned w64 z) → IsNext (f (a + i))
    found_more leads near = go (f (a + i)) refl
      where
        go : (o : Option ℕ) → f (a + i) ≡ o → IsNext (f (a + i))
        go None e = subst IsNext (sym e) (past_null old.key old.some (w old.key fits) e h)
        go (Some k) e =
            subst IsNext (sym e)
            (past_some k (leads k e) e old.key old.some
            (w (at c k +ℤ s) (near (at c k +ℤ s) (ap (option_map (λ q. at c q +ℤ s)) e))) h)
