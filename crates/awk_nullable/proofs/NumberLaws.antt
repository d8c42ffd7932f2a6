-- The numbers of a span of items, one item more.
use Rattle.std.proofs.Common.{◌≡◌, ℕ, zero, suc, ◌+◌, ◌≤◌, List, []}
use Rattle.std.proofs.Common.{◌∷◌, ◌++◌, map, length, arith, refl, ap, ap₂, sym, ◌∙◌}
use Rattle.std.specs.Prelude.{ℤ, Option, Some, None}
use Rattle.std.specs.List.{range_with_len, flat_map}
use Rattle.std.proofs.lemmas.Grind.{flat_map-append}
use Rattle.std.proofs.lemmas.List.{append-nil, append_assoc, length-append}
use Rattle.std.proofs.lemmas.List.Folds.{flat_map-map}
use Rattle.std.proofs.lemmas.List.FromFn.{map-range_with_len_more}
use Rattle.awk_nullable.specs.Numbers.{number_list, numbers_from}

module _ (g : ℕ → Option ℤ) where
  abbrev here : ℕ → List ℤ
  here i = number_list (g i)

  pub numbers-more : (a n : ℕ)
      → numbers_from g a (n + 1) ≡ numbers_from g a n ++ number_list (g (a + n))
  numbers-more a n =
      sym (flat_map-map here (λ k. k) (range_with_len a (n + 1)))
      ∙ ap (flat_map here) (map-range_with_len_more (λ k. k) a n (a + n) refl)
      ∙ flat_map-append here (map (λ k. k) (range_with_len a n)) ((a + n) ∷ [])
      ∙ ap₂ (λ ks ls. ks ++ ls) (flat_map-map here (λ k. k) (range_with_len a n))
      (append-nil (here (a + n)))

  -- one part of the items after another
  pub numbers-append : (a n m : ℕ)
      → numbers_from g a (n + m) ≡ numbers_from g a n ++ numbers_from g (a + n) m
  numbers-append a zero m =
      let z : 0 + m ≡ m = omega arith in
      let e : a ≡ a + 0 = omega arith in
      ap₂ (numbers_from g) e z
  numbers-append a (suc n) m =
      let s : suc n + m ≡ suc (n + m) = omega arith in
      let e : a + 1 + n ≡ a + suc n = omega arith in
      ap (numbers_from g a) s
      ∙ ap (λ zs. here a ++ zs) (numbers-append (a + 1) n m)
      ∙ sym (append_assoc (here a) (numbers_from g (a + 1) n) (numbers_from g (a + 1 + n) m))
      ∙ ap (λ b. numbers_from g a (suc n) ++ numbers_from g b m) e

  -- no more numbers than items
  pub numbers-few : (a n : ℕ) → length (numbers_from g a n) ≤ n
  numbers-few a zero = omega arith
  numbers-few a (suc n) =
      omega (
        arith,
        length-append (here a) (numbers_from g (a + 1) n),
        one (g a),
        numbers-few (a + 1) n,
      )
    where
      one : (o : Option ℤ) → length (number_list o) ≤ 1
      one None = omega arith
      one (Some z) = omega arith
