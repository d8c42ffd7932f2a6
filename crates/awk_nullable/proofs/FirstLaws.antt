-- An extreme has a first item.
use Rattle.std.proofs.Common.{◌≡◌, ℕ, suc, zero, ◌+◌, List, [], ◌∷◌, ◌++◌, arith, refl}
use Rattle.std.proofs.Common.{ap, ap₂, sym, subst, ◌∙◌}
use Rattle.std.specs.Prelude.{ℤ, Bool, true, false, cond, Option, Some, None}
use Rattle.std.specs.Option.{option_and_then}
use Rattle.std.proofs.lemmas.List.{append-nil}
use Rattle.awk_base.proofs.Truths.{int_eq-refl}
use Rattle.awk_numbers.specs.Folds.{beats, extreme_of}
use Rattle.awk_numbers.specs.declared.extremes.Extreme.{Extreme}
use Rattle.awk_numbers.specs.declared.extremes.Extreme.TheVariants.{Least, Greatest}
use Rattle.awk_nullable.specs.Extremes.{extreme_place, number_place}
use Rattle.awk_nullable.specs.Numbers.{number_list, numbers_from}
use Rattle.awk_nullable.proofs.BestLaws.{choice, chosen_new, chosen_old, extreme_empty}
use Rattle.awk_nullable.proofs.BestLaws.{extreme_more, extreme_one}
use Rattle.awk_nullable.proofs.FindLaws.{earlier, found, place-more}
use Rattle.awk_nullable.proofs.NumberLaws.{numbers-more}

same : (y z : ℤ) → Some y ≡ Some z → y ≡ z
same y z e = cc

-- no extreme is one of no numbers
pub none_empty : (how : Extreme) (zs : List ℤ) → extreme_of how zs ≡ None → zs ≡ []
none_empty how [] e = refl
none_empty Least (z ∷ zs) e = cc
none_empty Greatest (z ∷ zs) e = cc

module _ (how : Extreme) (g : ℕ → Option ℤ) (a : ℕ) where
  abbrev HasPlace : ℕ → ℤ → Type 0
  HasPlace n z = (k : ℕ) × (number_place g a n z ≡ Some k)

  -- one item more
  kept : (n : ℕ) (z : ℤ) → HasPlace n z → HasPlace (n + 1) z
  kept n z h = (h.0, place-more g z a n ∙ ap (λ o. earlier o (found z n (g (a + n)))) h.1)

  -- the last item
  last : (n : ℕ) (z : ℤ) → g (a + n) ≡ Some z → HasPlace (n + 1) z
  last n z e = go (number_place g a n z) refl
    where
      go : (o : Option ℕ) → number_place g a n z ≡ o → HasPlace (n + 1) z
      go None p = (
        n,
        place-more g z a n ∙ ap₂ earlier p
            (ap (found z n) e ∙ ap (λ b. cond b (Some n) None) (int_eq-refl z)),
      )
      go (Some k) p = kept n z (k, p)

  -- where the extreme of n items has a place, so has that of one more
  module _ (n : ℕ)
      (before : (x : ℤ) → extreme_of how (numbers_from g a n) ≡ Some x → HasPlace n x) where
    abbrev zs : List ℤ
    zs = numbers_from g a n

    longer : (o : Option ℤ) → g (a + n) ≡ o → numbers_from g a (n + 1) ≡ zs ++ number_list o
    longer o p = numbers-more g a n ∙ ap (λ w. zs ++ number_list w) p

    by_choice : (x y : ℤ) (b : Bool) → beats how y x ≡ b → g (a + n) ≡ Some y
        → extreme_of how zs ≡ Some x → HasPlace (n + 1) (choice how x y)
    by_choice x y true t p q = subst (HasPlace (n + 1)) (sym (chosen_new how x y t)) (last n y p)
    by_choice x y false t p q =
        subst (HasPlace (n + 1)) (sym (chosen_old how x y t)) (kept n x (before x q))

    by_extreme : (y z : ℤ) (o : Option ℤ) → extreme_of how zs ≡ o → g (a + n) ≡ Some y
        → extreme_of how (numbers_from g a (n + 1)) ≡ Some z → HasPlace (n + 1) z
    by_extreme y z None q p e =
        let alone : numbers_from g a (n + 1) ≡ y ∷ [] =
        longer (Some y) p ∙ ap (λ ws. ws ++ y ∷ []) (none_empty how zs q) in
        last n z (p ∙ sym (extreme_one how y) ∙ sym (ap (extreme_of how) alone) ∙ e)
    by_extreme y z (Some x) q p e =
        let it : choice how x y ≡ z =
        same (choice how x y) z (sym (extreme_more how zs x y q)
        ∙ sym (ap (extreme_of how) (longer (Some y) p)) ∙ e) in
        subst (HasPlace (n + 1)) it (by_choice x y (beats how y x) refl p q)

    by_item : (z : ℤ) (o : Option ℤ) → g (a + n) ≡ o
        → extreme_of how (numbers_from g a (n + 1)) ≡ Some z → HasPlace (n + 1) z
    by_item z None p e =
        kept n z (before z (sym (ap (extreme_of how) (longer None p ∙ append-nil zs)) ∙ e))
    by_item z (Some y) p e = by_extreme y z (extreme_of how zs) refl p e

  extreme_there : (n : ℕ) (z : ℤ) → extreme_of how (numbers_from g a n) ≡ Some z → HasPlace n z
  extreme_there zero z e =
      let none : extreme_of how [] ≡ None = extreme_empty how in
      cc
  extreme_there (suc n) z e =
      let one : suc n ≡ n + 1 = omega arith in
      subst (λ m. HasPlace m z) (sym one)
      (by_item n (λ x q. extreme_there n x q) z (g (a + n)) refl
      (sym (ap (λ m. extreme_of how (numbers_from g a m)) one) ∙ e))

  -- where none is found, there is no number
  pub nowhere_empty : (n : ℕ) → extreme_place how g a n ≡ None → numbers_from g a n ≡ []
  nowhere_empty n e = go (extreme_of how (numbers_from g a n)) refl
    where
      go : (o : Option ℤ) → extreme_of how (numbers_from g a n) ≡ o → numbers_from g a n ≡ []
      go None p = none_empty how (numbers_from g a n) p
      go (Some z) p =
          let there = extreme_there n z p in
          let some : extreme_place how g a n ≡ Some there.0 =
          ap (option_and_then (number_place g a n)) p ∙ there.1 in
          let both : Some there.0 ≡ None = sym some ∙ e in
          cc
