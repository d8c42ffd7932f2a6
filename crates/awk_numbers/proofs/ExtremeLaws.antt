-- The first place of the extreme of the numbers that were read so far.
use Rattle.std.proofs.Common.{◌≡◌, ℕ, ◌+◌, ◌<◌, ◌≤◌, ◌⊎◌, inl, inr, List, length, get_or, arith}
use Rattle.std.proofs.Common.{sym, subst, true, false}
use Rattle.std.specs.Prelude.{ℤ, pos, Some}
use Rattle.std.proofs.lemmas.Bool.{cases_lt}
use Rattle.std.proofs.lemmas.Int.{ints}
use Rattle.awk_kernels.proofs.FoldLaws.{least_found, greatest_found}
use Rattle.awk_numbers.specs.Folds.{beats, first_extreme}
use Rattle.awk_numbers.specs.declared.extremes.Extreme.{Extreme}
use Rattle.awk_numbers.specs.declared.extremes.Extreme.TheVariants.{Least, Greatest}

-- a number that none of the first beats, and that beats all before its place
pub record IsFirst (how : Extreme) (xs : List ℤ) (i place : ℕ) (x : ℤ) : Type 0 where
  pub inside : place < length xs
  pub found : get_or xs place (pos 0) ≡ x
  pub before : (k : ℕ) → k < place → beats how x (get_or xs k (pos 0)) ≡ true
  pub bound : (k : ℕ) → k < i → beats how (get_or xs k (pos 0)) x ≡ false

-- a number that beats another beats what does not beat that one, and is not beaten by it
beats-on : (how : Extreme) (x y z : ℤ) → beats how x y ≡ true → beats how z y ≡ false
    → beats how x z ≡ true
beats-on Least x y z p q = grind (arith, ints)
beats-on Greatest x y z p q = grind (arith, ints)

beats-not : (how : Extreme) (x z : ℤ) → beats how x z ≡ true → beats how z x ≡ false
beats-not Least x z p = grind (arith, ints)
beats-not Greatest x z p = grind (arith, ints)

beats-self : (how : Extreme) (x : ℤ) → beats how x x ≡ false
beats-self Least x = grind (arith, ints)
beats-self Greatest x = grind (arith, ints)

-- the first number alone
pub first_alone : (how : Extreme) (xs : List ℤ) (x : ℤ) → 0 < length xs → x ≡ get_or xs 0 (pos 0)
    → IsFirst how xs 0 0 x
first_alone how xs x l e = record {
  inside = l;
  found = sym e;
  before = λ k p. absurd (omega (arith, p));
  bound = λ k p. absurd (omega (arith, p));
}

-- one number more that does not beat the one found
pub first_kept : (how : Extreme) (xs : List ℤ) (i place : ℕ) (x z : ℤ) → z ≡ get_or xs i (pos 0)
    → beats how z x ≡ false → IsFirst how xs i place x → IsFirst how xs (i + 1) place x
first_kept how xs i place x z e b h = record {
  inside = h.inside;
  found = h.found;
  before = h.before;
  bound = λ k p. each k p (cases_lt k i);
}
  where
    each : (k : ℕ) → k < i + 1 → (k < i) ⊎ (i ≤ k) → beats how (get_or xs k (pos 0)) x ≡ false
    each k p (inl l) = h.bound k l
    each k p (inr l) =
        let same : i ≡ k = omega (arith, p, l) in
        subst (λ k. beats how (get_or xs k (pos 0)) x ≡ false) same
        (subst (λ y. beats how y x ≡ false) e b)

-- one number more that beats it
pub first_new : (how : Extreme) (xs : List ℤ) (i place : ℕ) (x z : ℤ) → i < length xs
    → z ≡ get_or xs i (pos 0) → beats how z x ≡ true → IsFirst how xs i place x
    → IsFirst how xs (i + 1) i z
first_new how xs i place x z l e b h = record {
  inside = l;
  found = sym e;
  before = over;
  bound = λ k p. each k p (cases_lt k i);
}
  where
    over : (k : ℕ) → k < i → beats how z (get_or xs k (pos 0)) ≡ true
    over k p = beats-on how z x (get_or xs k (pos 0)) b (h.bound k p)

    each : (k : ℕ) → k < i + 1 → (k < i) ⊎ (i ≤ k) → beats how (get_or xs k (pos 0)) z ≡ false
    each k p (inl m) =
        beats-not how z (get_or xs k (pos 0))
        (beats-on how z x (get_or xs k (pos 0)) b (h.bound k m))
    each k p (inr m) =
        let same : i ≡ k = omega (arith, p, m) in
        subst (λ k. beats how (get_or xs k (pos 0)) z ≡ false) same
        (subst (λ y. beats how y z ≡ false) e (beats-self how z))

-- when all are read, it is the extreme
pub first_found : (how : Extreme) (xs : List ℤ) (i place : ℕ) (x : ℤ) → length xs ≤ i
    → IsFirst how xs i place x → Some place ≡ first_extreme how xs
first_found Least xs i place x l h =
    least_found xs i place x l (record {
      inside = h.inside;
      found = h.found;
      before = λ k p. let f = h.before k p in grind (arith, ints);
      bound = λ k p. let f = h.bound k p in grind (arith, ints);
    })
first_found Greatest xs i place x l h =
    greatest_found xs i place x l (record {
      inside = h.inside;
      found = h.found;
      before = λ k p. let f = h.before k p in grind (arith, ints);
      bound = λ k p. let f = h.bound k p in grind (arith, ints);
    })
