-- What is sorted by insertion: the same items, and places as the keys that are sorted.
use Rattle.std.proofs.Common.{◌≡◌, ℕ, zero, suc, ◌+◌, ◌<◌, ◌≤◌, refl, ap, sym, ◌∙◌, subst, arith}
use Rattle.std.proofs.Common.{List, [], ◌∷◌, ◌++◌, map, length, append-nil}
use Rattle.std.specs.Prelude.{Bool, true, false, if◌then◌else◌}
use Rattle.std.specs.List.{fold, range_with_len}
use Rattle.std.specs.List.Sorted.{IsPermutation}
use Rattle.std.proofs.lemmas.List.Sorted.{IsPermutation-refl, IsPermutation-trans}
use Rattle.std.proofs.lemmas.List.Sorted.{IsPermutation-cons, IsPermutation-middle}
use Rattle.std.proofs.lemmas.List.Sorted.{IsPermutation-append_left, length_permutation}
use Rattle.awk_sorting.specs.Order.{insert_by, sort_by}

module _ {X : Type 0} (first : X → X → Bool) where
  insert_step : (b : Bool) (x y : X) (ys zs : List X) → IsPermutation (x ∷ ys) zs
      → IsPermutation (x ∷ y ∷ ys) (if b then x ∷ y ∷ ys else y ∷ zs)
  insert_step true x y ys zs h = IsPermutation-refl (x ∷ y ∷ ys)
  insert_step false x y ys zs h =
      IsPermutation-trans (x ∷ y ∷ ys) (y ∷ x ∷ ys) (y ∷ zs) (IsPermutation-middle (x ∷ []) y ys)
      (IsPermutation-cons y (x ∷ ys) zs h)

  pub insert_permutes : (x : X) (ys : List X) → IsPermutation (x ∷ ys) (insert_by first x ys)
  insert_permutes x [] = IsPermutation-refl (x ∷ [])
  insert_permutes x (y ∷ ys) =
      insert_step (first x y) x y ys (insert_by first x ys) (insert_permutes x ys)

  abbrev inserted : List X → List X → List X
  inserted done xs = fold (λ ys x. insert_by first x ys) done xs

  inserted_permutes : (xs done : List X) → IsPermutation (done ++ xs) (inserted done xs)
  inserted_permutes [] done =
      subst (λ l. IsPermutation l done) (sym (append-nil done)) (IsPermutation-refl done)
  inserted_permutes (x ∷ xs) done =
      let next : List X = insert_by first x done in
      IsPermutation-trans (done ++ x ∷ xs) (x ∷ (done ++ xs)) (inserted next xs)
      (IsPermutation-middle done x xs)
      (IsPermutation-trans (x ∷ (done ++ xs)) (next ++ xs) (inserted next xs)
      (IsPermutation-append_left xs (x ∷ done) next (insert_permutes x done))
      (inserted_permutes xs next))

  pub sort_permutes : (xs : List X) → IsPermutation xs (sort_by first xs)
  sort_permutes xs = inserted_permutes xs []

  pub length-sort : (xs : List X) → length (sort_by first xs) ≡ length xs
  length-sort xs = length_permutation xs (sort_by first xs) (sort_permutes xs)

-- ---- places sorted by what stands there

abbrev pub AllBelow : ℕ → List ℕ → Type 0
AllBelow n [] = Unit {0}
AllBelow n (q ∷ qs) = (q < n) × AllBelow n qs

below_more : (n : ℕ) (qs : List ℕ) → AllBelow n qs → AllBelow (n + 1) qs
below_more n [] h = tt
below_more n (q ∷ qs) h = (omega (arith, h.0), below_more n qs h.1)

module _ (first : ℕ → ℕ → Bool) where
  below_step : (b : Bool) (p n q : ℕ) (qs zs : List ℕ) → p < n → q < n → AllBelow n qs
      → AllBelow n zs → AllBelow n (if b then p ∷ q ∷ qs else q ∷ zs)
  below_step true p n q qs zs a b c d = (a, (b, c))
  below_step false p n q qs zs a b c d = (b, d)

  insert_below : (p n : ℕ) (qs : List ℕ) → p < n → AllBelow n qs → AllBelow n (insert_by first p qs)
  insert_below p n [] l h = (l, tt)
  insert_below p n (q ∷ qs) l h =
      below_step (first p q) p n q qs (insert_by first p qs) l h.0 h.1 (insert_below p n qs l h.1)

  inserted_below : (a k n : ℕ) (done : List ℕ) → a + k ≤ n → AllBelow n done
      → AllBelow n (fold (λ ys x. insert_by first x ys) done (range_with_len a k))
  inserted_below a zero n done l h = h
  inserted_below a (suc k) n done l h =
      inserted_below (a + 1) k n (insert_by first a done) (omega (arith, l))
      (insert_below a n done (omega (arith, l)) h)

  -- places that are sorted stay within the range
  pub places_below : (n : ℕ) → AllBelow n (sort_by first (range_with_len 0 n))
  places_below n = inserted_below 0 n n [] (omega arith) tt

module _ {Y : Type 0} (first : ℕ → ℕ → Bool) (lt : Y → Y → Bool) (f : ℕ → Y) where
  insert_same : (b c : Bool) → b ≡ c → (p q : ℕ) (qs zs : List ℕ)
      → map f (if b then p ∷ q ∷ qs else q ∷ zs)
      ≡ (if c then f p ∷ f q ∷ map f qs else f q ∷ map f zs)
  insert_same true true e p q qs zs = refl
  insert_same false false e p q qs zs = refl
  insert_same true false e p q qs zs = cc
  insert_same false true e p q qs zs = cc

  module _ (n : ℕ) (h : (p q : ℕ) → q < p → p < n → first p q ≡ lt (f p) (f q)) where
    map-insert : (p : ℕ) (qs : List ℕ) → p < n → AllBelow p qs
        → map f (insert_by first p qs) ≡ insert_by lt (f p) (map f qs)
    map-insert p [] l b = refl
    map-insert p (q ∷ qs) l b =
        insert_same (first p q) (lt (f p) (f q)) (h p q b.0 l) p q qs (insert_by first p qs)
        ∙ ap (λ zs. if lt (f p) (f q) then f p ∷ f q ∷ map f qs else f q ∷ zs)
        (map-insert p qs l b.1)

    map-inserted : (a k : ℕ) (done : List ℕ) → a + k ≤ n → AllBelow a done
        → map f (fold (λ ys x. insert_by first x ys) done (range_with_len a k))
        ≡ fold (λ ys x. insert_by lt x ys) (map f done) (map f (range_with_len a k))
    map-inserted a zero done l b = refl
    map-inserted a (suc k) done l b =
        map-inserted (a + 1) k (insert_by first a done) (omega (arith, l))
        (insert_below first a (a + 1) done (omega arith) (below_more a done b))
        ∙ ap (λ ys. fold (λ ys x. insert_by lt x ys) ys (map f (range_with_len (a + 1) k)))
        (map-insert a done (omega (arith, l)) b)

    -- places sorted, and what stands there sorted: of an earlier place and a later one the first
    -- test tells what the second one tells of what stands there
    pub map-sort : map f (sort_by first (range_with_len 0 n))
        ≡ sort_by lt (map f (range_with_len 0 n))
    map-sort = map-inserted 0 n [] (omega arith) tt
