-- Lists of lists joined, and lanes of items of lists as such.
use Rattle.std.specs.Prelude.{◌≡◌, refl, ℕ, zero, suc, ◌+◌, ◌<◌, ◌≤◌, List, [], ◌∷◌, ◌++◌, map}
use Rattle.std.specs.Prelude.{length, get_or, ℤ}
use Rattle.std.specs.List.{range_with_len, flat_map, AllByRecursion}
use Rattle.std.proofs.Common.{arith, ap, ap₂, sym, ◌∙◌}
use Rattle.std.proofs.lemmas.Grind.{flat_map-append}
use Rattle.std.proofs.lemmas.List.{map-append, append-nil}
use Rattle.awk_base.proofs.Ranges.{range-last}
use Rattle.awk_lanes.specs.Counted.{numbers_of_lists}

module _ {X Y Z : Type 0} where
  pub flat-flat : (f : Y → List Z) (g : X → List Y) (xs : List X)
      → flat_map f (flat_map g xs) ≡ flat_map (λ x. flat_map f (g x)) xs
  flat-flat f g [] = refl
  flat-flat f g (x ∷ xs) =
      flat_map-append f (g x) (flat_map g xs)
      ∙ ap (λ ys. flat_map f (g x) ++ ys) (flat-flat f g xs)

  pub map-flat : (f : Y → Z) (g : X → List Y) (xs : List X)
      → map f (flat_map g xs) ≡ flat_map (λ x. map f (g x)) xs
  map-flat f g [] = refl
  map-flat f g (x ∷ xs) =
      map-append f (g x) (flat_map g xs) ∙ ap (λ ys. map f (g x) ++ ys) (map-flat f g xs)

module _ {X Y : Type 0} where
  pub flat-same : (f g : X → List Y) → ((x : X) → f x ≡ g x) → (xs : List X)
      → flat_map f xs ≡ flat_map g xs
  flat-same f g h [] = refl
  flat-same f g h (x ∷ xs) = ap₂ (λ ys zs. ys ++ zs) (h x) (flat-same f g h xs)

  pub map-same : (f g : X → Y) → ((x : X) → f x ≡ g x) → (xs : List X) → map f xs ≡ map g xs
  map-same f g h [] = refl
  map-same f g h (x ∷ xs) = ap₂ (λ y ys. y ∷ ys) (h x) (map-same f g h xs)

  -- the same of all that meet a condition
  pub flat-same-all : (P : X → Type 0) (f g : X → List Y) → ((x : X) → P x → f x ≡ g x)
      → (xs : List X) → AllByRecursion P xs → flat_map f xs ≡ flat_map g xs
  flat-same-all P f g h [] a = refl
  flat-same-all P f g h (x ∷ xs) a =
      ap₂ (λ ys zs. ys ++ zs) (h x a.0) (flat-same-all P f g h xs a.1)

  pub map-same-all : (P : X → Type 0) (f g : X → Y) → ((x : X) → P x → f x ≡ g x)
      → (xs : List X) → AllByRecursion P xs → map f xs ≡ map g xs
  map-same-all P f g h [] a = refl
  map-same-all P f g h (x ∷ xs) a = ap₂ (λ y ys. y ∷ ys) (h x a.0) (map-same-all P f g h xs a.1)

  pub all-map : (P : Y → Type 0) (f : X → Y) (xs : List X) → AllByRecursion (λ x. P (f x)) xs
      → AllByRecursion P (map f xs)
  all-map P f [] a = tt
  all-map P f (x ∷ xs) a = (a.0, all-map P f xs a.1)

  -- by their places
  flat-by_place : (d : X) (f : ℕ → List Y) (g : X → List Y) (xs : List X) (a : ℕ)
      → ((i : ℕ) → i < length xs → f (a + i) ≡ g (get_or xs i d))
      → flat_map f (range_with_len a (length xs)) ≡ flat_map g xs
  flat-by_place d f g [] a h = refl
  flat-by_place d f g (x ∷ xs) a h =
      let e : a ≡ a + 0 = omega arith in
      ap₂ (λ ys zs. ys ++ zs) (ap f e ∙ h 0 (omega arith))
      (flat-by_place d f g xs (a + 1)
      (λ i p. (let e : a + 1 + i ≡ a + suc i = omega arith in ap f e) ∙ h (suc i)
      (omega (arith, p))))

  map-by_place : (d : X) (f : ℕ → Y) (g : X → Y) (xs : List X) (a : ℕ)
      → ((i : ℕ) → i < length xs → f (a + i) ≡ g (get_or xs i d))
      → map f (range_with_len a (length xs)) ≡ map g xs
  map-by_place d f g [] a h = refl
  map-by_place d f g (x ∷ xs) a h =
      let e : a ≡ a + 0 = omega arith in
      ap₂ (λ y ys. y ∷ ys) (ap f e ∙ h 0 (omega arith))
      (map-by_place d f g xs (a + 1)
      (λ i p. (let e : a + 1 + i ≡ a + suc i = omega arith in ap f e) ∙ h (suc i)
      (omega (arith, p))))

  -- the same of all places
  pub flat-in_place : (d : X) (f : ℕ → List Y) (g : X → List Y) (xs : List X)
      → ((i : ℕ) → i < length xs → f i ≡ g (get_or xs i d))
      → flat_map f (range_with_len 0 (length xs)) ≡ flat_map g xs
  flat-in_place d f g xs h =
      flat-by_place d f g xs 0
      (λ i p. (let e : 0 + i ≡ i = omega arith in ap f e) ∙ h i p)

  pub map-in_place : (d : X) (f : ℕ → Y) (g : X → Y) (xs : List X)
      → ((i : ℕ) → i < length xs → f i ≡ g (get_or xs i d))
      → map f (range_with_len 0 (length xs)) ≡ map g xs
  map-in_place d f g xs h =
      map-by_place d f g xs 0
      (λ i p. (let e : 0 + i ≡ i = omega arith in ap f e) ∙ h i p)

module _ {X : Type 0} (P : X → Type 0) where
  pub all-append : (xs ys : List X) → AllByRecursion P xs → AllByRecursion P ys
      → AllByRecursion P (xs ++ ys)
  all-append [] ys a b = b
  all-append (x ∷ xs) ys a b = (a.0, all-append xs ys a.1 b)

  pub all-flat : (g : ℕ → List X) (a n : ℕ)
      → ((k : ℕ) → a ≤ k → k < a + n → AllByRecursion P (g k))
      → AllByRecursion P (flat_map g (range_with_len a n))
  all-flat g a zero h = tt
  all-flat g a (suc n) h =
      all-append (g a) (flat_map g (range_with_len (a + 1) n)) (h a (omega arith) (omega arith))
      (all-flat g (a + 1) n (λ k p q. h k (omega (arith, p)) (omega (arith, q))))

  pub all-at : (d : X) (xs : List X) (i : ℕ) → i < length xs → AllByRecursion P xs
      → P (get_or xs i d)
  all-at d [] i p a = absurd (omega (arith, p))
  all-at d (x ∷ xs) zero p a = a.0
  all-at d (x ∷ xs) (suc i) p a = all-at d xs i (omega (arith, p)) a.1

pub all-more : {X : Type 0} (P Q : X → Type 0) → ((x : X) → P x → Q x) → (xs : List X)
    → AllByRecursion P xs → AllByRecursion Q xs
all-more P Q h [] a = tt
all-more P Q h (x ∷ xs) a = (h x a.0, all-more P Q h xs a.1)

-- ---- over the places of a range

module _ {Y : Type 0} where
  pub flat-same-range : (f g : ℕ → List Y) (a n : ℕ)
      → ((i : ℕ) → a ≤ i → i < a + n → f i ≡ g i)
      → flat_map f (range_with_len a n) ≡ flat_map g (range_with_len a n)
  flat-same-range f g a zero h = refl
  flat-same-range f g a (suc n) h =
      ap₂ (λ xs ys. xs ++ ys) (h a (omega arith) (omega arith))
      (flat-same-range f g (a + 1) n (λ i p q. h i (omega (arith, p)) (omega (arith, q))))

-- the numbers of items of lists, list by list
pub numbers-flat : (m : ℕ → ℕ) (h : ℕ → ℕ → ℤ) (n : ℕ) → numbers_of_lists m h n
    ≡ flat_map (λ i. map (h i) (range_with_len 0 (m i))) (range_with_len 0 n)
numbers-flat m h zero = refl
numbers-flat m h (suc n) =
    ap (λ zs. zs ++ map (h n) (range_with_len 0 (m n))) (numbers-flat m h n)
    ∙ ap (λ zs. flat_map (λ i. map (h i) (range_with_len 0 (m i))) (range_with_len 0 n) ++ zs)
    (sym (append-nil (map (h n) (range_with_len 0 (m n)))))
    ∙ sym (flat_map-append (λ i. map (h i) (range_with_len 0 (m i))) (range_with_len 0 n) (n ∷ []))
    ∙ ap (flat_map (λ i. map (h i) (range_with_len 0 (m i)))) (sym (range-last n))
