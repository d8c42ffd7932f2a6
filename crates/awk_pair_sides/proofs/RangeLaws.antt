-- Places in a row: what functions give there.
use Rattle.std.proofs.Common.{◌≡◌, ℕ, zero, suc, ◌+◌, ◌<◌, ◌≤◌, Bool, true, false, ◌||◌}
use Rattle.std.proofs.Common.{refl, ap, arith, sym, subst, ◌∙◌}
use Rattle.std.specs.Prelude.{List, [], ◌∷◌, ◌++◌, map, length, nat_le}
use Rattle.std.specs.List.{list_any, list_all, flat_map, range_with_len}
use Rattle.std.proofs.lemmas.List.{length-append, append-nil, map-append, append_assoc}
use Rattle.std.proofs.lemmas.Bool.{and_parts, or_parts}
use Rattle.awk_base.proofs.Ranges.{range-append, range-last}
use Rattle.awk_lanes.specs.Counted.{before}

pub length-range : (a n : ℕ) → length (range_with_len a n) ≡ n
length-range a zero = refl
length-range a (suc n) = ap suc (length-range (a + 1) n)

pub flat-append : {A B : Type 0} (f : A → List B) (xs ys : List A)
    → flat_map f (xs ++ ys) ≡ flat_map f xs ++ flat_map f ys
flat-append f [] ys = refl
flat-append f (x ∷ xs) ys =
    ap (λ zs. f x ++ zs) (flat-append f xs ys)
    ∙ sym (append_assoc (f x) (flat_map f xs) (flat_map f ys))

pub flat-map : {A B C : Type 0} (f : B → List C) (g : A → B) (xs : List A)
    → flat_map f (map g xs) ≡ flat_map (λ x. f (g x)) xs
flat-map f g [] = refl
flat-map f g (x ∷ xs) = ap (λ ys. f (g x) ++ ys) (flat-map f g xs)

-- ---- functions that agree in a range

pub any-in : (p q : ℕ → Bool) (a n : ℕ) → ((i : ℕ) → i < a + n → p i ≡ q i)
    → list_any p (range_with_len a n) ≡ list_any q (range_with_len a n)
any-in p q a zero h = refl
any-in p q a (suc n) h =
    ap (λ b. b || list_any p (range_with_len (a + 1) n)) (h a (omega arith))
    ∙ ap (λ b. q a || b) (any-in p q (a + 1) n (λ i l. h i (omega arith)))

pub map-shift : {A : Type 0} (f : ℕ → A) (a b k : ℕ)
    → map f (range_with_len (a + b) k) ≡ map (λ j. f (a + j)) (range_with_len b k)
map-shift f a b zero = refl
map-shift f a b (suc k) =
    let e : a + b + 1 ≡ a + (b + 1) = omega arith in
    ap (λ ys. f (a + b) ∷ ys)
    (ap (λ c. map f (range_with_len c k)) e ∙ map-shift f a (b + 1) k)

-- ---- sums

pub length-flat : {A : Type 0} (f : ℕ → List A) (n : ℕ)
    → length (flat_map f (range_with_len 0 n)) ≡ before (λ i. length (f i)) n
length-flat f zero = refl
length-flat f (suc n) =
    ap (λ is. length (flat_map f is)) (range-last n)
    ∙ ap length (flat-append f (range_with_len 0 n) (n ∷ []))
    ∙ omega (
      arith,
      length-append (flat_map f (range_with_len 0 n)) (flat_map f (n ∷ [])),
      length-flat f n,
      length-append (f n) [],
    )

-- what stands at all places is what stands in each of consecutive pieces
pub pieces : {A : Type 0} (f : ℕ → A) (m : ℕ → ℕ) (n : ℕ) → map f (range_with_len 0 (before m n))
    ≡ flat_map (λ i. map (λ k. f (before m i + k)) (range_with_len 0 (m i))) (range_with_len 0 n)
pieces f m zero = refl
pieces {A} f m (suc n) =
    let piece : ℕ → List A = λ i. map (λ k. f (before m i + k)) (range_with_len 0 (m i)) in
    let e : 0 + before m n ≡ before m n + 0 = omega arith in
    ap (map f) (range-append 0 (before m n) (m n))
    ∙ map-append f (range_with_len 0 (before m n)) (range_with_len (0 + before m n) (m n))
    ∙ ap (λ ys. ys ++ map f (range_with_len (0 + before m n) (m n))) (pieces f m n)
    ∙ ap (λ b. flat_map piece (range_with_len 0 n) ++ map f (range_with_len b (m n))) e
    ∙ ap (λ ys. flat_map piece (range_with_len 0 n) ++ ys) (map-shift f (before m n) 0 (m n))
    ∙ ap (λ ys. flat_map piece (range_with_len 0 n) ++ ys) (sym (append-nil (piece n)))
    ∙ sym (ap (flat_map piece) (range-last n)
    ∙ flat-append piece (range_with_len 0 n) (n ∷ []))

-- ---- tests of places

pub all_places : (p : ℕ → Bool) (a n : ℕ) → ((i : ℕ) → i < a + n → p i ≡ true)
    → list_all p (range_with_len a n) ≡ true
all_places p a zero h = refl
all_places p a (suc n) h =
    rw (h a (omega arith)) (all_places p (a + 1) n (λ i l. h i (omega arith)))

pub no_place : (p : ℕ → Bool) (a n : ℕ) → ((i : ℕ) → i < a + n → p i ≡ false)
    → list_any p (range_with_len a n) ≡ false
no_place p a zero h = refl
no_place p a (suc n) h =
    rw (h a (omega arith)) (no_place p (a + 1) n (λ i l. h i (omega arith)))

first-or : (P : ℕ → Type 0) (a i : ℕ) (b : Bool) → nat_le (a + 1) i ≡ b → a ≤ i → P a
    → (a + 1 ≤ i → P i) → P i
first-or P a i true e g h k = k (grind (arith, e))
first-or P a i false e g h k = let q : a ≡ i = grind (arith, e, g) in subst P q h

pub place_holds : (p : ℕ → Bool) (a n i : ℕ) → list_all p (range_with_len a n) ≡ true → a ≤ i
    → i < a + n → p i ≡ true
place_holds p a zero i e g l = absurd (omega arith)
place_holds p a (suc n) i e g l =
    let both : (p a ≡ true) × (list_all p (range_with_len (a + 1) n) ≡ true) =
    and_parts (p a) (list_all p (range_with_len (a + 1) n)) e in
    first-or (λ k. p k ≡ true) a i (nat_le (a + 1) i) refl g both.0
    (λ h. place_holds p (a + 1) n i both.1 h (omega arith))

pub place_fails : (p : ℕ → Bool) (a n i : ℕ) → list_any p (range_with_len a n) ≡ false → a ≤ i
    → i < a + n → p i ≡ false
place_fails p a zero i e g l = absurd (omega arith)
place_fails p a (suc n) i e g l =
    let both : (p a ≡ false) × (list_any p (range_with_len (a + 1) n) ≡ false) =
    or_parts (p a) (list_any p (range_with_len (a + 1) n)) e in
    first-or (λ k. p k ≡ false) a i (nat_le (a + 1) i) refl g both.0
    (λ h. place_fails p (a + 1) n i both.1 h (omega arith))

-- a place where it does not hold
pub fails : (p : ℕ → Bool) (n i : ℕ) (b : Bool) → list_all p (range_with_len 0 n) ≡ b → i < n
    → p i ≡ false → b ≡ false
fails p n i true e l f =
    let g : p i ≡ true = place_holds p 0 n i e (omega arith) (omega arith) in cc
fails p n i false e l f = refl
