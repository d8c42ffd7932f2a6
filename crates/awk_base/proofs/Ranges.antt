-- Numbers in a row, and what functions give there.
use Rattle.std.specs.List.{range_with_len, flat_map, slice_range, list_any}
use Rattle.std.proofs.lemmas.List.FromFn.{take-map-range_with_len}
use Rattle.std.proofs.Common.{◌≡◌, ℕ, suc, zero, ◌+◌, ◌-◌, ◌∷◌, ◌++◌, ◌||◌, arith, ap, ◌∙◌, ap₂}
use Rattle.std.proofs.Common.{subst}
use Rattle.std.specs.Prelude.{[], ◌<◌, ◌≤◌, refl, List, map, take, drop, nat_lt, Bool, true, false}

-- numbers in a row, in two parts
pub range-append : (a m k : ℕ)
    → range_with_len a (m + k) ≡ range_with_len a m ++ range_with_len (a + m) k
range-append a zero k =
    let e : zero + k ≡ k = omega arith in
    let f : a ≡ a + zero = omega arith in
    ap (range_with_len a) e ∙ ap (λ b. range_with_len b k) f
range-append a (suc m) k =
    let e : suc m + k ≡ suc (m + k) = omega arith in
    let f : a + 1 + m ≡ a + suc m = omega arith in
    ap (range_with_len a) e ∙ ap (λ ns. a ∷ ns) (range-append (a + 1) m k) ∙ ap
    (λ b. a ∷ (range_with_len (a + 1) m ++ range_with_len b k)) f

-- with one more at the end
pub range-more : (a n : ℕ) → range_with_len a (suc n) ≡ range_with_len a n ++ (a + n) ∷ []
range-more a zero = let e : a ≡ a + 0 = omega arith in ap (λ k. k ∷ []) e
range-more a (suc n) =
    let e : a + 1 + n ≡ a + suc n = omega arith in
    ap (λ ks. a ∷ ks) (range-more (a + 1) n)
    ∙ ap (λ k. a ∷ (range_with_len (a + 1) n ++ k ∷ [])) e

pub range-last : (n : ℕ) → range_with_len 0 (suc n) ≡ range_with_len 0 n ++ n ∷ []
range-last n =
    let e : 0 + n ≡ n = omega arith in
    range-more 0 n ∙ ap (λ k. range_with_len 0 n ++ k ∷ []) e

-- functions that agree in the range give the same there
pub map-same : {Y : Type 0} (f g : ℕ → Y) (a n : ℕ) → ((i : ℕ) → a ≤ i → i < a + n → f i ≡ g i)
    → map f (range_with_len a n) ≡ map g (range_with_len a n)
map-same f g a zero e = refl
map-same {Y} f g a (suc n) e = ap₂ (λ (y : Y) (ys : List Y). y ∷ ys)
    (e a (omega arith) (omega arith))
    (map-same f g (a + 1) n (λ i p q. e i (omega (arith, p)) (omega (arith, q))))

-- functions that agree below its end
pub map-in : {A : Type 0} (f g : ℕ → A) (a n : ℕ) → ((i : ℕ) → i < a + n → f i ≡ g i)
    → map f (range_with_len a n) ≡ map g (range_with_len a n)
map-in f g a zero h = refl
map-in f g a (suc n) h =
    ap (λ y. y ∷ map f (range_with_len (a + 1) n)) (h a (omega arith))
    ∙ ap (λ ys. g a ∷ ys) (map-in f g (a + 1) n (λ i l. h i (omega arith)))

pub flat-in : {A : Type 0} (f g : ℕ → List A) (a n : ℕ) → ((i : ℕ) → i < a + n → f i ≡ g i)
    → flat_map f (range_with_len a n) ≡ flat_map g (range_with_len a n)
flat-in f g a zero h = refl
flat-in f g a (suc n) h =
    ap (λ y. y ++ flat_map f (range_with_len (a + 1) n)) (h a (omega arith))
    ∙ ap (λ ys. g a ++ ys) (flat-in f g (a + 1) n (λ i l. h i (omega arith)))

-- a place later
pub map-suc : {X : Type 0} (f : ℕ → X) (a n : ℕ)
    → map f (range_with_len (a + 1) n) ≡ map (λ j. f (j + 1)) (range_with_len a n)
map-suc f a zero = refl
map-suc f a (suc n) = ap (λ xs. f (a + 1) ∷ xs) (map-suc f (a + 1) n)

-- a map from a place on
pub map_from : {Y : Type 0} (f : ℕ → Y) (a n : ℕ)
    → map f (range_with_len a n) ≡ map (λ k. f (a + k)) (range_with_len 0 n)
map_from {Y} f a n =
    let z : a + 0 ≡ a = omega arith in
    subst (λ b. map f (range_with_len b n) ≡ map (λ k. f (a + k)) (range_with_len 0 n)) z (go 0 n)
  where
    go : (c m : ℕ) → map f (range_with_len (a + c) m) ≡ map (λ k. f (a + k)) (range_with_len c m)
    go c zero = refl
    go c (suc m) =
        let e : a + c + 1 ≡ a + (c + 1) = omega arith in
        ap (λ (ys : List Y). f (a + c) ∷ ys)
        (ap (λ b. map f (range_with_len b m)) e ∙ go (c + 1) m)

-- none before this place, and not this one
pub one_more : (f : ℕ → Bool) (i : ℕ) → ((k : ℕ) → k < i → f k ≡ false) → f i ≡ false → (k : ℕ)
    → k < i + 1 → f k ≡ false
one_more f i h e k p = by_order (nat_lt k i) refl
  where
    same : nat_lt k i ≡ false → k ≡ i
    same q = grind arith

    by_order : (b : Bool) → nat_lt k i ≡ b → f k ≡ false
    by_order true q = h k (grind arith)
    by_order false q = ap f (same q) ∙ e

-- what is left of what a function gives in a range, and a part of it
pub drop-range : {Y : Type 0} (f : ℕ → Y) (a k n : ℕ)
    → drop k (map f (range_with_len a n)) ≡ map f (range_with_len (a + k) (n - k))
drop-range f a zero n =
    let e : a ≡ a + 0 = omega arith in
    let m : n ≡ n - 0 = omega arith in
    ap₂ (λ b c. map f (range_with_len b c)) e m
drop-range f a (suc k) zero =
    let e : 0 ≡ 0 - suc k = omega arith in
    ap (λ m. map f (range_with_len (a + suc k) m)) e
drop-range f a (suc k) (suc n) =
    let e : a + 1 + k ≡ a + suc k = omega arith in
    let m : n - k ≡ suc n - suc k = omega arith in
    drop-range f (a + 1) k n ∙ ap₂ (λ b c. map f (range_with_len b c)) e m

pub part-range : {Y : Type 0} (f : ℕ → Y) (n a b : ℕ) → a ≤ b → b ≤ n
    → slice_range (map f (range_with_len 0 n)) a b ≡ map f (range_with_len a (b - a))
part-range f n a b p q =
    let e : 0 + a ≡ a = omega arith in
    ap (take (b - a)) (drop-range f 0 a n)
    ∙ take-map-range_with_len f (0 + a) (n - a) (b - a) (omega (arith, p, q))
    ∙ ap (λ c. map f (range_with_len c (b - a))) e

-- a test that fails on each that a function gives in a range
pub none-any : {Y : Type 0} (p : Y → Bool) (f : ℕ → Y) (a n : ℕ)
    → ((j : ℕ) → j < a + n → p (f j) ≡ false) → list_any p (map f (range_with_len a n)) ≡ false
none-any p f a zero h = refl
none-any p f a (suc n) h =
    ap₂ (λ b c. b || c) (h a (omega arith))
    (none-any p f (a + 1) n (λ j l. h j (omega (arith, l))))
