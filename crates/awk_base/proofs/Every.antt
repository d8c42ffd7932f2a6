-- What holds of every item of a list.
use Rattle.std.specs.List.{AllByRecursion, range_with_len, flat_map}
use Rattle.std.proofs.Common.{ℕ, zero, suc, take, ◌-◌, arith, Some, slice_get, subst, ◌≡◌}
use Rattle.std.specs.Prelude.{List, [], ◌∷◌, ◌++◌, drop, slice_range, ◌+◌, ◌<◌, ◌≤◌, map, get_or}
use Rattle.std.specs.Prelude.{length}

-- of both of two lists, of both together
pub all-append : {X : Type 0} (P : X → Type 0) (xs ys : List X) → AllByRecursion P xs
    → AllByRecursion P ys → AllByRecursion P (xs ++ ys)
all-append P [] ys h g = g
all-append P (x ∷ xs) ys h g = (h.0, all-append P xs ys h.1 g)

-- what follows for each item
pub all-impl : {X : Type 0} (P Q : X → Type 0) (xs : List X) → ((x : X) → P x → Q x)
    → AllByRecursion P xs → AllByRecursion Q xs
all-impl P Q [] f h = tt
all-impl P Q (x ∷ xs) f h = (f x h.0, all-impl P Q xs f h.1)

-- of the first items
pub all-take : {X : Type 0} (P : X → Type 0) (xs : List X) (n : ℕ) → AllByRecursion P xs
    → AllByRecursion P (take n xs)
all-take P xs zero h = tt
all-take P [] (suc n) h = tt
all-take P (x ∷ xs) (suc n) h = (h.0, all-take P xs n h.1)

-- of those behind them
pub all-drop : {X : Type 0} (P : X → Type 0) (xs : List X) (n : ℕ) → AllByRecursion P xs
    → AllByRecursion P (drop n xs)
all-drop P xs zero h = h
all-drop P [] (suc n) h = tt
all-drop P (x ∷ xs) (suc n) h = all-drop P xs n h.1

-- of a part
pub all-part : {A : Type 0} (P : A → Type 0) (xs : List A) (lo hi : ℕ) → AllByRecursion P xs
    → AllByRecursion P (slice_range xs lo hi)
all-part P xs lo hi a = all-take P (drop lo xs) (hi - lo) (all-drop P xs lo a)

-- of the numbers in a row
pub all_range : (P : ℕ → Type 0) (a n : ℕ) → ((k : ℕ) → a ≤ k → k < a + n → P k)
    → AllByRecursion P (range_with_len a n)
all_range P a zero h = tt
all_range P a (suc n) h = (
  h a (omega arith) (omega arith),
  all_range P (a + 1) n (λ k p q. h k (omega (arith, p)) (omega (arith, q))),
)

-- of all that a function lists at each place
pub all-each : {X : Type 0} (P : X → Type 0) (f : ℕ → List X) (a m : ℕ)
    → ((i : ℕ) → i < a + m → AllByRecursion P (f i))
    → AllByRecursion P (flat_map f (range_with_len a m))
all-each P f a zero h = tt
all-each P f a (suc m) h =
    all-append P (f a) (flat_map f (range_with_len (a + 1) m)) (h a (omega arith))
    (all-each P f (a + 1) m (λ i l. h i (omega arith)))

-- of what a function gives at each place
pub all-map : {X : Type 0} (P : X → Type 0) (f : ℕ → X) (a m : ℕ) → ((i : ℕ) → i < a + m → P (f i))
    → AllByRecursion P (map f (range_with_len a m))
all-map P f a zero h = tt
all-map P f a (suc m) h =
    (h a (omega arith), all-map P f (a + 1) m (λ i l. h i (omega (arith, l))))

-- of the one that `get` gives
pub all-get : {X : Type 0} (P : X → Type 0) (xs : List X) (i : ℕ) (x : X) → slice_get xs i ≡ Some x
    → AllByRecursion P xs → P x
all-get P [] i x e h = cc
all-get P (y ∷ xs) zero x e h = let f : y ≡ x = cc in subst P f h.0
all-get P (y ∷ xs) (suc i) x e h = all-get P xs i x e h.1

-- of the one at a place
pub all-at : {X : Type 0} (P : X → Type 0) (xs : List X) (k : ℕ) (d : X) → AllByRecursion P xs
    → k < length xs → P (get_or xs k d)
all-at P [] k d h l = absurd (omega (arith, l))
all-at P (x ∷ xs) zero d h l = h.0
all-at P (x ∷ xs) (suc k) d h l = all-at P xs k d h.1 (omega (arith, l))
