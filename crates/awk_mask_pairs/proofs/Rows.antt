-- Rows of two values: the items of two lists in pairs.
use Rattle.std.specs.Prelude.{◌≡◌, ℕ, suc, ◌+◌, ◌<◌, refl, Bool, true, false, ◌||◌, ◌&&◌, not}
use Rattle.std.specs.Prelude.{◌==◌, List, [], ◌∷◌, length, map, get_or}
use Rattle.std.specs.List.{list_any, range_with_len, AllByRecursion}
use Rattle.std.proofs.Common.{arith, ap, ap₂, sym, ◌∙◌}
use Rattle.awk_base.proofs.Truths.{same_number, equal_right, unequal_wrong}
use Rattle.awk_types.specs.Value.{Value, null}
use Rattle.awk_pair_sides.specs.Sides.{each, rows_of}
use Rattle.awk_mask_pairs.specs.MaskValues.{in_pairs, any_pair, lists_differ}

-- an item and what a mask has for it
abbrev pub beside : Value → Value → List Value
beside m v = v ∷ m ∷ []

abbrev pub rows_by : List Value → List Value → List (List Value)
rows_by ms vs = in_pairs beside ms vs

-- ---- rows of two sides

rows-from : (f : ℕ → List Value) (a : ℕ) (ms vs : List Value) → length ms ≡ length vs
    → ((k : ℕ) → k < length vs → f (a + k) ≡ get_or vs k null ∷ get_or ms k null ∷ [])
    → map f (range_with_len a (length vs)) ≡ rows_by ms vs
rows-from f a [] [] e h = refl
rows-from f a [] (v ∷ vs) e h = absurd (omega (arith, e))
rows-from f a (m ∷ ms) [] e h = absurd (omega (arith, e))
rows-from f a (m ∷ ms) (v ∷ vs) e h =
    let z : a ≡ a + 0 = omega arith in
    ap₂ (λ r rs. r ∷ rs) (ap f z ∙ h 0 (omega arith))
    (rows-from f (a + 1) ms vs (omega (arith, e))
    (λ k p. let s : a + 1 + k ≡ a + suc k = omega arith in
    ap f s ∙ h (suc k) (omega (arith, p))))

pub rows-two : (ms vs : List Value) → length ms ≡ length vs
    → rows_of (each vs ∷ each ms ∷ []) ≡ rows_by ms vs
rows-two ms vs e =
    rows-from (λ k. get_or vs k null ∷ get_or ms k null ∷ []) 0 ms vs e
    (λ k p. let z : 0 + k ≡ k = omega arith in
    ap (λ j. get_or vs j null ∷ get_or ms j null ∷ []) z)

pub rows-length : (ms vs : List Value) → length ms ≡ length vs
    → length (rows_by ms vs) ≡ length vs
rows-length [] [] e = refl
rows-length [] (v ∷ vs) e = absurd (omega (arith, e))
rows-length (m ∷ ms) [] e = absurd (omega (arith, e))
rows-length (m ∷ ms) (v ∷ vs) e = omega (arith, rows-length ms vs (omega (arith, e)))

-- ---- one row after another

pub any-rows : (P Q : Value → Type 0) (g : List Value → Bool) (f : Value → Value → Bool)
    → ((v m : Value) → P v → Q m → g (v ∷ m ∷ []) ≡ f m v) → (ms vs : List Value)
    → AllByRecursion P vs → AllByRecursion Q ms → list_any g (rows_by ms vs) ≡ any_pair f ms vs
any-rows P Q g f h [] vs p q = refl
any-rows P Q g f h (m ∷ ms) [] p q = refl
any-rows P Q g f h (m ∷ ms) (v ∷ vs) p q =
    ap₂ (λ a b. a || b) (h v m p.0 q.0) (any-rows P Q g f h ms vs p.1 q.1)

or-first : (a b : Bool) → a || b ≡ false → a ≡ false
or-first true b e = cc
or-first false b e = refl

or-second : (a b : Bool) → a || b ≡ false → b ≡ false
or-second true b e = cc
or-second false b e = e

-- where no pair differs
pub map-rows : (P Q : Value → Type 0) (f : Value → Value → Bool) (k : Value → Value)
    (g : List Value → Value) (r : Value → Value → Value)
    → ((v m : Value) → P v → Q m → f m v ≡ false → k (g (v ∷ m ∷ [])) ≡ r m v)
    → (ms vs : List Value) → AllByRecursion P vs → AllByRecursion Q ms
    → any_pair f ms vs ≡ false → map k (map g (rows_by ms vs)) ≡ in_pairs r ms vs
map-rows P Q f k g r h [] vs p q e = refl
map-rows P Q f k g r h (m ∷ ms) [] p q e = refl
map-rows P Q f k g r h (m ∷ ms) (v ∷ vs) p q e =
    ap₂ (λ w ws. w ∷ ws) (h v m p.0 q.0 (or-first (f m v) (any_pair f ms vs) e))
    (map-rows P Q f k g r h ms vs p.1 q.1 (or-second (f m v) (any_pair f ms vs) e))

pub all-rows : (P Q R : Value → Type 0) (f : Value → Value → Bool) (g : List Value → Value)
    → ((v m : Value) → P v → Q m → f m v ≡ false → R (g (v ∷ m ∷ [])))
    → (ms vs : List Value) → AllByRecursion P vs → AllByRecursion Q ms
    → any_pair f ms vs ≡ false → AllByRecursion R (map g (rows_by ms vs))
all-rows P Q R f g h [] vs p q e = tt
all-rows P Q R f g h (m ∷ ms) [] p q e = tt
all-rows P Q R f g h (m ∷ ms) (v ∷ vs) p q e = (
  h v m p.0 q.0 (or-first (f m v) (any_pair f ms vs) e),
  all-rows P Q R f g h ms vs p.1 q.1 (or-second (f m v) (any_pair f ms vs) e),
)

-- ---- lists that differ

-- two lists do not differ: they are equally long, and no pair differs
pub alike-length : (f : Value → Value → Bool) (ms vs : List Value) → lists_differ f ms vs ≡ false
    → length ms ≡ length vs
alike-length f ms vs e =
    same_number (length ms) (length vs)
    (or-first (not (length ms == length vs)) (any_pair f ms vs) e)

pub alike-pairs : (f : Value → Value → Bool) (ms vs : List Value) → lists_differ f ms vs ≡ false
    → any_pair f ms vs ≡ false
alike-pairs f ms vs e = or-second (not (length ms == length vs)) (any_pair f ms vs) e

and-true : (b : Bool) → b && true ≡ b
and-true true = refl
and-true false = refl

turned : (k l : ℕ) → not (k == l) ≡ not (l == k)
turned k l = by_test (k == l) refl
  where
    by_test : (b : Bool) → (k == l) ≡ b → not (k == l) ≡ not (l == k)
    by_test true e = let f : k ≡ l = grind (arith, e) in
        equal_right k l f ∙ sym (equal_right l k (sym f))
    by_test false e = unequal_wrong k l (λ f. no (sym e ∙ same f)) ∙ sym (unequal_wrong l k (λ f. no
        (sym e ∙ same (sym f))))
      where
        no : false ≡ true → ⊥
        no q = cc

        same : k ≡ l → (k == l) ≡ true
        same f = grind (arith, f)

-- lists whose rows are tested, by those whose pairs are
pub differ-rows : (g : List Value → Bool) (f : Value → Value → Bool) (P Q : Value → Type 0)
    → ((v m : Value) → P v → Q m → g (v ∷ m ∷ []) ≡ f m v) → (ms vs : List Value)
    → AllByRecursion P vs → AllByRecursion Q ms
    → not ((length vs == length ms) && true) || list_any g (rows_of (each vs ∷ each ms ∷ []))
    ≡ lists_differ f ms vs
differ-rows g f P Q h ms vs p q =
    ap (λ b. not b || list_any g (rows_of (each vs ∷ each ms ∷ [])))
    (and-true (length vs == length ms))
    ∙ ap (λ b. b || list_any g (rows_of (each vs ∷ each ms ∷ [])))
    (turned (length vs) (length ms))
    ∙ by_test (not (length ms == length vs)) refl
  where
    by_test : (b : Bool) → not (length ms == length vs) ≡ b
        → b || list_any g (rows_of (each vs ∷ each ms ∷ [])) ≡ b || any_pair f ms vs
    by_test true e = refl
    by_test false e =
        ap (list_any g) (rows-two ms vs (same_number (length ms) (length vs) e))
        ∙ any-rows P Q g f h ms vs p q
