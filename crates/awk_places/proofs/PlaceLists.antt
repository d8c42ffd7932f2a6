-- Tuples of one place of each of several lists: how many there are, and what they hold.
use Rattle.std.specs.Prelude.{◌≡◌, refl, ℕ, zero, suc, ◌*◌, ◌<◌, ◌≤◌}
use Rattle.std.specs.Prelude.{List, [], ◌∷◌, length, get_or, drop}
use Rattle.std.specs.List.{AllByRecursion}
use Rattle.std.proofs.Common.{arith, ap, sym, ◌∙◌}
use Rattle.std.proofs.Math.Nat.{mul_assoc, mul_comm}
use Rattle.awk_types.specs.ItemLimit.{item_limit}
use Rattle.awk_places.specs.Places.{before_each, place_lists, place_count}
use Rattle.awk_places.proofs.FlatLaws.{all-at, all-flat, all-map, all-more}
use Rattle.awk_places.proofs.Levels.{length-place_lists}

-- a product that is not zero has no factor that is
pub some_right : (m q k : ℕ) → k < m * q → 0 < q
some_right m zero k p = absurd (omega (arith, p))
some_right m (suc q) k p = omega arith

pub none_of_empty : (ms : List ℕ) (j : ℕ) → j < length ms → get_or ms j 0 ≡ 0
    → place_count ms ≡ 0
none_of_empty [] j l e = absurd (omega (arith, l))
none_of_empty (m ∷ ms) zero l e =
    let z : 0 * place_count ms ≡ 0 = omega arith in
    ap (λ k. k * place_count ms) e ∙ z
none_of_empty (m ∷ ms) (suc j) l e =
    let z : m * 0 ≡ 0 = omega arith in
    ap (λ k. m * k) (none_of_empty ms j (omega (arith, l)) e) ∙ z

some_times : (m n : ℕ) → 0 < m → 0 < n → 0 < m * n
some_times zero n p q = absurd (omega (arith, p))
some_times (suc m) zero p q = absurd (omega (arith, q))
some_times (suc m) (suc n) p q = grind arith

some_of_full : (ms : List ℕ) → ((k : ℕ) → k < length ms → 0 < get_or ms k 0)
    → 0 < place_count ms
some_of_full [] h = omega arith
some_of_full (m ∷ ms) h =
    some_times m (place_count ms) (h 0 (omega arith))
    (some_of_full ms (λ k l. h (suc k) (omega (arith, l))))

-- the tuples of the lists from one on
pub drop-count : (ms : List ℕ) (j : ℕ) → j < length ms
    → place_count (drop j ms) ≡ get_or ms j 0 * place_count (drop (suc j) ms)
drop-count [] j l = absurd (omega (arith, l))
drop-count (m ∷ ms) zero l = refl
drop-count (m ∷ ms) (suc j) l = drop-count ms j (omega (arith, l))

pub no_less : (a r : ℕ) → 0 < r → a ≤ a * r
no_less a zero p = absurd (omega (arith, p))
no_less a (suc r) p = grind arith

-- a product that passes the limit before its end is over it at the end
pub over_limit : (ms : List ℕ) (j c : ℕ) → j < length ms
    → ((k : ℕ) → k < length ms → 0 < get_or ms k 0)
    → c * place_count (drop j ms) ≡ place_count ms → item_limit < c * get_or ms j 0
    → item_limit < place_count ms
over_limit ms j c l h e o =
    let x : ℕ = get_or ms j 0 in
    let r : ℕ = place_count (drop (suc j) ms) in
    let q : x * c * r ≡ place_count ms =
    ap (λ z. z * r) (mul_comm x c) ∙ mul_assoc c x r
    ∙ ap (λ z. c * z) (sym (drop-count ms j l)) ∙ e in
    let s : 0 < r = some_right (x * c) r 0 (omega (arith, some_of_full ms h, q)) in
    let w : item_limit < x * c = omega (arith, o, mul_comm x c) in
    omega (arith, w, no_less (x * c) r s, q)

-- ---- the places in a tuple

-- a place of each list
pub record IsTuple (ms ks : List ℕ) : Type 0 where
  pub long : length ks ≡ length ms
  pub below : (j : ℕ) → j < length ms → get_or ks j 0 < get_or ms j 0

tuple_more : (m : ℕ) (ms : List ℕ) (k : ℕ) (ks : List ℕ) → k < m → IsTuple ms ks
    → IsTuple (m ∷ ms) (k ∷ ks)
tuple_more m ms k ks p h = record { long = ap suc h.long; below = go }
  where
    go : (j : ℕ) → j < length (m ∷ ms) → get_or (k ∷ ks) j 0 < get_or (m ∷ ms) j 0
    go zero l = p
    go (suc j) l = h.below j (omega (arith, l))

all_tuples : (ms : List ℕ) → AllByRecursion (IsTuple ms) (place_lists ms)
all_tuples [] = (record { long = refl; below = λ j l. absurd (omega (arith, l)) }, tt)
all_tuples (m ∷ ms) =
    all-flat (IsTuple (m ∷ ms)) (λ k. before_each k (place_lists ms)) 0 m
    (λ k p q. all-map (IsTuple (m ∷ ms)) (λ ks. k ∷ ks) (place_lists ms)
    (all-more (IsTuple ms) (λ ks. IsTuple (m ∷ ms) (k ∷ ks))
    (λ ks h. tuple_more m ms k ks (omega (arith, q)) h) (place_lists ms) (all_tuples ms)))

pub tuple-at : (ms : List ℕ) (k : ℕ) → k < place_count ms
    → IsTuple ms (get_or (place_lists ms) k [])
tuple-at ms k p =
    all-at (IsTuple ms) [] (place_lists ms) k (omega (arith, p, length-place_lists ms))
    (all_tuples ms)
