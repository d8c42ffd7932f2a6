-- Places of items, and items at places.
use Rattle.std.specs.Prelude.{◌≡◌, ℕ, zero, suc, ◌+◌, ◌<◌, ◌≤◌, nat_lt, pos, Bool, true, false}
use Rattle.std.specs.Prelude.{◌||◌, List, [], ◌∷◌, ◌++◌, length, map, get_or, Option, Some, None}
use Rattle.std.specs.Prelude.{is_none, refl, if◌then◌else◌}
use Rattle.std.specs.List.{AllByRecursion, range_with_len, flat_map, list_any}
use Rattle.std.proofs.Common.{arith, ap, ap₂, sym, ◌∙◌}
use Rattle.std.proofs.lemmas.List.FromFn.{get_or-map-range_with_len, fill_by_all}
use Rattle.std.proofs.lemmas.Simd.{map-map}
use Rattle.awk_base.proofs.Truths.{or_first, or_second}
use Rattle.awk_types.specs.Value.{Value, int, null}
use Rattle.awk_layout.specs.Item.{at_option}
use Rattle.awk_select.proofs.PickedPlaces.{mask_place-below}
use Rattle.awk_select.specs.Cells.{IsBelow}
use Rattle.awk_select.specs.Picks.{picked, take_place, take_places, is_outside, mask_place}
use Rattle.awk_select.specs.Picks.{mask_places}
use Rattle.awk_select.specs.Places.{place_in}

-- ---- lists

-- ---- all places

-- the numbers 0, 1 and so on
abbrev pub all_places : ℕ → List Value
all_places n = map (λ (i : ℕ). int (pos i)) (range_with_len 0 n)

abbrev pub some_places : ℕ → List (Option ℕ)
some_places n = map (λ (i : ℕ). Some i) (range_with_len 0 n)

pub place_in-pos : (n k : ℕ) → k < n → place_in n (pos k) ≡ Some k
place_in-pos n k p =
    let t : nat_lt k n ≡ true = grind arith in ap (λ (b : Bool). if b then Some k else None) t

take_range : (n a m : ℕ) → a + m ≤ n
    → take_places n (map (λ (i : ℕ). int (pos i)) (range_with_len a m))
    ≡ map (λ (i : ℕ). Some i) (range_with_len a m)
take_range n a zero p = refl
take_range n a (suc m) p =
    ap₂ (λ x xs. x ∷ xs) (place_in-pos n a (omega (arith, p)))
    (take_range n (a + 1) m (omega (arith, p)))

pub take_places-all : (n : ℕ) → take_places n (all_places n) ≡ some_places n
take_places-all n = take_range n 0 n (omega arith)

inside_range : (n a m : ℕ) → a + m ≤ n
    → list_any (is_outside n) (map (λ (i : ℕ). int (pos i)) (range_with_len a m)) ≡ false
inside_range n a zero p = refl
inside_range n a (suc m) p =
    ap₂ (λ x y. x || y) (ap is_none (place_in-pos n a (omega (arith, p))))
    (inside_range n (a + 1) m (omega (arith, p)))

pub none_outside : (n : ℕ) → list_any (is_outside n) (all_places n) ≡ false
none_outside n = inside_range n 0 n (omega arith)

pub picked-all : (vs : List Value) → picked vs (some_places (length vs)) ≡ vs
picked-all vs =
    map-map (λ o. at_option o (λ k. get_or vs k null)) (λ (i : ℕ). Some i)
    (range_with_len 0 (length vs))
    ∙ sym (fill_by_all (λ k. get_or vs k null) vs (length vs) null refl (λ k p. refl))

-- ---- places below a number

all_below : (n : ℕ) (xs ys : List (Option ℕ)) → AllByRecursion (IsBelow n) xs
    → AllByRecursion (IsBelow n) ys → AllByRecursion (IsBelow n) (xs ++ ys)
all_below n [] ys p q = q
all_below n (x ∷ xs) ys p q = (p.0, all_below n xs ys p.1 q)

masks_below : (n : ℕ) (f : ℕ → Value) (a m : ℕ) → a + m ≤ n
    → AllByRecursion (IsBelow n) (flat_map (λ k. mask_place k (f k)) (range_with_len a m))
masks_below n f a zero p = tt
masks_below n f a (suc m) p =
    all_below n (mask_place a (f a)) (flat_map (λ k. mask_place k (f k)) (range_with_len (a + 1) m))
    (mask_place-below n a (f a) (omega (arith, p))) (masks_below n f (a + 1) m (omega (arith, p)))

pub mask_places_below : (ms : List Value)
    → AllByRecursion (IsBelow (length ms)) (mask_places ms)
mask_places_below ms = masks_below (length ms) (λ k. get_or ms k null) 0 (length ms) (omega arith)

-- ---- what is picked of all places

number_at : (n k : ℕ) → k < n → get_or (all_places n) k null ≡ int (pos k)
number_at n k p =
    get_or-map-range_with_len (λ (i : ℕ). int (pos i)) 0 n k k null p (omega arith)

taken_place : (n : ℕ) (o : Option ℕ) → IsBelow n o
    → take_place n (at_option o (λ k. get_or (all_places n) k null)) ≡ o
taken_place n None p = refl
taken_place n (Some k) p = ap (take_place n) (number_at n k p) ∙ place_in-pos n k p

pub take_places-picked : (n : ℕ) (os : List (Option ℕ)) → AllByRecursion (IsBelow n) os
    → take_places n (picked (all_places n) os) ≡ os
take_places-picked n [] h = refl
take_places-picked n (o ∷ os) h =
    ap₂ (λ x xs. x ∷ xs) (taken_place n o h.0) (take_places-picked n os h.1)

inside_place : (n : ℕ) (o : Option ℕ) → IsBelow n o
    → is_outside n (at_option o (λ k. get_or (all_places n) k null)) ≡ false
inside_place n None p = refl
inside_place n (Some k) p = ap (is_outside n) (number_at n k p) ∙ ap is_none (place_in-pos n k p)

pub picked_inside : (n : ℕ) (os : List (Option ℕ)) → AllByRecursion (IsBelow n) os
    → list_any (is_outside n) (picked (all_places n) os) ≡ false
picked_inside n [] h = refl
picked_inside n (o ∷ os) h =
    ap₂ (λ x y. x || y) (inside_place n o h.0) (picked_inside n os h.1)

-- ---- what is picked of what is picked

-- the item that a number of an index picks
abbrev pub taken_item : List Value → Value → Value
taken_item vs v = at_option (take_place (length vs) v) (λ k. get_or vs k null)

pub picked-taken : (vs ws : List Value)
    → picked vs (take_places (length vs) ws) ≡ map (taken_item vs) ws
picked-taken vs ws =
    map-map (λ o. at_option o (λ k. get_or vs k null)) (take_place (length vs)) ws

get_or-taken : (vs ws : List Value) (k : ℕ)
    → get_or (map (taken_item vs) ws) k null ≡ taken_item vs (get_or ws k null)
get_or-taken vs [] k = refl
get_or-taken vs (w ∷ ws) zero = refl
get_or-taken vs (w ∷ ws) (suc k) = get_or-taken vs ws k

place_taken : (vs ws : List Value) (o : Option ℕ)
    → at_option o (λ k. get_or (map (taken_item vs) ws) k null)
    ≡ taken_item vs (at_option o (λ k. get_or ws k null))
place_taken vs ws None = refl
place_taken vs ws (Some k) = get_or-taken vs ws k

pub picked-map_taken : (vs ws : List Value) (os : List (Option ℕ))
    → picked (map (taken_item vs) ws) os ≡ map (taken_item vs) (picked ws os)
picked-map_taken vs ws [] = refl
picked-map_taken vs ws (o ∷ os) =
    ap₂ (λ x xs. x ∷ xs) (place_taken vs ws o) (picked-map_taken vs ws os)

inside_at : (n : ℕ) (ws : List Value) (k : ℕ) → list_any (is_outside n) ws ≡ false
    → is_outside n (get_or ws k null) ≡ false
inside_at n [] k h = refl
inside_at n (w ∷ ws) zero h = or_first (is_outside n w) (list_any (is_outside n) ws) h
inside_at n (w ∷ ws) (suc k) h =
    inside_at n ws k (or_second (is_outside n w) (list_any (is_outside n) ws) h)

inside_option : (n : ℕ) (ws : List Value) (o : Option ℕ) → list_any (is_outside n) ws ≡ false
    → is_outside n (at_option o (λ k. get_or ws k null)) ≡ false
inside_option n ws None h = refl
inside_option n ws (Some k) h = inside_at n ws k h

pub inside_picked : (n : ℕ) (ws : List Value) (os : List (Option ℕ))
    → list_any (is_outside n) ws ≡ false → list_any (is_outside n) (picked ws os) ≡ false
inside_picked n ws [] h = refl
inside_picked n ws (o ∷ os) h =
    ap₂ (λ x y. x || y) (inside_option n ws o h) (inside_picked n ws os h)
