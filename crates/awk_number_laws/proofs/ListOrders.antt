-- One list in order.
use Rattle.std.proofs.Common.{◌≡◌, ℕ, zero, suc, ◌+◌, ◌<◌, ◌≤◌, refl, ap, ap₂, sym, subst, ◌∙◌}
use Rattle.std.proofs.Common.{arith, true≢false, List, [], ◌∷◌, ◌++◌, map, map-id, length, get_or}
use Rattle.std.proofs.Common.{replicate}
use Rattle.std.specs.Prelude.{ℤ, pos, nat_lt, Bool, true, false, Option, Some, None, if◌then◌else◌}
use Rattle.std.specs.List.{fold, range_with_len}
use Rattle.std.specs.List.Sorted.{IsPermutation}
use Rattle.std.proofs.lemmas.List.{length-map}
use Rattle.std.proofs.lemmas.List.FromFn.{fill_by_all, length-map-range_with_len}
use Rattle.std.proofs.lemmas.List.Sorted.{IsPermutation-map, length_permutation}
use Rattle.awk_base.proofs.Ranges.{range-more}
use Rattle.awk_types.specs.Parts.{number_of, option_number}
use Rattle.awk_types.specs.Predicates.{is_null}
use Rattle.awk_types.specs.Value.{Value, int, null}
use Rattle.awk_layout.specs.Item.{at_option}
use Rattle.awk_select.specs.Picks.{picked, take_places, take_place}
use Rattle.awk_sorting.specs.Nulls.{somes, nones}
use Rattle.awk_sorting.specs.Order.{insert_by, number_first, sort_numbers, comes_first}
use Rattle.awk_sorting.specs.Order.{stands_first, order}
use Rattle.awk_sorting.proofs.InsertLaws.{sort_permutes, length-sort, places_below, AllBelow}
use Rattle.awk_sorting.proofs.KeyLaws.{later_first}
use Rattle.awk_sorting.proofs.NullLaws.{cells_in_order}
use Rattle.awk_sorting.proofs.UniqueLaws.{NoneBefore, AreInOrder, sort_in_order}
use Rattle.awk_order.specs.Order.{item_order, items_in_order}
use Rattle.awk_order.specs.Sort.{place_items}
use Rattle.awk_number_laws.specs.Orders.{IsInOrder}

-- ---- the same items

by_place : (vs : List Value) (n : ℕ) → n ≡ length vs
    → vs ≡ map (λ p. get_or vs p null) (range_with_len 0 n)
by_place vs n e = fill_by_all (λ p. get_or vs p null) vs n null (sym e) (λ k l. refl)

pub places_are : (up : Bool) (vs : List Value)
    → IsPermutation (range_with_len 0 (length vs)) (item_order up vs)
places_are up vs =
    subst (λ n. IsPermutation (range_with_len 0 n) (item_order up vs))
    (length-map vs option_number)
    (sort_permutes (stands_first up (map option_number vs))
    (range_with_len 0 (length (map option_number vs))))

pub same_items_are : (up : Bool) (vs : List Value) → IsPermutation vs (items_in_order up vs)
same_items_are up vs =
    subst (λ us. IsPermutation us (items_in_order up vs)) (sym (by_place vs (length vs) refl))
    (IsPermutation-map (λ p. get_or vs p null) (range_with_len 0 (length vs)) (item_order up vs)
    (places_are up vs))

pub length-sorted : (up : Bool) (vs : List Value) → length (items_in_order up vs) ≡ length vs
length-sorted up vs = length_permutation vs (items_in_order up vs) (same_items_are up vs)

-- ---- in order

abbrev no_number : Option ℤ
no_number = None

get_none : (k j : ℕ) → get_or (replicate k no_number) j no_number ≡ no_number
get_none zero j = refl
get_none (suc k) zero = refl
get_none (suc k) (suc j) = get_none k j

abbrev cells : List ℤ → ℕ → List (Option ℤ)
cells zs k = map (λ z. Some z) zs ++ replicate k no_number

after_one : (up : Bool) (z : ℤ) (zs : List ℤ) (k j : ℕ) → NoneBefore up z zs
    → comes_first up (get_or (cells zs k) j None) (Some z) ≡ false
after_one up z [] k j h = ap (λ o. comes_first up o (Some z)) (get_none k j)
after_one up z (y ∷ ys) k zero h = h.0
after_one up z (y ∷ ys) k (suc j) h = after_one up z ys k j h.1

cells_rise : (up : Bool) (zs : List ℤ) (k i j : ℕ) → AreInOrder up zs → i < j
    → comes_first up (get_or (cells zs k) j None) (get_or (cells zs k) i None) ≡ false
cells_rise up [] k i j h l =
    ap (λ o. comes_first up o (get_or (cells [] k) i None)) (get_none k j)
cells_rise up (z ∷ zs) k i zero h l = absurd (omega (arith, l))
cells_rise up (z ∷ zs) k zero (suc j) h l = after_one up z zs k j h.0
cells_rise up (z ∷ zs) k (suc i) (suc j) h l = cells_rise up zs k i j h.1 (omega (arith, l))

cell-map : (vs : List Value) (p : ℕ)
    → option_number (get_or vs p null) ≡ get_or (map option_number vs) p None
cell-map [] p = refl
cell-map (v ∷ vs) zero = refl
cell-map (v ∷ vs) (suc p) = cell-map vs p

map-same-places : (vs : List Value) (ps : List ℕ)
    → map option_number (map (λ p. get_or vs p null) ps)
    ≡ map (λ p. get_or (map option_number vs) p None) ps
map-same-places vs [] = refl
map-same-places vs (p ∷ ps) = ap₂ (λ o os. o ∷ os) (cell-map vs p) (map-same-places vs ps)

-- the cells of items in order
sorted_cells : (up : Bool) (vs : List Value)
    → map option_number (items_in_order up vs)
    ≡ cells (sort_numbers up (somes (map option_number vs))) (nones (map option_number vs))
sorted_cells up vs =
    map-same-places vs (item_order up vs) ∙ cells_in_order up (map option_number vs)

abbrev NeverFirst : Bool → List (Option ℤ) → Type 0
NeverFirst up os = (i j : ℕ) → i < j
    → comes_first up (get_or os j None) (get_or os i None) ≡ false

pub never_first : (up : Bool) (vs : List Value)
    → NeverFirst up (map option_number (items_in_order up vs))
never_first up vs =
    subst (NeverFirst up) (sym (sorted_cells up vs))
    (λ i j l. cells_rise up (sort_numbers up (somes (map option_number vs)))
    (nones (map option_number vs)) i j
    (sort_in_order up (somes (map option_number vs))) l)

numbers_by : (b c up : Bool) (x y : ℤ) → b ≡ false → c ≡ false
    → comes_first up (if c then None else Some y) (if b then None else Some x) ≡ false
    → number_first up y x ≡ false
numbers_by true c up x y e f h = absurd (true≢false e)
numbers_by false true up x y e f h = absurd (true≢false f)
numbers_by false false up x y e f h = h

nulls_by : (b c up : Bool) (x y : ℤ) → b ≡ true
    → comes_first up (if c then None else Some y) (if b then None else Some x) ≡ false
    → c ≡ true
nulls_by true true up x y e h = refl
nulls_by true false up x y e h = absurd (true≢false h)
nulls_by false c up x y e h = absurd (true≢false (sym e))

pub in_order_by : (up : Bool) (vs : List Value) → NeverFirst up (map option_number vs)
    → IsInOrder up vs
in_order_by up vs h = record {
  numbers =
      λ i j l m e f. numbers_by (is_null (get_or vs i null)) (is_null (get_or vs j null)) up
      (number_of (get_or vs i null)) (number_of (get_or vs j null)) e f (apart i j l);
  nulls_last =
      λ i j l m e. nulls_by (is_null (get_or vs i null)) (is_null (get_or vs j null)) up
      (number_of (get_or vs i null)) (number_of (get_or vs j null)) e (apart i j l);
}
  where
    apart : (i j : ℕ) → i < j
        → comes_first up (option_number (get_or vs j null)) (option_number (get_or vs i null))
        ≡ false
    apart i j l = ap₂ (comes_first up) (cell-map vs j) (cell-map vs i) ∙ h i j l

-- ---- a pick by places

pick_all : (vs : List Value) (ps : List ℕ) → AllBelow (length vs) ps
    → picked vs (take_places (length vs) (map (λ (p : ℕ). int (pos p)) ps))
    ≡ map (λ p. get_or vs p null) ps
pick_all vs [] h = refl
pick_all vs (p ∷ ps) h =
    ap₂ (λ v ws. v ∷ ws) (one p h.0) (pick_all vs ps h.1)
  where
    one : (p : ℕ) → p < length vs
        → at_option (take_place (length vs) (int (pos p))) (λ k. get_or vs k null)
        ≡ get_or vs p null
    one p l =
        let e : nat_lt p (length vs) ≡ true = grind (arith, l) in
        ap (λ b. at_option (if b then Some p else None) (λ k. get_or vs k null)) e

pub places_within : (up : Bool) (vs : List Value) → AllBelow (length vs) (item_order up vs)
places_within up vs =
    subst (λ n. AllBelow n (item_order up vs)) (length-map vs option_number)
    (places_below (stands_first up (map option_number vs)) (length (map option_number vs)))

pub length-places : (up : Bool) (vs : List Value) → length (item_order up vs) ≡ length vs
length-places up vs =
    length-sort (stands_first up (map option_number vs))
    (range_with_len 0 (length (map option_number vs)))
    ∙ length-range 0 (length (map option_number vs)) ∙ length-map vs option_number
  where
    length-range : (a n : ℕ) → length (range_with_len a n) ≡ n
    length-range a n =
        sym (ap length (map-id (range_with_len a n))) ∙ length-map-range_with_len (λ i. i) a n

pub pick_is : (up : Bool) (vs : List Value)
    → picked vs (take_places (length vs) (place_items up vs)) ≡ items_in_order up vs
pick_is up vs =
    pick_all vs (item_order up vs) (places_within up vs)

-- ---- sorting what is in order

range_below : (a k n : ℕ) → a + k ≤ n → AllBelow n (range_with_len a k)
range_below a zero n l = tt
range_below a (suc k) n l = (omega (arith, l), range_below (a + 1) k n (omega (arith, l)))

module _ (first : ℕ → ℕ → Bool) (n : ℕ)
    (h : (p q : ℕ) → q < p → p < n → first p q ≡ false) where
  put_last : (p : ℕ) (qs : List ℕ) → p < n → AllBelow p qs
      → insert_by first p qs ≡ qs ++ p ∷ []
  put_last p [] l b = refl
  put_last p (q ∷ qs) l b =
      ap (λ c. if c then p ∷ q ∷ qs else q ∷ insert_by first p qs) (h p q b.0 l)
      ∙ ap (λ ps. q ∷ ps) (put_last p qs l b.1)

  stays : (a k : ℕ) → a + k ≤ n
      → fold (λ ys x. insert_by first x ys) (range_with_len 0 a) (range_with_len a k)
      ≡ range_with_len 0 (a + k)
  stays a zero l = let e : a ≡ a + zero = omega arith in ap (range_with_len 0) e
  stays a (suc k) l =
      let e : suc a ≡ a + 1 = omega arith in
      let f : a + 1 + k ≡ a + suc k = omega arith in
      let z : 0 + a ≡ a = omega arith in
      ap (λ ys. fold (λ ys x. insert_by first x ys) ys (range_with_len (a + 1) k))
      (put_last a (range_with_len 0 a) (omega (arith, l)) (range_below 0 a a (omega arith))
      ∙ ap (λ b. range_with_len 0 a ++ b ∷ []) (sym z)
      ∙ sym (range-more 0 a) ∙ ap (range_with_len 0) e)
      ∙ stays (a + 1) k (omega (arith, l)) ∙ ap (range_with_len 0) f

order_stays : (up : Bool) (os : List (Option ℤ)) → NeverFirst up os
    → order up os ≡ range_with_len 0 (length os)
order_stays up os h =
    let z : 0 + length os ≡ length os = omega arith in
    stays (stands_first up os) (length os)
    (λ p q l m.
    later_first (comes_first up (get_or os p None) (get_or os q None))
    (comes_first up (get_or os q None) (get_or os p None)) p q l ∙ h q p l)
    0 (length os) (omega arith)
    ∙ ap (range_with_len 0) z

sorted_stays : (up : Bool) (vs : List Value) → NeverFirst up (map option_number vs)
    → items_in_order up vs ≡ vs
sorted_stays up vs h =
    ap (map (λ p. get_or vs p null)) (order_stays up (map option_number vs) h)
    ∙ sym (by_place vs (length (map option_number vs)) (length-map vs option_number))

pub twice_is : (up : Bool) (vs : List Value)
    → items_in_order up (items_in_order up vs) ≡ items_in_order up vs
twice_is up vs = sorted_stays up (items_in_order up vs) (never_first up vs)
