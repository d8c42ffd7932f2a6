-- Keys stand in the order of cells, and tell their places.
use Rattle.std.proofs.Common.{◌≡◌, ℕ, ◌+◌, ◌-◌, ◌*◌, ◌%◌, ◌<◌, ◌≤◌, refl, ap, ap₂}
use Rattle.std.proofs.Common.{sym, ◌∙◌, arith, List, [], ◌∷◌, map, length, get_or}
use Rattle.std.specs.Prelude.{ℤ, pos, negsuc, ◌+ℤ◌, ◌-ℤ◌, ◌≤ℤ◌, nat_lt, Bool, true, false}
use Rattle.std.specs.Prelude.{not, ◌&&◌, ◌||◌, Option, Some, None}
use Rattle.std.specs.List.{range_with_len}
use Rattle.std.proofs.lemmas.Int.{ints}
use Rattle.std.proofs.lemmas.Nat.{mod-mul-add}
use Rattle.awk_lanes.specs.Numbers.{nat_of}
use Rattle.awk_sorting.specs.Cells.{rank, height, key, place_of, IsNear, IsRanked}
use Rattle.awk_sorting.specs.Order.{number_first, comes_first, stands_first, order}
use Rattle.awk_sorting.specs.Order.{sort_numbers}
use Rattle.awk_sorting.proofs.InsertLaws.{AllBelow, places_below, map-sort}

nat_of_pos : (w : ℤ) → pos 0 ≤ℤ w → pos (nat_of w) ≡ w
nat_of_pos (pos n) h = refl
nat_of_pos (negsuc n) h = absurd (omega (arith, ints, h))

rank_rising : (z : ℤ) → IsNear (Some z) → pos (rank true z) ≡ pos 36893488147419103232 +ℤ z
rank_rising z h = nat_of_pos (pos 36893488147419103232 +ℤ z) (omega (arith, ints, h.0))

rank_falling : (z : ℤ) → IsNear (Some z) → pos (rank false z) ≡ pos 36893488147419103232 -ℤ z
rank_falling z h = nat_of_pos (pos 36893488147419103232 -ℤ z) (omega (arith, ints, h.1))

ranks_first : (up : Bool) (y z : ℤ) → IsNear (Some y) → IsNear (Some z)
    → number_first up y z ≡ nat_lt (rank up y) (rank up z)
ranks_first true y z h k =
    let p = rank_rising y h in
    let q = rank_rising z k in
    grind (arith, ints)
ranks_first false y z h k =
    let p = rank_falling y h in
    let q = rank_falling z k in
    grind (arith, ints)

above_first : (r s b : ℕ) → b ≤ r → b ≤ s → nat_lt (r - b) (s - b) ≡ nat_lt r s
above_first r s b l m = grind arith

not_last : (r least last : ℕ) → r < last → false ≡ nat_lt (last - least) (r - least)
not_last r least last l = grind arith

before_last : (r least last : ℕ) → least ≤ r → r < last → true ≡ nat_lt (r - least) (last - least)
before_last r least last l m = grind arith

heights_first : (up : Bool) (least last : ℕ) (a b : Option ℤ) → IsRanked up least last a
    → IsRanked up least last b
    → comes_first up a b ≡ nat_lt (height up least last a) (height up least last b)
heights_first up least last None None l m = grind arith
heights_first up least last None (Some z) l m = not_last (rank up z) least last m.2
heights_first up least last (Some y) None l m = before_last (rank up y) least last l.1 l.2
heights_first up least last (Some y) (Some z) l m =
    ranks_first up y z l.0 m.0 ∙ sym (above_first (rank up y) (rank up z) least l.1 m.1)

parted_first : (r s p q : ℕ) → q < p → p < 4294967296
    → nat_lt (r * 4294967296 + p) (s * 4294967296 + q) ≡ nat_lt r s
parted_first r s p q l m = grind arith

low_part : (r p : ℕ) → p < 4294967296 → (r * 4294967296 + p) % 4294967296 ≡ p
low_part r p l = mod-mul-add r 4294967296 p l

pub later_first : (a b : Bool) (p q : ℕ) → q < p → (a || (not b && nat_lt p q)) ≡ a
later_first true b p q l = refl
later_first false true p q l = refl
later_first false false p q l = grind arith

-- ---- the order of a list of cells

module _ (up : Bool) (least last : ℕ) (os : List (Option ℤ)) (few : length os < 4294967296)
    (ranked : (p : ℕ) → p < length os → IsRanked up least last (get_or os p None)) where
  abbrev key_at : ℕ → ℤ
  key_at p = key up least last (get_or os p None) p

  keys_by_place : (p q : ℕ) → q < p → p < length os
      → stands_first up os p q ≡ number_first true (key_at p) (key_at q)
  keys_by_place p q l m =
      let a : Option ℤ = get_or os p None in
      let b : Option ℤ = get_or os q None in
      later_first (comes_first up a b) (comes_first up b a) p q l
      ∙ heights_first up least last a b (ranked p m) (ranked q (omega (arith, l, m)))
      ∙ sym (parted_first (height up least last a) (height up least last b) p q l
      (omega (arith, few, m)))

  keys_sorted : map key_at (order up os)
      ≡ sort_numbers true (map key_at (range_with_len 0 (length os)))
  keys_sorted = map-sort (stands_first up os) (number_first true) key_at (length os) keys_by_place

  place_again : (p : ℕ) → p < length os → place_of (key_at p) ≡ pos p
  place_again p l =
      ap pos (low_part (height up least last (get_or os p None)) p (omega (arith, few, l)))

  places_again : (ps : List ℕ) → AllBelow (length os) ps
      → map place_of (map key_at ps) ≡ map pos ps
  places_again [] h = refl
  places_again (p ∷ ps) h = ap₂ (λ z zs. z ∷ zs) (place_again p h.0) (places_again ps h.1)

  -- keys in order tell the places in order
  pub order_by_keys : (zs : List ℤ)
      → zs ≡ sort_numbers true (map key_at (range_with_len 0 (length os)))
      → map place_of zs ≡ map pos (order up os)
  order_by_keys zs e =
      ap (map place_of) (e ∙ sym keys_sorted)
      ∙ places_again (order up os) (places_below (stands_first up os) (length os))
