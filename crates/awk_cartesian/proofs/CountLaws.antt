-- How many tuples there are, and the rows that they make.
use Rattle.std.specs.Prelude.{◌≡◌, refl, ℕ, zero, suc, ◌+◌, ◌*◌, ◌<◌, Bool, true, false}
use Rattle.std.specs.Prelude.{◌&&◌, if◌then◌else◌, List, [], ◌∷◌, ◌++◌, length, map}
use Rattle.std.specs.List.{range_with_len, flat_map, list_all}
use Rattle.std.proofs.Common.{arith, ap, ap₂, sym, ◌∙◌}
use Rattle.std.proofs.lemmas.List.{length-append, length-map, append-nil}
use Rattle.std.proofs.lemmas.List.Folds.{flat_map-map}
use Rattle.awk_base.proofs.Ranges.{range-last}
use Rattle.awk_types.specs.Value.{Value, int, truth, null, list, row, alt, values_from}
use Rattle.awk_types.proofs.Trees.{value_list-from}
use Rattle.awk_lanes.specs.Counted.{before}
use Rattle.awk_columns.specs.Columns.{is_present, list_items, joined_items}
use Rattle.awk_places.specs.Places.{place_lists, place_count}
use Rattle.awk_places.proofs.Levels.{length-place_lists}
use Rattle.awk_places.proofs.RunLaws.{none_there}
use Rattle.awk_merge_operands.specs.Concatenate.{row_of, row_count}
use Rattle.awk_cartesian.specs.Cartesian.{row_tuples, rows_tuples}
use Rattle.awk_products.specs.Tuples.{tuple_of, tuples_of}

pub length-tuples : (places : Bool) (vss : List (List Value))
    → length (tuples_of places vss) ≡ place_count (map length vss)
length-tuples places vss =
    length-map (place_lists (map length vss)) (tuple_of places vss)
    ∙ length-place_lists (map length vss)

-- a row with a null has no tuple
no_count : (v : Value) (vs : List Value) → is_present v ≡ false
    → place_count (map length (map list_items (v ∷ vs))) ≡ 0
no_count null vs e =
    let z : 0 * place_count (map length (map list_items vs)) ≡ 0 = omega arith in z
no_count (int z) vs e = absurd (cc)
no_count (truth b) vs e = absurd (cc)
no_count (list ws) vs e = absurd (cc)
no_count (row ws) vs e = absurd (cc)
no_count (alt k w) vs e = absurd (cc)

none_counted : (vs : List Value) → list_all is_present vs ≡ false
    → place_count (map length (map list_items vs)) ≡ 0
none_counted [] e = absurd (cc)
none_counted (v ∷ vs) e = go (is_present v) refl (λ g. none_counted vs g)
  where
    go : (b : Bool) → is_present v ≡ b
        → (list_all is_present vs ≡ false → place_count (map length (map list_items vs)) ≡ 0)
        → place_count (map length (map list_items (v ∷ vs))) ≡ 0
    go false f h = no_count v vs f
    go true f h =
        let g : list_all is_present vs ≡ false =
        sym (ap (λ b. b && list_all is_present vs) f) ∙ e in
        let m : ℕ = length (list_items v) in
        let z : m * 0 ≡ 0 = omega arith in
        ap (λ c. m * c) (h g) ∙ z

pub row-items : (places : Bool) (vs : List Value)
    → list_items (row_tuples places vs) ≡ tuples_of places (map list_items vs)
row-items places vs = go (list_all is_present vs) refl
  where
    go : (b : Bool) → list_all is_present vs ≡ b
        → list_items (if list_all is_present vs
        then list (values_from (tuples_of places (map list_items vs))) else null)
        ≡ tuples_of places (map list_items vs)
    go true e =
        ap (λ b. list_items (if b then list (values_from (tuples_of places (map list_items vs)))
        else null)) e
        ∙ value_list-from (tuples_of places (map list_items vs))
    go false e =
        ap (λ b. list_items (if b then list (values_from (tuples_of places (map list_items vs)))
        else null)) e
        ∙ sym (ap (map (tuple_of places (map list_items vs)))
        (none_there (map length (map list_items vs)) (none_counted vs e)))

-- how many items lists have together
length-joined : (g : ℕ → Value) (m : ℕ → ℕ) (n : ℕ)
    → ((i : ℕ) → i < n → length (list_items (g i)) ≡ m i)
    → length (joined_items (map g (range_with_len 0 n))) ≡ before m n
length-joined g m n h =
    ap length (flat_map-map list_items g (range_with_len 0 n)) ∙ go n h
  where
    go : (n : ℕ) → ((i : ℕ) → i < n → length (list_items (g i)) ≡ m i)
        → length (flat_map (λ i. list_items (g i)) (range_with_len 0 n)) ≡ before m n
    go zero h = refl
    go (suc n) h =
        ap (λ is. length (flat_map (λ i. list_items (g i)) is)) (range-last n)
        ∙ more (range_with_len 0 n) n
        ∙ ap₂ (λ a b. a + b) (go n (λ i p. h i (omega (arith, p)))) (h n (omega arith))
      where
        more : (is : List ℕ) (k : ℕ)
            → length (flat_map (λ i. list_items (g i)) (is ++ k ∷ []))
            ≡ length (flat_map (λ i. list_items (g i)) is) + length (list_items (g k))
        more [] k =
            let e : 0 + length (list_items (g k)) ≡ length (list_items (g k)) = omega arith in
            ap length (append-nil (list_items (g k))) ∙ sym e
        more (i ∷ is) k =
            length-append (list_items (g i))
            (flat_map (λ i. list_items (g i)) (is ++ k ∷ []))
            ∙ omega (
              arith,
              more is k,
              length-append (list_items (g i)) (flat_map (λ i. list_items (g i)) is),
            )

-- how many tuples the rows have together
pub count-rows : (places : Bool) (vss : List (List Value)) (m : ℕ → ℕ) (n : ℕ)
    → row_count vss ≡ n
    → ((i : ℕ) → i < n → place_count (map length (map list_items (row_of vss i))) ≡ m i)
    → length (joined_items (rows_tuples places vss)) ≡ before m n
count-rows places vss m n e h =
    ap (λ k. length (joined_items (map (λ i. row_tuples places (row_of vss i))
    (range_with_len 0 k)))) e
    ∙ length-joined (λ i. row_tuples places (row_of vss i)) m n
    (λ i p. ap length (row-items places (row_of vss i))
    ∙ length-tuples places (map list_items (row_of vss i)) ∙ h i p)
