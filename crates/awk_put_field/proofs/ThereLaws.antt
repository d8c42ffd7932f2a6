-- The items of a column at the places where an index names an item.
use Rattle.std.proofs.Common.{◌≡◌, ℕ, zero, suc, ◌<◌, ◌≤◌, Bool, true, false, refl, ap, sym}
use Rattle.std.proofs.Common.{◌∙◌, arith, subst, take}
use Rattle.std.specs.Prelude.{List, [], ◌∷◌, ◌++◌, map, filter, length, get_or, ℤ, pos}
use Rattle.std.specs.Prelude.{is_some, if◌then◌else◌}
use Rattle.std.specs.List.{range_with_len}
use Rattle.std.proofs.lemmas.List.{take_all, map-append, length-map}
use Rattle.awk_types.specs.Value.{Value, int, truth, null, list, row, alt}
use Rattle.awk_lanes.specs.Counted.{before, numbers_of_lists, items_lane}
use Rattle.awk_lanes.specs.Column.{Column}
use Rattle.awk_lanes.specs.Places.{size_of, option_place, IsIndex}
use Rattle.awk_lanes.specs.declared.kind.Kind.TheVariants.{I64}
use Rattle.awk_lanes.proofs.CountedLanes.{length-numbers}
use Rattle.awk_layout.specs.Item.{at_option}
use Rattle.awk_gather.specs.Arrays.{pick}
use Rattle.awk_columns.specs.Columns.{is_present, option_index}
use Rattle.awk_counts.specs.Counted.{first_of}
use Rattle.awk_counts.proofs.PlacesBelow.{same-below}
use Rattle.awk_columns.proofs.ReachedContents.{below-first_of, places_index}
use Rattle.awk_columns.proofs.PresentItems.{fewer-present, length-option_index}
use Rattle.awk_frames.specs.Shape.{index_column}
use Rattle.awk_pair_sides.proofs.PlaceLaws.{place-numbers}
use Rattle.awk_put_field.specs.Depths.{one_if}
use Rattle.awk_put_field.specs.There.{beside_present, there_length}

-- ---- which items an index names

index-there : (n i : ℕ) (vs : List Value) → i < length vs
    → is_some (option_place (get_or (option_index n vs) i (pos 0))) ≡ is_present (get_or vs i null)
index-there n i [] l = absurd (omega (arith, l))
index-there n zero (null ∷ vs) l = refl
index-there n zero (int z ∷ vs) l = refl
index-there n zero (truth b ∷ vs) l = refl
index-there n zero (list ws ∷ vs) l = refl
index-there n zero (row ws ∷ vs) l = refl
index-there n zero (alt k w ∷ vs) l = refl
index-there n (suc i) (null ∷ vs) l = index-there n i vs (omega (arith, l))
index-there n (suc i) (int z ∷ vs) l = index-there (suc n) i vs (omega (arith, l))
index-there n (suc i) (truth b ∷ vs) l = index-there (suc n) i vs (omega (arith, l))
index-there n (suc i) (list ws ∷ vs) l = index-there (suc n) i vs (omega (arith, l))
index-there n (suc i) (row ws ∷ vs) l = index-there (suc n) i vs (omega (arith, l))
index-there n (suc i) (alt k w ∷ vs) l = index-there (suc n) i vs (omega (arith, l))

there-at : (i : ℕ) (vs : List Value) → i < length vs
    → there_length (index_column vs) i ≡ one_if (is_present (get_or vs i null))
there-at i vs l = ap one_if (index-there 0 i vs l)

-- ---- the values beside those that are present

abbrev only_if : Bool → Value → List Value
only_if b w = if b then w ∷ [] else []

-- one more place
beside-next : (i : ℕ) (vs ws : List Value) → i < length vs → length ws ≡ length vs
    → beside_present (take (suc i) vs) (take (suc i) ws)
    ≡ beside_present (take i vs) (take i ws)
    ++ only_if (is_present (get_or vs i null)) (get_or ws i null)
beside-next i [] ws l e = absurd (omega (arith, l))
beside-next i (v ∷ vs) [] l e = absurd (omega (arith, e))
beside-next zero (null ∷ vs) (w ∷ ws) l e = refl
beside-next zero (int z ∷ vs) (w ∷ ws) l e = refl
beside-next zero (truth b ∷ vs) (w ∷ ws) l e = refl
beside-next zero (list us ∷ vs) (w ∷ ws) l e = refl
beside-next zero (row us ∷ vs) (w ∷ ws) l e = refl
beside-next zero (alt k u ∷ vs) (w ∷ ws) l e = refl
beside-next (suc i) (null ∷ vs) (w ∷ ws) l e =
    beside-next i vs ws (omega (arith, l)) (omega (arith, e))
beside-next (suc i) (int z ∷ vs) (w ∷ ws) l e =
    ap (λ us. w ∷ us) (beside-next i vs ws (omega (arith, l)) (omega (arith, e)))
beside-next (suc i) (truth b ∷ vs) (w ∷ ws) l e =
    ap (λ us. w ∷ us) (beside-next i vs ws (omega (arith, l)) (omega (arith, e)))
beside-next (suc i) (list us ∷ vs) (w ∷ ws) l e =
    ap (λ us. w ∷ us) (beside-next i vs ws (omega (arith, l)) (omega (arith, e)))
beside-next (suc i) (row us ∷ vs) (w ∷ ws) l e =
    ap (λ us. w ∷ us) (beside-next i vs ws (omega (arith, l)) (omega (arith, e)))
beside-next (suc i) (alt k u ∷ vs) (w ∷ ws) l e =
    ap (λ us. w ∷ us) (beside-next i vs ws (omega (arith, l)) (omega (arith, e)))

-- what stands at a place of a list, or null
abbrev picked : List Value → ℤ → Value
picked ws z = at_option (option_place z) (λ k. get_or ws k null)

picked-one : (ws : List Value) (i m : ℕ) (b : Bool) → m ≡ one_if b
    → map (picked ws) (map (λ k. pos i) (range_with_len 0 m)) ≡ only_if b (get_or ws i null)
picked-one ws i m true e =
    ap (λ n. map (picked ws) (map (λ k. pos i) (range_with_len 0 n))) e
picked-one ws i m false e =
    ap (λ n. map (picked ws) (map (λ k. pos i) (range_with_len 0 n))) e

picked-there : (m : ℕ → ℕ) (vs ws : List Value) → length ws ≡ length vs
    → ((k : ℕ) → k < length vs → m k ≡ one_if (is_present (get_or vs k null)))
    → (i : ℕ) → i ≤ length vs
    → map (picked ws) (numbers_of_lists m (λ i k. pos i) i)
    ≡ beside_present (take i vs) (take i ws)
picked-there m vs ws e f zero l = refl
picked-there m vs ws e f (suc i) l =
    let q : i < length vs = omega (arith, l) in
    map-append (picked ws) (numbers_of_lists m (λ i k. pos i) i)
    (map (λ k. pos i) (range_with_len 0 (m i)))
    ∙ ap (λ us. us ++ map (picked ws) (map (λ k. pos i) (range_with_len 0 (m i))))
    (picked-there m vs ws e f i (omega (arith, l)))
    ∙ ap (λ us. beside_present (take i vs) (take i ws) ++ us)
    (picked-one ws i (m i) (is_present (get_or vs i null)) (f i q))
    ∙ sym (beside-next i vs ws q e)

-- the numbers of the places
abbrev pub there_numbers : List Value → List ℤ
there_numbers vs =
    numbers_of_lists (there_length (index_column vs)) (λ i k. pos i) (length vs)

pub pick-there : (vs ws : List Value) → length ws ≡ length vs
    → pick ws (there_numbers vs) ≡ beside_present vs ws
pick-there vs ws e =
    picked-there (there_length (index_column vs)) vs ws e (λ k l. there-at k vs l) (length vs)
    (omega arith)
    ∙ ap (λ us. beside_present us (take (length vs) ws)) (take_all (length vs) vs (omega arith))
    ∙ ap (beside_present vs) (take_all (length vs) ws (omega (arith, e)))

-- ---- how many there are

beside-same : (vs : List Value) → beside_present vs vs ≡ filter is_present vs
beside-same [] = refl
beside-same (null ∷ vs) = beside-same vs
beside-same (int z ∷ vs) = ap (λ us. int z ∷ us) (beside-same vs)
beside-same (truth b ∷ vs) = ap (λ us. truth b ∷ us) (beside-same vs)
beside-same (list us ∷ vs) = ap (λ ws. list us ∷ ws) (beside-same vs)
beside-same (row us ∷ vs) = ap (λ ws. row us ∷ ws) (beside-same vs)
beside-same (alt k u ∷ vs) = ap (λ ws. alt k u ∷ ws) (beside-same vs)

pub there-count : (vs : List Value)
    → before (there_length (index_column vs)) (length vs) ≡ length (filter is_present vs)
there-count vs =
    let m = there_length (index_column vs) in
    sym (length-numbers m (λ i k. pos i) (length vs))
    ∙ sym (length-map (there_numbers vs) (picked vs))
    ∙ ap length (pick-there vs vs refl ∙ beside-same vs)

-- as many beside those that are present
pub length-beside : (vs ws : List Value) → length ws ≡ length vs
    → length (beside_present vs ws) ≡ length (filter is_present vs)
length-beside [] [] e = refl
length-beside [] (w ∷ ws) e = refl
length-beside (v ∷ vs) [] e = absurd (omega (arith, e))
length-beside (null ∷ vs) (w ∷ ws) e = length-beside vs ws (omega (arith, e))
length-beside (int z ∷ vs) (w ∷ ws) e = ap suc (length-beside vs ws (omega (arith, e)))
length-beside (truth b ∷ vs) (w ∷ ws) e = ap suc (length-beside vs ws (omega (arith, e)))
length-beside (list us ∷ vs) (w ∷ ws) e = ap suc (length-beside vs ws (omega (arith, e)))
length-beside (row us ∷ vs) (w ∷ ws) e = ap suc (length-beside vs ws (omega (arith, e)))
length-beside (alt k u ∷ vs) (w ∷ ws) e = ap suc (length-beside vs ws (omega (arith, e)))

-- where none is null all are taken
pub beside-all : (vs ws : List Value) → length ws ≡ length vs
    → length (filter is_present vs) ≡ length vs → beside_present vs ws ≡ ws
beside-all [] [] e f = refl
beside-all [] (w ∷ ws) e f = absurd (omega (arith, e))
beside-all (v ∷ vs) [] e f = absurd (omega (arith, e))
beside-all (null ∷ vs) (w ∷ ws) e f = absurd (omega (arith, f, fewer-present vs))
beside-all (int z ∷ vs) (w ∷ ws) e f =
    ap (λ us. w ∷ us) (beside-all vs ws (omega (arith, e)) (omega (arith, f)))
beside-all (truth b ∷ vs) (w ∷ ws) e f =
    ap (λ us. w ∷ us) (beside-all vs ws (omega (arith, e)) (omega (arith, f)))
beside-all (list us ∷ vs) (w ∷ ws) e f =
    ap (λ us. w ∷ us) (beside-all vs ws (omega (arith, e)) (omega (arith, f)))
beside-all (row us ∷ vs) (w ∷ ws) e f =
    ap (λ us. w ∷ us) (beside-all vs ws (omega (arith, e)) (omega (arith, f)))
beside-all (alt k u ∷ vs) (w ∷ ws) e f =
    ap (λ us. w ∷ us) (beside-all vs ws (omega (arith, e)) (omega (arith, f)))

-- ---- where an index names items

same-length : (j : Column) (vs ws : List Value) → j ≡ index_column vs → length ws ≡ size_of j
    → length ws ≡ length vs
same-length j vs ws e l = l ∙ ap size_of e ∙ length-option_index 0 vs

numbers-there : (j : Column) (vs : List Value) → j ≡ index_column vs
    → numbers_of_lists (there_length j) (λ i k. pos i) (size_of j) ≡ there_numbers vs
numbers-there j vs e =
    ap (λ c. numbers_of_lists (there_length c) (λ i k. pos i) (size_of c)) e
    ∙ ap (numbers_of_lists (there_length (index_column vs)) (λ i k. pos i))
    (length-option_index 0 vs)

pub count-there : (j : Column) (vs : List Value) → j ≡ index_column vs
    → before (there_length j) (size_of j) ≡ length (filter is_present vs)
count-there j vs e =
    ap (λ c. before (there_length c) (size_of c)) e
    ∙ ap (before (there_length (index_column vs))) (length-option_index 0 vs) ∙ there-count vs

pub all_taken : (j : Column) (n : ℕ) (vs ws : List Value) → j ≡ index_column vs
    → length ws ≡ size_of j → n ≡ before (there_length j) (size_of j) → n ≡ size_of j
    → ws ≡ beside_present vs ws
all_taken j n vs ws e l c f =
    let s : size_of j ≡ length vs = ap size_of e ∙ length-option_index 0 vs in
    sym (beside-all vs ws (same-length j vs ws e l)
    (omega (arith, count-there j vs e, c, f, s)))

pub some_taken : (j p : Column) (vs ws : List Value) → j ≡ index_column vs
    → length ws ≡ size_of j
    → p ≡ items_lane I64 (there_length j) (λ i k. pos i) (size_of j)
    → pick ws p.items ≡ beside_present vs ws
some_taken j p vs ws e l f =
    ap (λ (c : Column). pick ws c.items) f ∙ ap (pick ws) (numbers-there j vs e)
    ∙ pick-there vs ws (same-length j vs ws e l)

-- ---- each is a place

pub there_places : (m : ℕ → ℕ) (n : ℕ) (p : Column) → p ≡ items_lane I64 m (λ i k. pos i) n
    → IsIndex p n
there_places m n p f =
    subst (λ c. IsIndex c n) (sym f)
    (subst (λ zs. IsIndex (record { kind = I64; items = zs }) n)
    (sym (place-numbers m (λ i k. i) n))
    (places_index n (first_of (λ i. map (λ k. i) (range_with_len 0 (m i))) n)
    (below-first_of n (λ i. map (λ k. i) (range_with_len 0 (m i))) n
    (λ i h. same-below n i 0 (m i) h))))
