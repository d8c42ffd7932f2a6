-- Offsets and an index of values by place, and what stands there.
use Rattle.std.proofs.Common.{◌≡◌, ℕ, zero, suc, ◌+◌, ◌-◌, ◌<◌, ◌≤◌, refl, ap, arith, subst, ◌∙◌}
use Rattle.std.specs.Prelude.{List, [], ◌∷◌, map, filter, length, get_or, ℤ, pos, negsuc, ◌<ℤ◌}
use Rattle.std.specs.List.{range_with_len, AllByRecursion}
use Rattle.std.proofs.lemmas.Int.{ints}
use Rattle.std.proofs.lemmas.List.{length-append, get_or_append_left, get_or-append-add}
use Rattle.awk_base.proofs.Ranges.{map-in, map-suc}
use Rattle.awk_types.specs.Parts.{IsList}
use Rattle.awk_types.specs.Simple.{in_list, in_option}
use Rattle.awk_types.specs.Value.{Value, int, truth, null, list, row, alt, value, value_list}
use Rattle.awk_types.specs.Value.{values_from}
use Rattle.awk_lanes.specs.Numbers.{nat_of}
use Rattle.awk_lanes.specs.Places.{option_place}
use Rattle.awk_layout.specs.Item.{run, at_option}
use Rattle.awk_columns.specs.Columns.{list_items, joined_items, is_present, offsets, option_index}

-- ---- ranges

-- a list of what a function gives of each of other values
run-by : (g : Value → Value) (h : ℕ → Value) (a : ℕ) (ws : List Value)
    → ((k : ℕ) → k < length ws → h (a + k) ≡ g (get_or ws k null))
    → run h a (length ws) ≡ values_from (map g ws)
run-by g h a [] e = refl
run-by g h a (w ∷ ws) e =
    let z : a + 0 ≡ a = omega arith in
    ap (λ v. value v (run h (suc a) (length ws))) (subst (λ b. h b ≡ g w) z (e 0 (omega arith)))
    ∙ ap (value (g w)) (run-by g h (suc a) ws (λ k l.
    let s : a + suc k ≡ suc a + k = omega arith in
    subst (λ b. h b ≡ g (get_or ws k null)) s (e (suc k) (omega (arith, l)))))

-- ---- lists

-- where list i begins, if the first one begins at a
abbrev pub start_at : ℕ → List Value → ℕ → ℕ
start_at a vs i = nat_of (get_or (offsets a vs) i (pos 0))

pub length-offsets : (a : ℕ) (vs : List Value) → length (offsets a vs) ≡ length vs + 1
length-offsets a [] = refl
length-offsets a (v ∷ vs) = omega (arith, length-offsets (a + length (list_items v)) vs)

-- the number there is no less than 0
pub offset-pos : (a : ℕ) (vs : List Value) (i : ℕ)
    → get_or (offsets a vs) i (pos 0) ≡ pos (start_at a vs i)
offset-pos a [] zero = refl
offset-pos a [] (suc i) = refl
offset-pos a (v ∷ vs) zero = refl
offset-pos a (v ∷ vs) (suc i) = offset-pos (a + length (list_items v)) vs i

pub start-first : (a : ℕ) (vs : List Value) → start_at a vs 0 ≡ a
start-first a [] = refl
start-first a (v ∷ vs) = refl

pub start-last : (a : ℕ) (vs : List Value)
    → start_at a vs (length vs) ≡ a + length (joined_items vs)
start-last a [] = omega arith
start-last a (v ∷ vs) =
    omega (
      arith,
      start-last (a + length (list_items v)) vs,
      length-append (list_items v) (joined_items vs),
    )

-- a list begins where the one before ends
pub start-next : (a : ℕ) (vs : List Value) (i : ℕ) → i < length vs
    → start_at a vs (i + 1) ≡ start_at a vs i + length (list_items (get_or vs i null))
start-next a [] i l = absurd (omega (arith, l))
start-next a (v ∷ vs) zero l = start-first (a + length (list_items v)) vs
start-next a (v ∷ vs) (suc i) l =
    let e : suc i + 1 ≡ suc (i + 1) = omega arith in
    ap (start_at a (v ∷ vs)) e
    ∙ start-next (a + length (list_items v)) vs i (omega (arith, l))

-- each list ends within all items
pub start-within : (a : ℕ) (vs : List Value) (i : ℕ) → i < length vs
    → start_at a vs (i + 1) ≤ a + length (joined_items vs)
start-within a [] i l = absurd (omega (arith, l))
start-within a (v ∷ vs) zero l =
    omega (
      arith,
      start-first (a + length (list_items v)) vs,
      length-append (list_items v) (joined_items vs),
    )
start-within a (v ∷ vs) (suc i) l =
    let e : suc i + 1 ≡ suc (i + 1) = omega arith in
    let f : start_at a (v ∷ vs) (suc i + 1) ≡ start_at (a + length (list_items v)) vs (i + 1) =
    ap (start_at a (v ∷ vs)) e in
    omega (
      arith,
      f,
      start-within (a + length (list_items v)) vs i (omega (arith, l)),
      length-append (list_items v) (joined_items vs),
    )

list-head : (g : Value → Value) (h : ℕ → Value) (a b : ℕ) (v : Value) → IsList v
    → b ≡ a + length (list_items v)
    → ((k : ℕ) → k < length (list_items v) → h (a + k) ≡ g (get_or (list_items v) k null))
    → list (run h a (b - a)) ≡ in_list g v
list-head g h a b (list ws) l e each =
    let n : b - a ≡ length (value_list ws) = omega (arith, e) in
    ap (λ m. list (run h a m)) n ∙ ap list (run-by g h a (value_list ws) each)
list-head g h a b (int z) l e each = absurd l
list-head g h a b (truth t) l e each = absurd l
list-head g h a b null l e each = absurd l
list-head g h a b (row ws) l e each = absurd l
list-head g h a b (alt k w) l e each = absurd l

-- the lists between offsets, of what a function gives of each of their items
pub lists-by : (g : Value → Value) (h : ℕ → Value) (a : ℕ) (vs : List Value)
    → AllByRecursion IsList vs
    → ((k : ℕ) → k < length (joined_items vs) → h (a + k) ≡ g (get_or (joined_items vs) k null))
    → map (λ i. list (run h (start_at a vs i) (start_at a vs (i + 1) - start_at a vs i)))
    (range_with_len 0 (length vs)) ≡ map (in_list g) vs
lists-by g h a [] l e = refl
lists-by g h a (v ∷ vs) l e =
    let ws = list_items v in
    let rest = joined_items vs in
    let b = a + length ws in
    let at : ℕ → Value = λ i. list (run h (start_at a (v ∷ vs) i)
    (start_at a (v ∷ vs) (i + 1) - start_at a (v ∷ vs) i)) in
    let next : ℕ → Value = λ i. list (run h (start_at b vs i)
    (start_at b vs (i + 1) - start_at b vs i)) in
    let same : (i : ℕ) → i < 0 + length vs → at (i + 1) ≡ next i = λ i q. shifted i in
    ap (λ w. w ∷ map at (range_with_len 1 (length vs)))
    (list-head g h a (start_at a (v ∷ vs) 1) v l.0 (start-first b vs) (λ k q.
    e k (omega (arith, q, length-append ws rest))
    ∙ ap g (get_or_append_left ws rest null k q)))
    ∙ ap (λ us. in_list g v ∷ us)
    (map-suc at 0 (length vs)
    ∙ map-in (λ i. at (i + 1)) next 0 (length vs) same
    ∙ lists-by g h b vs l.1 (λ k q.
    let s : a + (length ws + k) ≡ b + k = omega arith in
    subst (λ c. h c ≡ g (get_or rest k null)) s
    (e (length ws + k) (omega (arith, q, length-append ws rest))
    ∙ ap g (get_or-append-add ws rest k null))))
  where
    shifted : (i : ℕ)
        → list (run h (start_at a (v ∷ vs) (i + 1))
        (start_at a (v ∷ vs) (i + 1 + 1) - start_at a (v ∷ vs) (i + 1)))
        ≡ list (run h (start_at (a + length (list_items v)) vs i)
        (start_at (a + length (list_items v)) vs (i + 1)
        - start_at (a + length (list_items v)) vs i))
    shifted i =
        let p : i + 1 ≡ suc i = omega arith in
        let q : i + 1 + 1 ≡ suc (i + 1) = omega arith in
        ap (λ k. list (run h (start_at a (v ∷ vs) k)
        (start_at a (v ∷ vs) (i + 1 + 1) - start_at a (v ∷ vs) k))) p
        ∙ ap (λ k. list (run h (start_at (a + length (list_items v)) vs i)
        (start_at a (v ∷ vs) k - start_at (a + length (list_items v)) vs i))) q

-- ---- nulls

index-step : (n m : ℕ) (zs : List ℤ) (i k : ℕ) → i < suc m
    → ((j : ℕ) → j < m → get_or zs j (pos 0) <ℤ pos (suc n + k))
    → get_or (pos n ∷ zs) i (pos 0) <ℤ pos (n + suc k)
index-step n m zs zero k l e = omega (arith, ints)
index-step n m zs (suc i) k l e =
    let s : suc n + k ≡ n + suc k = omega arith in
    subst (λ j. get_or zs i (pos 0) <ℤ pos j) s (e i (omega (arith, l)))

-- each number of an index is below the count of what is there
pub index-below : (n : ℕ) (vs : List Value) (i : ℕ) → i < length vs
    → get_or (option_index n vs) i (pos 0) <ℤ pos (n + length (filter is_present vs))
index-below n [] i l = absurd (omega (arith, l))
index-below n (null ∷ vs) zero l = omega (arith, ints)
index-below n (null ∷ vs) (suc i) l = index-below n vs i (omega (arith, l))
index-below n (int z ∷ vs) i l =
    index-step n (length vs) (option_index (suc n) vs) i (length (filter is_present vs)) l
    (λ j q. index-below (suc n) vs j q)
index-below n (truth b ∷ vs) i l =
    index-step n (length vs) (option_index (suc n) vs) i (length (filter is_present vs)) l
    (λ j q. index-below (suc n) vs j q)
index-below n (list ws ∷ vs) i l =
    index-step n (length vs) (option_index (suc n) vs) i (length (filter is_present vs)) l
    (λ j q. index-below (suc n) vs j q)
index-below n (row ws ∷ vs) i l =
    index-step n (length vs) (option_index (suc n) vs) i (length (filter is_present vs)) l
    (λ j q. index-below (suc n) vs j q)
index-below n (alt k w ∷ vs) i l =
    index-step n (length vs) (option_index (suc n) vs) i (length (filter is_present vs)) l
    (λ j q. index-below (suc n) vs j q)

nulls-step : (h : ℕ → Value) (z : ℤ) (zs : List ℤ) (m : ℕ) (w : Value) (ws : List Value)
    → at_option (option_place z) h ≡ w
    → map (λ i. at_option (option_place (get_or zs i (pos 0))) h) (range_with_len 0 m) ≡ ws
    → map (λ i. at_option (option_place (get_or (z ∷ zs) i (pos 0))) h) (range_with_len 0 (suc m))
    ≡ w ∷ ws
nulls-step h z zs m w ws e f =
    let at : ℕ → Value = λ i. at_option (option_place (get_or (z ∷ zs) i (pos 0))) h in
    let next : ℕ → Value = λ i. at_option (option_place (get_or zs i (pos 0))) h in
    ap (λ v. v ∷ map at (range_with_len 1 m)) e
    ∙ ap (λ us. w ∷ us)
    (map-suc at 0 m ∙ map-in (λ i. at (i + 1)) next 0 m (λ i q. shifted i) ∙ f)
  where
    shifted : (i : ℕ) → at_option (option_place (get_or (z ∷ zs) (i + 1) (pos 0))) h
        ≡ at_option (option_place (get_or zs i (pos 0))) h
    shifted i =
        let p : i + 1 ≡ suc i = omega arith in
        ap (λ k. at_option (option_place (get_or (z ∷ zs) k (pos 0))) h) p

first-of : (g : Value → Value) (h : ℕ → Value) (n : ℕ) (v : Value) (ws : List Value)
    → ((k : ℕ) → k < suc (length ws) → h (n + k) ≡ g (get_or (v ∷ ws) k null)) → h n ≡ g v
first-of g h n v ws e =
    let z : n + 0 ≡ n = omega arith in
    subst (λ b. h b ≡ g v) z (e 0 (omega arith))

rest-of : (g : Value → Value) (h : ℕ → Value) (n : ℕ) (v : Value) (ws : List Value)
    → ((k : ℕ) → k < suc (length ws) → h (n + k) ≡ g (get_or (v ∷ ws) k null))
    → (k : ℕ) → k < length ws → h (suc n + k) ≡ g (get_or ws k null)
rest-of g h n v ws e k l =
    let s : n + suc k ≡ suc n + k = omega arith in
    subst (λ b. h b ≡ g (get_or ws k null)) s (e (suc k) (omega (arith, l)))

-- what an index leads to, where a function gives it of what is there
pub nulls-by : (g : Value → Value) (h : ℕ → Value) (n : ℕ) (vs : List Value)
    → ((k : ℕ) → k < length (filter is_present vs)
    → h (n + k) ≡ g (get_or (filter is_present vs) k null))
    → map (λ i. at_option (option_place (get_or (option_index n vs) i (pos 0))) h)
    (range_with_len 0 (length vs)) ≡ map (in_option g) vs
nulls-by g h n [] e = refl
nulls-by g h n (null ∷ vs) e =
    nulls-step h (negsuc 0) (option_index n vs) (length vs) null (map (in_option g) vs) refl
    (nulls-by g h n vs e)
nulls-by g h n (int z ∷ vs) e =
    nulls-step h (pos n) (option_index (suc n) vs) (length vs) (g (int z)) (map (in_option g) vs)
    (first-of g h n (int z) (filter is_present vs) e)
    (nulls-by g h (suc n) vs (rest-of g h n (int z) (filter is_present vs) e))
nulls-by g h n (truth b ∷ vs) e =
    nulls-step h (pos n) (option_index (suc n) vs) (length vs) (g (truth b)) (map (in_option g) vs)
    (first-of g h n (truth b) (filter is_present vs) e)
    (nulls-by g h (suc n) vs (rest-of g h n (truth b) (filter is_present vs) e))
nulls-by g h n (list us ∷ vs) e =
    nulls-step h (pos n) (option_index (suc n) vs) (length vs) (g (list us)) (map (in_option g) vs)
    (first-of g h n (list us) (filter is_present vs) e)
    (nulls-by g h (suc n) vs (rest-of g h n (list us) (filter is_present vs) e))
nulls-by g h n (row us ∷ vs) e =
    nulls-step h (pos n) (option_index (suc n) vs) (length vs) (g (row us)) (map (in_option g) vs)
    (first-of g h n (row us) (filter is_present vs) e)
    (nulls-by g h (suc n) vs (rest-of g h n (row us) (filter is_present vs) e))
nulls-by g h n (alt k w ∷ vs) e =
    nulls-step h (pos n) (option_index (suc n) vs) (length vs) (g (alt k w)) (map (in_option g) vs)
    (first-of g h n (alt k w) (filter is_present vs) e)
    (nulls-by g h (suc n) vs (rest-of g h n (alt k w) (filter is_present vs) e))
