-- Lists of places made place after place: each list with each place that may follow it.
use Rattle.std.specs.Prelude.{◌≡◌, refl, ℕ, zero, suc, ◌+◌, ◌-◌, ◌*◌, ◌≤◌, Bool, true, false}
use Rattle.std.specs.Prelude.{if◌then◌else◌, List, [], ◌∷◌, ◌++◌, length}
use Rattle.std.specs.List.{range_with_len, flat_map}
use Rattle.std.proofs.Common.{arith, ap, ap₂, sym, ◌∙◌}
use Rattle.std.proofs.lemmas.List.{length-append, length-map, map-append, append-nil}
use Rattle.std.proofs.lemmas.Simd.{map-map}
use Rattle.awk_places.proofs.FlatLaws.{flat-flat, flat-same}
use Rattle.awk_places.specs.Places.{before_each, place_lists, next_place, after_each, next_after}
use Rattle.awk_places.specs.Places.{places_from, place_count, rising_from}

singles : (js : List ℕ) → flat_map (λ k. before_each k ([] ∷ [])) js ≡ after_each [] js
singles [] = refl
singles (j ∷ js) = ap (λ kss. (j ∷ []) ∷ kss) (singles js)

-- what follows a list of places follows it also after a first place
after_before : (r s : List ℕ → List ℕ) (k : ℕ) → ((ks : List ℕ) → r (k ∷ ks) ≡ s ks)
    → (kss : List (List ℕ))
    → flat_map (λ ks. after_each ks (r ks)) (before_each k kss)
    ≡ before_each k (flat_map (λ ks. after_each ks (s ks)) kss)
after_before r s k h [] = refl
after_before r s k h (ks ∷ kss) =
    ap₂ (λ xs ys. xs ++ ys)
    (ap (after_each (k ∷ ks)) (h ks)
    ∙ sym (map-map (λ js. k ∷ js) (λ (j : ℕ). ks ++ j ∷ []) (s ks)))
    (after_before r s k h kss)
    ∙ sym (map-append (λ js. k ∷ js) (after_each ks (s ks))
    (flat_map (λ ks. after_each ks (s ks)) kss))

-- ---- one place of each list

length-each : (kss : List (List ℕ)) (a n : ℕ)
    → length (flat_map (λ k. before_each k kss) (range_with_len a n)) ≡ n * length kss
length-each kss a zero = grind arith
length-each kss a (suc n) =
    length-append (before_each a kss) (flat_map (λ k. before_each k kss) (range_with_len (a + 1) n))
    ∙ ap₂ (λ p q. p + q) (length-map kss (λ ks. a ∷ ks)) (length-each kss (a + 1) n)
    ∙ grind arith

pub length-place_lists : (ms : List ℕ) → length (place_lists ms) ≡ place_count ms
length-place_lists [] = refl
length-place_lists (m ∷ ms) =
    length-each (place_lists ms) 0 m ∙ ap (λ n. m * n) (length-place_lists ms)

-- ---- places of one list that go up

-- how much less the places before a last one may be
abbrev pub room_after : Bool → ℕ
room_after rep = if rep then 0 else 1

none_from : (rep : Bool) (n a m : ℕ) → m ≤ a → rising_from rep (suc n) a m ≡ []
none_from rep n a m l =
    let e : m - a ≡ 0 = omega (arith, l) in
    ap (λ d. flat_map (λ k. before_each k (rising_from rep n (next_place rep k) m))
    (range_with_len a d)) e

last_empty : (g : ℕ → List (List ℕ)) (a d : ℕ) → g (a + d) ≡ []
    → flat_map g (range_with_len a (suc d)) ≡ flat_map g (range_with_len a d)
last_empty g a zero h =
    let e : a ≡ a + 0 = omega arith in
    append-nil (g a) ∙ ap g e ∙ h
last_empty g a (suc d) h =
    let e : a + 1 + d ≡ a + suc d = omega arith in
    ap (λ xs. g a ++ xs) (last_empty g (a + 1) d (ap g e ∙ h))

-- the last first place leaves no room for another
shorter : (rep : Bool) (n a m : ℕ)
    → flat_map (λ k. before_each k (rising_from rep (suc n) (next_place rep k) m))
    (range_with_len a (m - a))
    ≡ flat_map (λ k. before_each k (rising_from rep (suc n) (next_place rep k) m))
    (range_with_len a (m - room_after rep - a))
shorter true n a m =
    let e : m - a ≡ m - 0 - a = omega arith in
    ap (λ d. flat_map (λ k. before_each k (rising_from true (suc n) k m)) (range_with_len a d)) e
shorter false n a m = go (m - a) (m - 1 - a) refl refl
  where
    go : (c d : ℕ) → m - a ≡ c → m - 1 - a ≡ d
        → flat_map (λ k. before_each k (rising_from false (suc n) (k + 1) m)) (range_with_len a c)
        ≡ flat_map (λ k. before_each k (rising_from false (suc n) (k + 1) m)) (range_with_len a d)
    go zero d e f =
        let z : 0 ≡ d = omega (arith, e, f) in
        ap (λ b. flat_map (λ k. before_each k (rising_from false (suc n) (k + 1) m))
        (range_with_len a b)) z
    go (suc c) d e f =
        let z : c ≡ d = omega (arith, e, f) in
        last_empty (λ k. before_each k (rising_from false (suc n) (k + 1) m)) a c
        (ap (before_each (a + c)) (none_from false n (a + c + 1) m (omega (arith, e))))
        ∙ ap (λ b. flat_map (λ k. before_each k (rising_from false (suc n) (k + 1) m))
        (range_with_len a b)) z

-- each list of one place less, with each place that may follow it
pub rising_from-more : (rep : Bool) (n a m : ℕ) → rising_from rep (suc n) a m
    ≡ flat_map (λ ks. after_each ks (places_from (next_after rep a ks) m))
    (rising_from rep n a (m - room_after rep))
rising_from-more rep zero a m =
    singles (places_from a m) ∙ sym (append-nil (after_each [] (places_from a m)))
rising_from-more rep (suc n) a m =
    shorter rep n a m
    ∙ flat-same (λ k. before_each k (rising_from rep (suc n) (next_place rep k) m))
    (λ k. before_each k
    (flat_map (λ ks. after_each ks (places_from (next_after rep (next_place rep k) ks) m))
    (rising_from rep n (next_place rep k) (m - room_after rep))))
    (λ k. ap (before_each k) (rising_from-more rep n (next_place rep k) m))
    (range_with_len a (m - room_after rep - a))
    ∙ sym (flat-flat (λ ks. after_each ks (places_from (next_after rep a ks) m))
    (λ k. before_each k (rising_from rep n (next_place rep k) (m - room_after rep)))
    (range_with_len a (m - room_after rep - a))
    ∙ flat-same
    (λ k. flat_map (λ ks. after_each ks (places_from (next_after rep a ks) m))
    (before_each k (rising_from rep n (next_place rep k) (m - room_after rep))))
    (λ k. before_each k
    (flat_map (λ ks. after_each ks (places_from (next_after rep (next_place rep k) ks) m))
    (rising_from rep n (next_place rep k) (m - room_after rep))))
    (λ k. after_before (λ ks. places_from (next_after rep a ks) m)
    (λ ks. places_from (next_after rep (next_place rep k) ks) m) k (λ ks. refl)
    (rising_from rep n (next_place rep k) (m - room_after rep)))
    (range_with_len a (m - room_after rep - a)))
