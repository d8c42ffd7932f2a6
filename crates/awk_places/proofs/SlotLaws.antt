-- Tuples of lists that are begun, and the lanes of the slots that they make.
use Rattle.std.specs.Prelude.{◌≡◌, refl, ℕ, suc, ◌+◌, ◌-◌, ◌<◌, ◌≤◌, Bool, List, [], ◌∷◌}
use Rattle.std.specs.Prelude.{◌++◌, map, length, get_or, ℤ, pos, negsuc, ◌≤ℤ◌}
use Rattle.std.specs.List.{range_with_len, flat_map, AllByRecursion}
use Rattle.std.proofs.Common.{arith, ap, ap₂, sym, ◌∙◌, subst}
use Rattle.std.proofs.lemmas.Int.{ints}
use Rattle.std.proofs.lemmas.List.{length-append, length-map, get_or-map, length-replicate}
use Rattle.std.proofs.lemmas.List.Concat.{flat_map_single}
use Rattle.std.proofs.lemmas.Simd.{map-map}
use Rattle.awk_types.specs.ItemLimit.{item_limit}
use Rattle.awk_lanes.specs.declared.kind.Kind.TheVariants.{I64}
use Rattle.awk_lanes.specs.Column.{Column}
use Rattle.awk_lanes.specs.Counted.{before}
use Rattle.awk_lanes.specs.Numbers.{nat_of}
use Rattle.awk_lanes.specs.Places.{size_of, at, place_at}
use Rattle.awk_lanes.specs.Words.{integers, column}
use Rattle.awk_lanes.proofs.CountedLanes.{length-numbers}
use Rattle.awk_places.specs.Begun.{longer, again, places_of, begun_of, all_begun, first_begun}
use Rattle.awk_places.specs.Begun.{IsFew, rest_count, last_place, pair_firsts, pair_seconds, Fits}
use Rattle.awk_places.specs.Places.{rising_from, rising_places}
use Rattle.awk_places.specs.Slots.{ArePlaces, tuple_count, slot_place, slot_lane}
use Rattle.awk_places.specs.declared.begun.Begun.{Begun}
use Rattle.awk_places.proofs.BegunLaws.{longer-one, IsLong, all_long, slot-one, last-one}
use Rattle.awk_places.proofs.BegunLaws.{rising_from-shift, fits_longer}
use Rattle.awk_places.proofs.FlatLaws.{flat-flat, map-flat, flat-same, map-same-all}
use Rattle.awk_places.proofs.FlatLaws.{map-in_place, numbers-flat, flat-same-range}
use Rattle.awk_places.proofs.RisingLaws.{rising_places-from}
use Rattle.std.proofs.lemmas.List.FromFn.{map-range_with_len_more}

pub longer-all : (rep : Bool) (j left : ℕ) (s e : Column)
    → flat_map (longer rep left) (all_begun rep j (suc left) s e) ≡ all_begun rep (suc j) left s e
longer-all rep j left s e =
    flat-flat (longer rep left) (begun_of rep j (suc left) s e) (range_with_len 0 (size_of s))
    ∙ flat-same (λ i. flat_map (longer rep left) (begun_of rep j (suc left) s e i))
    (begun_of rep (suc j) left s e)
    (λ i. longer-one rep left j (place_at s i) (place_at e i)) (range_with_len 0 (size_of s))

-- ---- the lanes of the slots

get_or-shift : (c j : ℕ) (ks : List ℕ) → j < length ks
    → get_or (map (λ k. c + k) ks) j 0 ≡ c + get_or ks j 0
get_or-shift c j ks p = get_or-map (λ k. c + k) ks j 0 0 p

-- the places in a slot of the tuples of one list
slot_by : (rep : Bool) (n j : ℕ) (s e : Column) (i : ℕ) → j < n → place_at s i ≤ place_at e i
    → map (λ ks. pos (get_or ks j 0)) (rising_from rep n (place_at s i) (place_at e i))
    ≡ map (slot_place rep n s e j i) (range_with_len 0 (tuple_count rep n s e i))
slot_by rep n j s e i p o =
    let a : ℕ = place_at s i in
    let d : ℕ = place_at e i - a in
    let g : List ℕ → ℤ = λ ks. pos (get_or ks j 0) in
    let x : a ≡ a + 0 = omega arith in
    let y : place_at e i ≡ a + d = omega (arith, o) in
    ap₂ (λ b m. map g (rising_from rep n b m)) x y
    ∙ ap (map g) (rising_from-shift rep a n 0 d)
    ∙ map-map g (map (λ k. a + k)) (rising_from rep n 0 d)
    ∙ map-same-all (IsLong n) (λ ks. g (map (λ k. a + k) ks)) (λ ks. pos (a + get_or ks j 0))
    (λ ks l. ap (λ z. pos z) (get_or-shift a j ks (omega (arith, p, l)))) (rising_from rep n 0 d)
    (all_long rep n 0 d)
    ∙ ap (map (λ ks. pos (a + get_or ks j 0))) (sym (rising_places-from rep n d))
    ∙ sym (map-in_place [] (slot_place rep n s e j i) (λ ks. pos (a + get_or ks j 0))
    (rising_places rep n d) (λ k q. refl))

pub ordered-places : (s e : Column) → ArePlaces s e → (i : ℕ) → i < size_of s
    → place_at s i ≤ place_at e i
ordered-places s e h i p = go (at s i) (at e i) (h.ordered i p)
  where
    go : (x y : ℤ) → (pos 0 ≤ℤ x) × (x ≤ℤ y) → nat_of x ≤ nat_of y
    go (pos a) (pos b) o = omega (arith, ints, o.1)
    go (pos a) (negsuc b) o = absurd (omega (arith, ints, o.0, o.1))
    go (negsuc a) y o = absurd (omega (arith, ints, o.0))

slot_numbers : (rep : Bool) (n j : ℕ) (s e : Column) → ArePlaces s e → j < n
    → flat_map (λ i. map (λ ks. pos (get_or ks j 0))
    (rising_from rep n (place_at s i) (place_at e i))) (range_with_len 0 (size_of s))
    ≡ (slot_lane rep n s e j).items
slot_numbers rep n j s e h p =
    flat-same-range (λ i. map (λ ks. pos (get_or ks j 0))
    (rising_from rep n (place_at s i) (place_at e i)))
    (λ i. map (slot_place rep n s e j i) (range_with_len 0 (tuple_count rep n s e i))) 0 (size_of s)
    (λ i q r. slot_by rep n j s e i p (ordered-places s e h i (omega (arith, r))))
    ∙ sym (numbers-flat (tuple_count rep n s e) (slot_place rep n s e j) (size_of s))

-- what is begun, by its places in a slot, list by list
slot-each : (rep : Bool) (n j a b : ℕ) (s e : Column) (f : Begun → List ℕ) → ArePlaces s e → j < n
    → ((i : ℕ) → flat_map f (begun_of rep a b s e i)
    ≡ map (λ ks. get_or ks j 0) (rising_from rep n (place_at s i) (place_at e i)))
    → integers (flat_map f (all_begun rep a b s e)) ≡ (slot_lane rep n s e j).items
slot-each rep n j a b s e f h p q =
    ap integers (flat-flat f (begun_of rep a b s e) (range_with_len 0 (size_of s)))
    ∙ map-flat (λ (k : ℕ). pos k) (λ i. flat_map f (begun_of rep a b s e i))
    (range_with_len 0 (size_of s))
    ∙ flat-same (λ i. integers (flat_map f (begun_of rep a b s e i)))
    (λ i. map (λ ks. pos (get_or ks j 0)) (rising_from rep n (place_at s i) (place_at e i)))
    (λ i. ap integers (q i)
    ∙ map-map (λ (k : ℕ). pos k) (λ (ks : List ℕ). get_or ks j 0)
    (rising_from rep n (place_at s i) (place_at e i))) (range_with_len 0 (size_of s))
    ∙ slot_numbers rep n j s e h p

-- the last places of what is begun, each as often as it is continued, are those of a slot
pub slot-rests : (rep : Bool) (n j left : ℕ) (s e : Column) → ArePlaces s e → n ≡ suc j + left
    → integers (flat_map (again rep left) (all_begun rep (suc j) left s e))
    ≡ (slot_lane rep n s e j).items
slot-rests rep n j left s e h q =
    slot-each rep n j (suc j) left s e (again rep left) h (omega (arith, q))
    (λ i. slot-one rep left j (place_at s i) (place_at e i)
    ∙ ap (λ k. map (λ ks. get_or ks j 0) (rising_from rep k (place_at s i) (place_at e i))) (sym q))

-- the places that may follow last are those of the last slot
pub slot-last : (rep : Bool) (n j : ℕ) (s e : Column) → ArePlaces s e → n ≡ suc j
    → integers (flat_map places_of (all_begun rep j 1 s e)) ≡ (slot_lane rep n s e j).items
slot-last rep n j s e h q =
    slot-each rep n j j 1 s e places_of h (omega (arith, q))
    (λ i. last-one rep j (place_at s i) (place_at e i)
    ∙ ap (λ k. map (λ ks. get_or ks j 0) (rising_from rep k (place_at s i) (place_at e i))) (sym q))

-- ---- no part is more than all

module _ {X Y : Type 0} (f : X → List Y) where
  all_parts : (most : ℕ) (xs : List X) → length (flat_map f xs) ≤ most
      → AllByRecursion (λ x. length (f x) ≤ most) xs
  all_parts most [] p = tt
  all_parts most (x ∷ xs) p =
      let l = length-append (f x) (flat_map f xs) in
      (omega (arith, p, l), all_parts most xs (omega (arith, p, l)))

pub few-rests : (rep : Bool) (n j left : ℕ) (s e : Column) → ArePlaces s e → n ≡ suc j + left
    → before (tuple_count rep n s e) (size_of s) ≤ item_limit
    → AllByRecursion (IsFew rep left) (all_begun rep (suc j) left s e)
few-rests rep n j left s e h q few =
    let bs : List Begun = all_begun rep (suc j) left s e in
    let l : length (flat_map (again rep left) bs)
    ≡ before (tuple_count rep n s e) (size_of s) =
    sym (length-map (flat_map (again rep left) bs) (λ (k : ℕ). pos k))
    ∙ ap length (slot-rests rep n j left s e h q)
    ∙ length-numbers (tuple_count rep n s e) (slot_place rep n s e j) (size_of s) in
    fewer bs (all_parts (again rep left) item_limit bs (omega (arith, l, few)))
  where
    fewer : (bs : List Begun) → AllByRecursion (λ b. length (again rep left b) ≤ item_limit) bs
        → AllByRecursion (IsFew rep left) bs
    fewer [] h = tt
    fewer (b ∷ bs) h =
        let l = length-replicate (rest_count rep left b.least b.stop) (last_place rep b.least) in
        (omega (arith, l, h.0), fewer bs h.1)

-- ---- where nothing is begun yet

pub all_first : (rep : Bool) (n : ℕ) (s e : Column)
    → map (first_begun s e) (range_with_len 0 (size_of s)) ≡ all_begun rep 0 n s e
all_first rep n s e = sym (flat_map_single (first_begun s e) (range_with_len 0 (size_of s)))

-- ---- slot after slot

module _ (rep : Bool) (n j : ℕ) (s e : Column) where
  pub step_begun : (bs cs : List Begun) → j < n - 1 → bs ≡ all_begun rep j (n - j) s e
      → cs ≡ flat_map (longer rep (n - 1 - j)) bs → cs ≡ all_begun rep (j + 1) (n - (j + 1)) s e
  step_begun bs cs l p q =
      let left : ℕ = n - 1 - j in
      let a : n - j ≡ suc left = omega (arith, l) in
      let b : left ≡ n - (j + 1) = omega (arith, l) in
      let c : suc j ≡ j + 1 = omega arith in
      q ∙ ap (flat_map (longer rep left)) (p ∙ ap (λ k. all_begun rep j k s e) a)
      ∙ longer-all rep j left s e
      ∙ ap₂ (λ i k. all_begun rep i k s e) c b

  abbrev IsAfter : List Begun → Type 0
  IsAfter cs = cs ≡ all_begun rep (j + 1) (n - (j + 1)) s e

  after_is : (cs : List Begun) → j < n - 1 → IsAfter cs
      → cs ≡ all_begun rep (suc j) (n - 1 - j) s e
  after_is cs l p =
      let b : n - (j + 1) ≡ n - 1 - j = omega (arith, l) in
      let c : j + 1 ≡ suc j = omega arith in
      p ∙ ap₂ (λ i k. all_begun rep i k s e) c b

  pub rests_few : (cs : List Begun) → ArePlaces s e → j < n - 1 → IsAfter cs
      → before (tuple_count rep n s e) (size_of s) ≤ item_limit
      → AllByRecursion (IsFew rep (n - 1 - j)) cs
  rests_few cs h l p f =
      subst (AllByRecursion (IsFew rep (n - 1 - j))) (sym (after_is cs l p))
      (few-rests rep n j (n - 1 - j) s e h (omega (arith, l)) f)

  pub rests_lane : (cs : List Begun) (ks : List ℕ) → ArePlaces s e → j < n - 1 → IsAfter cs
      → ks ≡ flat_map (again rep (n - 1 - j)) cs
      → column I64 (integers ks) ≡ slot_lane rep n s e j
  rests_lane cs ks h l p q =
      ap (λ xs. column I64 (integers xs))
      (q ∙ ap (flat_map (again rep (n - 1 - j))) (after_is cs l p))
      ∙ ap (column I64) (slot-rests rep n j (n - 1 - j) s e h (omega (arith, l)))

  pub last_lane : (bs : List Begun) (ks : List ℕ) → ArePlaces s e → n ≡ j + 1
      → bs ≡ all_begun rep j (n - j) s e → ks ≡ flat_map places_of bs
      → column I64 (integers ks) ≡ slot_lane rep n s e j
  last_lane bs ks h l p q =
      let a : n - j ≡ 1 = omega (arith, l) in
      ap (λ xs. column I64 (integers xs))
      (q ∙ ap (flat_map places_of) (p ∙ ap (λ k. all_begun rep j k s e) a))
      ∙ ap (column I64) (slot-last rep n j s e h (omega (arith, l)))

  -- one lane more
  pub lanes_more : (xs ys : List Column) (x : Column)
      → xs ≡ map (slot_lane rep n s e) (range_with_len 0 j) → x ≡ slot_lane rep n s e j
      → ys ≡ xs ++ x ∷ [] → ys ≡ map (slot_lane rep n s e) (range_with_len 0 (j + 1))
  lanes_more xs ys x p q r =
      let z : 0 + j ≡ j = omega arith in
      r ∙ ap₂ (λ us u. us ++ u ∷ []) p q
      ∙ sym (map-range_with_len_more (slot_lane rep n s e) 0 j j z)

pub fits_after : (rep : Bool) (left : ℕ) (bs cs : List Begun) → AllByRecursion Fits bs
    → cs ≡ flat_map (longer rep left) bs → AllByRecursion Fits cs
fits_after rep left bs cs h p = subst (AllByRecursion Fits) (sym p) (fits_longer rep left bs h)

-- the lanes of the last two slots
pub two_more : (rep : Bool) (n j : ℕ) (s e : Column) (bs : List Begun) (us vs ws : List Column)
    (x y : Column) → ArePlaces s e → n ≡ j + 2 → bs ≡ all_begun rep j (n - j) s e
    → us ≡ map (slot_lane rep n s e) (range_with_len 0 j)
    → x ≡ column I64 (integers (flat_map (pair_firsts rep) bs)) → vs ≡ us ++ x ∷ []
    → y ≡ column I64 (integers (flat_map (pair_seconds rep) bs)) → ws ≡ vs ++ y ∷ []
    → ws ≡ map (slot_lane rep n s e) (range_with_len 0 n)
two_more rep n j s e bs us vs ws x y h l p q a c b d =
    let cs : List Begun = flat_map (longer rep 1) bs in
    let o : j < n - 1 = omega (arith, l) in
    let i : 1 ≡ n - 1 - j = omega (arith, l) in
    let t : cs ≡ all_begun rep (j + 1) (n - (j + 1)) s e =
    step_begun rep n j s e bs cs o p (ap (λ k. flat_map (longer rep k) bs) i) in
    let u : x ≡ slot_lane rep n s e j =
    a ∙ rests_lane rep n j s e cs (flat_map (pair_firsts rep) bs) h o t
    (sym (flat-flat (again rep 1) (longer rep 1) bs) ∙ ap (λ k. flat_map (again rep k) cs) i) in
    let v : y ≡ slot_lane rep n s e (j + 1) =
    b ∙ last_lane rep n (j + 1) s e cs (flat_map (pair_seconds rep) bs) h (omega (arith, l)) t
    (sym (flat-flat places_of (longer rep 1) bs)) in
    let m : n ≡ j + 1 + 1 = omega (arith, l) in
    lanes_more rep n (j + 1) s e vs ws y (lanes_more rep n j s e us vs x q u c) v d
    ∙ ap (λ k. map (slot_lane rep n s e) (range_with_len 0 k)) (sym m)
