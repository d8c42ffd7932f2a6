-- Tuples of places that are begun and what they are continued with.
use Rattle.std.specs.Prelude.{◌≡◌, refl, ℕ, zero, suc, ◌+◌, ◌-◌, ◌<◌, ◌≤◌, Bool, true, false}
use Rattle.std.specs.Prelude.{replicate, nat_lt, List, [], ◌∷◌, ◌++◌, map, length, get_or}
use Rattle.std.specs.List.{range_with_len, flat_map, AllByRecursion}
use Rattle.std.proofs.Common.{arith, ap, ap₂, sym, ◌∙◌, subst, ltb-true}
use Rattle.std.proofs.lemmas.Bool.{ltb-false}
use Rattle.std.proofs.lemmas.List.Folds.{flat_map-map}
use Rattle.std.proofs.lemmas.List.FromFn.{map-range_with_len_more}
use Rattle.std.proofs.lemmas.Simd.{map-map}
use Rattle.std.proofs.lemmas.List.{append-nil, append_assoc}
use Rattle.awk_base.proofs.Ranges.{range-more}
use Rattle.awk_base.proofs.Every.{all_range}
use Rattle.awk_places.specs.Begun.{reserved, longer, rest_count, last_place, begun_by, again}
use Rattle.awk_places.specs.Begun.{places_of, Fits}
use Rattle.awk_places.specs.declared.begun.Begun.{Begun}
use Rattle.awk_places.specs.Places.{before_each, next_place, after_each, next_after}
use Rattle.awk_places.specs.Places.{places_from, rising_from}
use Rattle.awk_places.proofs.FlatLaws.{flat-flat, map-flat, flat-same, map-same}
use Rattle.awk_places.proofs.FlatLaws.{flat-same-all, all-map, all-append, all-flat}
use Rattle.awk_places.proofs.Levels.{rising_from-more, room_after}
use Rattle.awk_places.proofs.RisingLaws.{rising_count, length-rising_from, length-rising_places}

-- ---- no room

module _ {Y : Type 0} where
  flat-none : (g : ℕ → List Y) (a n : ℕ) → ((k : ℕ) → a ≤ k → g k ≡ [])
      → flat_map g (range_with_len a n) ≡ []
  flat-none g a zero h = refl
  flat-none g a (suc n) h =
      ap₂ (λ xs ys. xs ++ ys) (h a (omega arith))
      (flat-none g (a + 1) n (λ k p. h k (omega (arith, p))))

  flat-cut : (g : ℕ → List Y) (a n d : ℕ) → ((k : ℕ) → a + n ≤ k → g k ≡ [])
      → flat_map g (range_with_len a (n + d)) ≡ flat_map g (range_with_len a n)
  flat-cut g a zero d h =
      let e : 0 + d ≡ d = omega arith in
      ap (λ c. flat_map g (range_with_len a c)) e
      ∙ flat-none g a d (λ k p. h k (omega (arith, p)))
  flat-cut g a (suc n) d h =
      let e : suc n + d ≡ suc (n + d) = omega arith in
      ap (λ c. flat_map g (range_with_len a c)) e
      ∙ ap (λ ys. g a ++ ys) (flat-cut g (a + 1) n d (λ k p. h k (omega (arith, p))))

no_room : (n a m : ℕ) → m < a + suc n → rising_from false (suc n) a m ≡ []
no_room zero a m p =
    let e : m - a ≡ 0 = omega (arith, p) in
    ap (λ d. flat_map (λ k. before_each k (rising_from false 0 (k + 1) m)) (range_with_len a d)) e
no_room (suc n) a m p =
    flat-none (λ k. before_each k (rising_from false (suc n) (k + 1) m)) a (m - a)
    (λ k q. ap (before_each k) (no_room n (k + 1) m (omega (arith, p, q))))

-- a place that leaves no room for so many more is followed by none
cut_false : (left a m : ℕ) → flat_map (λ k. before_each k (rising_from false left (k + 1) m))
    (range_with_len a (m - a))
    ≡ flat_map (λ k. before_each k (rising_from false left (k + 1) m))
    (range_with_len a (m - left - a))
cut_false zero a m =
    let e : m - a ≡ m - 0 - a = omega arith in
    ap (λ d. flat_map (λ k. before_each k (rising_from false 0 (k + 1) m)) (range_with_len a d)) e
cut_false (suc l) a m =
    let g : ℕ → List (List ℕ) = λ k. before_each k (rising_from false (suc l) (k + 1) m) in
    let n : ℕ = m - suc l - a in
    let e : m - a ≡ n + (m - a - n) = omega arith in
    ap (λ d. flat_map g (range_with_len a d)) e
    ∙ flat-cut g a n (m - a - n)
    (λ k p. ap (before_each k) (no_room l (k + 1) m (omega (arith, p))))

rising_from-cut : (rep : Bool) (left a m : ℕ) → rising_from rep (suc left) a m
    ≡ flat_map (λ k. before_each k (rising_from rep left (next_place rep k) m))
    (places_from a (m - reserved rep left))
rising_from-cut true left a m =
    let e : m - a ≡ m - 0 - a = omega arith in
    ap (λ d. flat_map (λ k. before_each k (rising_from true left k m)) (range_with_len a d)) e
rising_from-cut false left a m = cut_false left a m

-- ---- what follows the first places

pub next_after-end : (rep : Bool) (a k : ℕ) (ks : List ℕ)
    → next_after rep a (ks ++ k ∷ []) ≡ next_place rep k
next_after-end rep a k [] = refl
next_after-end rep a k (j ∷ ks) = next_after-end rep (next_place rep j) k ks

abbrev after_all : List ℕ → List (List ℕ) → List (List ℕ)
after_all ks rs = map (λ r. ks ++ r) rs

append_one : (ks r : List ℕ) (k : ℕ) → (ks ++ k ∷ []) ++ r ≡ ks ++ k ∷ r
append_one [] r k = refl
append_one (j ∷ ks) r k = ap (λ xs. j ∷ xs) (append_one ks r k)

after-end : (ks : List ℕ) (k : ℕ) (rs : List (List ℕ))
    → after_all (ks ++ k ∷ []) rs ≡ after_all ks (before_each k rs)
after-end ks k rs =
    map-same (λ r. (ks ++ k ∷ []) ++ r) (λ r. ks ++ k ∷ r) (λ r. append_one ks r k) rs
    ∙ sym (map-map (λ (r : List ℕ). ks ++ r) (λ (r : List ℕ). k ∷ r) rs)

-- the tuples of these first places
abbrev rests : Bool → ℕ → ℕ → ℕ → List ℕ → List (List ℕ)
rests rep left a m ks = after_all ks (rising_from rep left (next_after rep a ks) m)

one_longer : (rep : Bool) (left a m : ℕ) (ks : List ℕ)
    → flat_map (rests rep left a m)
    (after_each ks (places_from (next_after rep a ks) (m - reserved rep left)))
    ≡ rests rep (suc left) a m ks
one_longer rep left a m ks =
    let ps : List ℕ = places_from (next_after rep a ks) (m - reserved rep left) in
    flat_map-map (rests rep left a m) (λ (k : ℕ). ks ++ k ∷ []) ps
    ∙ flat-same (λ (k : ℕ). rests rep left a m (ks ++ k ∷ []))
    (λ k. after_all ks (before_each k (rising_from rep left (next_place rep k) m)))
    (λ k. ap (λ b. after_all (ks ++ k ∷ []) (rising_from rep left b m)) (next_after-end rep a k ks)
    ∙ after-end ks k (rising_from rep left (next_place rep k) m)) ps
    ∙ sym (map-flat (λ (r : List ℕ). ks ++ r)
    (λ k. before_each k (rising_from rep left (next_place rep k) m)) ps)
    ∙ sym (ap (after_all ks) (rising_from-cut rep left (next_after rep a ks) m))

reserved-none : (rep : Bool) → reserved rep 0 ≡ 0
reserved-none true = refl
reserved-none false = refl

pub reserved-more : (rep : Bool) (left m : ℕ)
    → m - reserved rep left - room_after rep ≡ m - reserved rep (suc left)
reserved-more true left m = omega arith
reserved-more false left m = omega arith

pub rising_from-begun : (rep : Bool) (left j a m : ℕ) → rising_from rep (j + left) a m
    ≡ flat_map (rests rep left a m) (rising_from rep j a (m - reserved rep left))
rising_from-begun rep zero j a m =
    let e : j + 0 ≡ j = omega arith in
    let z : m ≡ m - reserved rep 0 = rw (reserved-none rep) (omega arith) in
    ap (λ i. rising_from rep i a m) e ∙ ap (rising_from rep j a) z
    ∙ none (rising_from rep j a (m - reserved rep 0))
  where
    none : (kss : List (List ℕ)) → kss ≡ flat_map (λ ks. (ks ++ []) ∷ []) kss
    none [] = refl
    none (ks ∷ kss) = ap₂ (λ x xs. x ∷ xs) (sym (append-nil ks)) (none kss)
rising_from-begun rep (suc left) j a m =
    let e : j + suc left ≡ suc j + left = omega arith in
    let n : ℕ = m - reserved rep left in
    ap (λ i. rising_from rep i a m) e
    ∙ rising_from-begun rep left (suc j) a m
    ∙ ap (flat_map (rests rep left a m)) (rising_from-more rep j a n)
    ∙ flat-flat (rests rep left a m) (λ ks. after_each ks (places_from (next_after rep a ks) n))
    (rising_from rep j a (n - room_after rep))
    ∙ flat-same (λ ks. flat_map (rests rep left a m)
    (after_each ks (places_from (next_after rep a ks) n))) (rests rep (suc left) a m)
    (one_longer rep left a m) (rising_from rep j a (n - room_after rep))
    ∙ ap (λ k. flat_map (rests rep (suc left) a m) (rising_from rep j a k))
    (reserved-more rep left m)

-- ---- a place more

-- each of one list with a place that may follow it
pub longer-one : (rep : Bool) (left j a m : ℕ)
    → flat_map (longer rep left)
    (map (begun_by rep a m) (rising_from rep j a (m - reserved rep (suc left))))
    ≡ map (begun_by rep a m) (rising_from rep (suc j) a (m - reserved rep left))
longer-one rep left j a m =
    let n : ℕ = m - reserved rep left in
    let kss : List (List ℕ) = rising_from rep j a (n - room_after rep) in
    ap (λ k. flat_map (longer rep left) (map (begun_by rep a m) (rising_from rep j a k)))
    (sym (reserved-more rep left m))
    ∙ flat_map-map (longer rep left) (begun_by rep a m) kss
    ∙ flat-same (λ ks. longer rep left (begun_by rep a m ks))
    (λ ks. map (begun_by rep a m) (after_each ks (places_from (next_after rep a ks) n)))
    (λ ks. map-same (λ k. record { least = next_place rep k; stop = m })
    (λ k. begun_by rep a m (ks ++ k ∷ []))
    (λ k. ap (λ b. record { least = b; stop = m }) (sym (next_after-end rep a k ks)))
    (places_from (next_after rep a ks) n)
    ∙ sym (map-map (begun_by rep a m) (λ (k : ℕ). ks ++ k ∷ [])
    (places_from (next_after rep a ks) n))) kss
    ∙ sym (map-flat (begun_by rep a m)
    (λ ks. after_each ks (places_from (next_after rep a ks) n)) kss)
    ∙ sym (ap (map (begun_by rep a m)) (rising_from-more rep j a n))

-- ---- how long, and how large

abbrev pub IsLong : ℕ → List ℕ → Type 0
IsLong n ks = length ks ≡ n

pub all_long : (rep : Bool) (n a m : ℕ) → AllByRecursion (IsLong n) (rising_from rep n a m)
all_long rep zero a m = (refl, tt)
all_long rep (suc n) a m =
    all-flat (IsLong (suc n)) (λ k. before_each k (rising_from rep n (next_place rep k) m)) a
    (m - a)
    (λ k p q. all-map (IsLong (suc n)) (λ ks. k ∷ ks) (rising_from rep n (next_place rep k) m)
    (longer_by_one k (rising_from rep n (next_place rep k) m)
    (all_long rep n (next_place rep k) m)))
  where
    longer_by_one : (k : ℕ) (kss : List (List ℕ)) → AllByRecursion (IsLong n) kss
        → AllByRecursion (λ ks. IsLong (suc n) (k ∷ ks)) kss
    longer_by_one k [] h = tt
    longer_by_one k (ks ∷ kss) h = (ap suc h.0, longer_by_one k kss h.1)

abbrev pub AreBelow : ℕ → List ℕ → Type 0
AreBelow m ks = AllByRecursion (λ k. k < m) ks

pub all_below : (rep : Bool) (n a m : ℕ) → AllByRecursion (AreBelow m) (rising_from rep n a m)
all_below rep zero a m = (tt, tt)
all_below rep (suc n) a m =
    all-flat (AreBelow m) (λ k. before_each k (rising_from rep n (next_place rep k) m)) a (m - a)
    (λ k p q. all-map (AreBelow m) (λ ks. k ∷ ks) (rising_from rep n (next_place rep k) m)
    (also k (omega (arith, p, q)) (rising_from rep n (next_place rep k) m)
    (all_below rep n (next_place rep k) m)))
  where
    also : (k : ℕ) → k < m → (kss : List (List ℕ)) → AllByRecursion (AreBelow m) kss
        → AllByRecursion (λ ks. AreBelow m (k ∷ ks)) kss
    also k p [] h = tt
    also k p (ks ∷ kss) h = ((p, h.0), also k p kss h.1)

-- ---- the last of the first places

module _ {X Y : Type 0} where
  all-each : (P : X → Type 0) (Q : Y → Type 0) (g : X → List Y)
      → ((x : X) → P x → AllByRecursion Q (g x)) → (xs : List X) → AllByRecursion P xs
      → AllByRecursion Q (flat_map g xs)
  all-each P Q g h [] a = tt
  all-each P Q g h (x ∷ xs) a =
      all-append Q (g x) (flat_map g xs) (h x a.0) (all-each P Q g h xs a.1)

all-always : {X : Type 0} (P : X → Type 0) → ((x : X) → P x) → (xs : List X) → AllByRecursion P xs
all-always P h [] = tt
all-always P h (x ∷ xs) = (h x, all-always P h xs)

pub last_place-next : (rep : Bool) (k : ℕ) → last_place rep (next_place rep k) ≡ k
last_place-next true k = omega arith
last_place-next false k = omega arith

pub get-behind : (ks r : List ℕ) (k j : ℕ) → length ks ≡ j → get_or (ks ++ k ∷ r) j 0 ≡ k
get-behind [] r k zero e = refl
get-behind [] r k (suc j) e = absurd (omega (arith, e))
get-behind (i ∷ ks) r k zero e = absurd (omega (arith, e))
get-behind (i ∷ ks) r k (suc j) e = get-behind ks r k j (omega (arith, e))

-- the place in slot j of all that these begin is their last
abbrev EndsAt : Bool → ℕ → ℕ → List ℕ → Type 0
EndsAt rep a j ks = (r : List ℕ) → get_or (ks ++ r) j 0 ≡ last_place rep (next_after rep a ks)

all_end : (rep : Bool) (j a m : ℕ) → AllByRecursion (EndsAt rep a j) (rising_from rep (suc j) a m)
all_end rep j a m =
    subst (AllByRecursion (EndsAt rep a j)) (sym (rising_from-more rep j a m))
    (all-each (IsLong j) (EndsAt rep a j)
    (λ ks. after_each ks (places_from (next_after rep a ks) m))
    (λ ks l. all-map (EndsAt rep a j) (λ k. ks ++ k ∷ []) (places_from (next_after rep a ks) m)
    (all-always (λ k. EndsAt rep a j (ks ++ k ∷ []))
    (λ k r. ap (λ xs. get_or xs j 0) (append_one ks r k) ∙ get-behind ks r k j l
    ∙ sym (ap (last_place rep) (next_after-end rep a k ks) ∙ last_place-next rep k))
    (places_from (next_after rep a ks) m)))
    (rising_from rep j a (m - room_after rep)) (all_long rep j a (m - room_after rep)))

none_beyond : (rep : Bool) (n a m : ℕ) → m ≤ a → rising_from rep (suc n) a m ≡ []
none_beyond rep n a m p =
    let e : m - a ≡ 0 = omega (arith, p) in
    ap (λ d. flat_map (λ k. before_each k (rising_from rep n (next_place rep k) m))
    (range_with_len a d)) e

count-none : (rep : Bool) (n d : ℕ) → d ≡ 0 → rising_count rep (suc n) d ≡ 0
count-none rep n zero e = refl
count-none rep n (suc d) e = absurd (omega (arith, e))

-- how many there are depends on how many places there are
pub count-from : (rep : Bool) (n a m : ℕ)
    → length (rising_from rep n a m) ≡ rising_count rep n (m - a)
count-from rep zero a m = refl
count-from rep (suc n) a m = go (nat_lt a m) refl
  where
    go : (b : Bool) → nat_lt a m ≡ b
        → length (rising_from rep (suc n) a m) ≡ rising_count rep (suc n) (m - a)
    go true t =
        length-rising_from rep (suc n) (m - a) a m (omega (arith, ltb-true a m t))
    go false t =
        let l : m ≤ a = omega (arith, ltb-false a m t) in
        ap length (none_beyond rep n a m l)
        ∙ sym (count-none rep n (m - a) (omega (arith, l)))

pub rest-length : (rep : Bool) (left a m : ℕ)
    → length (rising_from rep left a m) ≡ rest_count rep left a m
rest-length rep left a m = count-from rep left a m ∙ sym (length-rising_places rep left (m - a))

pub map-always : {X Y : Type 0} (y : Y) (xs : List X) → map (λ x. y) xs ≡ replicate (length xs) y
map-always y [] = refl
map-always y (x ∷ xs) = ap (λ ys. y ∷ ys) (map-always y xs)

-- the places in a slot, by the first places of tuples of one list
pub slot-one : (rep : Bool) (left j a m : ℕ)
    → flat_map (again rep left)
    (map (begun_by rep a m) (rising_from rep (suc j) a (m - reserved rep left)))
    ≡ map (λ ks. get_or ks j 0) (rising_from rep (suc j + left) a m)
slot-one rep left j a m =
    let kss : List (List ℕ) = rising_from rep (suc j) a (m - reserved rep left) in
    let g : List ℕ → ℕ = λ ks. get_or ks j 0 in
    flat_map-map (again rep left) (begun_by rep a m) kss
    ∙ flat-same-all (EndsAt rep a j) (λ ks. again rep left (begun_by rep a m ks))
    (λ ks. map g (rests rep left a m ks))
    (λ ks h.
    let rs : List (List ℕ) = rising_from rep left (next_after rep a ks) m in
    let z : ℕ = last_place rep (next_after rep a ks) in
    ap (λ n. replicate n z) (sym (rest-length rep left (next_after rep a ks) m))
    ∙ sym (map-always z rs)
    ∙ map-same (λ r. z) (λ r. g (ks ++ r)) (λ r. sym (h r)) rs
    ∙ sym (map-map g (λ (r : List ℕ). ks ++ r) rs))
    kss (all_end rep j a (m - reserved rep left))
    ∙ sym (map-flat g (rests rep left a m) kss)
    ∙ sym (ap (map g) (rising_from-begun rep left (suc j) a m))

range-shift : (c a n : ℕ) → map (λ k. c + k) (range_with_len a n) ≡ range_with_len (c + a) n
range-shift c a zero = refl
range-shift c a (suc n) =
    let e : c + (a + 1) ≡ c + a + 1 = omega arith in
    ap (λ ks. (c + a) ∷ ks) (range-shift c (a + 1) n ∙ ap (λ b. range_with_len b n) e)

map-self : (f : ℕ → ℕ) → ((k : ℕ) → f k ≡ k) → (ks : List ℕ) → map f ks ≡ ks
map-self f e [] = refl
map-self f e (k ∷ ks) = ap₂ (λ j js. j ∷ js) (e k) (map-self f e ks)

-- the places in the last slot
pub last-one : (rep : Bool) (j a m : ℕ)
    → flat_map places_of
    (map (begun_by rep a m) (rising_from rep j a (m - reserved rep 1)))
    ≡ map (λ ks. get_or ks j 0) (rising_from rep (suc j) a m)
last-one rep j a m =
    let kss : List (List ℕ) = rising_from rep j a (m - reserved rep 1) in
    let g : List ℕ → ℕ = λ ks. get_or ks j 0 in
    flat_map-map places_of (begun_by rep a m) kss
    ∙ flat-same-all (IsLong j) (λ ks. places_of (begun_by rep a m ks))
    (λ ks. map g (after_each ks (places_from (next_after rep a ks) m)))
    (λ ks l.
    let ps : List ℕ = places_from (next_after rep a ks) m in
    sym (map-self (λ k. g (ks ++ k ∷ [])) (λ k. get-behind ks [] k j l) ps)
    ∙ sym (map-map g (λ (k : ℕ). ks ++ k ∷ []) ps))
    kss (all_long rep j a (m - reserved rep 1))
    ∙ sym (map-flat g (λ ks. after_each ks (places_from (next_after rep a ks) m)) kss)
    ∙ sym (ap (map g) (rising_from-more rep j a m))

-- ---- places from another first one

next_place-shift : (rep : Bool) (c k : ℕ) → next_place rep (c + k) ≡ c + next_place rep k
next_place-shift true c k = refl
next_place-shift false c k = omega arith

pub rising_from-shift : (rep : Bool) (c n a m : ℕ)
    → rising_from rep n (c + a) (c + m) ≡ map (map (λ k. c + k)) (rising_from rep n a m)
rising_from-shift rep c zero a m = refl
rising_from-shift rep c (suc n) a m =
    let f : ℕ → List (List ℕ) =
    λ k. before_each k (rising_from rep n (next_place rep k) (c + m)) in
    let g : ℕ → List (List ℕ) = λ k. before_each k (rising_from rep n (next_place rep k) m) in
    let e : c + m - (c + a) ≡ m - a = omega arith in
    ap (λ d. flat_map f (range_with_len (c + a) d)) e
    ∙ ap (flat_map f) (sym (range-shift c a (m - a)))
    ∙ flat_map-map f (λ (k : ℕ). c + k) (range_with_len a (m - a))
    ∙ flat-same (λ k. f (c + k)) (λ k. map (map (λ k. c + k)) (g k))
    (λ k. ap (λ b. before_each (c + k) (rising_from rep n b (c + m))) (next_place-shift rep c k)
    ∙ ap (before_each (c + k)) (rising_from-shift rep c n (next_place rep k) m)
    ∙ map-map (λ (ks : List ℕ). (c + k) ∷ ks) (map (λ k. c + k))
    (rising_from rep n (next_place rep k) m)
    ∙ sym (map-map (map (λ k. c + k)) (λ (ks : List ℕ). k ∷ ks)
    (rising_from rep n (next_place rep k) m))) (range_with_len a (m - a))
    ∙ sym (map-flat (map (λ k. c + k)) g (range_with_len a (m - a)))

-- ---- places that fit a lane

-- what is begun, with a place more
abbrev pub next_begun : Bool → ℕ → ℕ → Begun
next_begun rep stop k = record { least = next_place rep k; stop = stop }

next_place-within : (rep : Bool) (k stop : ℕ) → k < stop → next_place rep k ≤ stop
next_place-within true k stop p = omega (arith, p)
next_place-within false k stop p = omega (arith, p)

pub fits_longer : (rep : Bool) (left : ℕ) (bs : List Begun) → AllByRecursion Fits bs
    → AllByRecursion Fits (flat_map (longer rep left) bs)
fits_longer rep left bs h =
    all-each Fits Fits (longer rep left)
    (λ b f. all-map Fits (λ k. record { least = next_place rep k; stop = b.stop })
    (places_from b.least (b.stop - reserved rep left))
    (all_range (λ k. Fits (record { least = next_place rep k; stop = b.stop })) b.least
    (b.stop - reserved rep left - b.least)
    (λ k p q. (next_place-within rep k b.stop (omega (arith, p, q)), f.1)))) bs h

-- ---- what is made so far

-- one more behind what is made of the places from one on
pub map_put : {X : Type 0} (f : ℕ → X) (a k : ℕ) (xs ys zs : List X) (x : X) → a ≤ k
    → ys ≡ xs ++ map f (range_with_len a (k - a)) → zs ≡ ys ++ x ∷ [] → x ≡ f k
    → zs ≡ xs ++ map f (range_with_len a (k + 1 - a))
map_put f a k xs ys zs x o e p q =
    let m : k - a + 1 ≡ k + 1 - a = omega (arith, o) in
    let b : a + (k - a) ≡ k = omega (arith, o) in
    p ∙ ap₂ (λ us v. us ++ v ∷ []) e q
    ∙ append_assoc xs (map f (range_with_len a (k - a))) (f k ∷ [])
    ∙ ap (λ us. xs ++ us) (sym (map-range_with_len_more f a (k - a) k b))
    ∙ ap (λ n. xs ++ map f (range_with_len a n)) m

pub range_put : (a k : ℕ) (xs ys zs : List ℕ) → a ≤ k
    → ys ≡ xs ++ range_with_len a (k - a) → zs ≡ ys ++ k ∷ []
    → zs ≡ xs ++ range_with_len a (k + 1 - a)
range_put a k xs ys zs o e p =
    let m : suc (k - a) ≡ k + 1 - a = omega (arith, o) in
    let b : a + (k - a) ≡ k = omega (arith, o) in
    p ∙ ap (λ us. us ++ k ∷ []) e
    ∙ append_assoc xs (range_with_len a (k - a)) (k ∷ [])
    ∙ ap (λ j. xs ++ (range_with_len a (k - a) ++ j ∷ [])) (sym b)
    ∙ ap (λ us. xs ++ us) (sym (range-more a (k - a)))
    ∙ ap (λ n. xs ++ range_with_len a n) m
