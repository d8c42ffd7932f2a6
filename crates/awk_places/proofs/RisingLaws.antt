-- Places that go up, made one by one without any that do not, and how many there are.
use Rattle.std.specs.Prelude.{◌≡◌, refl, ℕ, zero, suc, ◌+◌, ◌-◌, ◌<◌, ◌≤◌, Bool, true, false, cond}
use Rattle.std.specs.Prelude.{nat_lt}
use Rattle.std.specs.Prelude.{◌&&◌, nat_le, if◌then◌else◌, List, [], ◌∷◌, ◌++◌, filter, length}
use Rattle.std.specs.List.{range_with_len, flat_map}
use Rattle.std.proofs.Common.{arith, ap, ap₂, sym, ◌∙◌, ltb-true}
use Rattle.std.proofs.lemmas.Bool.{ltb-false}
use Rattle.std.proofs.lemmas.List.{length-append, length-map}
use Rattle.std.proofs.lemmas.List.Elements.{filter_agree}
use Rattle.awk_places.specs.Places.{before_each, all_places, next_place, begins_at_least, goes_up}
use Rattle.awk_places.specs.Places.{rising_places, rising_from}

-- how many lists of n places of d items go up
abbrev pub rising_count : Bool → ℕ → ℕ → ℕ
rising_count rep zero d = 1
rising_count rep (suc n) zero = 0
rising_count rep (suc n) (suc d) =
    rising_count rep n (if rep then suc d else d) + rising_count rep (suc n) d

-- ---- how many

one_more : (rep : Bool) (n a m : ℕ) → a < m → rising_from rep (suc n) a m
    ≡ before_each a (rising_from rep n (next_place rep a) m) ++ rising_from rep (suc n) (a + 1) m
one_more rep n a m l =
    let f : ℕ → List (List ℕ) = λ k. before_each k (rising_from rep n (next_place rep k) m) in
    let e : m - a ≡ suc (m - (a + 1)) = omega (arith, l) in
    ap (λ d. flat_map f (range_with_len a d)) e

none_left : (rep : Bool) (n a m : ℕ) → m ≤ a → rising_from rep (suc n) a m ≡ []
none_left rep n a m l =
    let f : ℕ → List (List ℕ) = λ k. before_each k (rising_from rep n (next_place rep k) m) in
    let e : m - a ≡ 0 = omega (arith, l) in
    ap (λ d. flat_map f (range_with_len a d)) e

pub length-rising_from : (rep : Bool) (n d a m : ℕ) → a + d ≡ m
    → length (rising_from rep n a m) ≡ rising_count rep n d
length-rising_from rep zero d a m e = refl
length-rising_from rep (suc n) zero a m e = ap length (none_left rep n a m (omega (arith, e)))
length-rising_from true (suc n) (suc d) a m e =
    ap length (one_more true n a m (omega (arith, e)))
    ∙ length-append (before_each a (rising_from true n a m)) (rising_from true (suc n) (a + 1) m)
    ∙ ap₂ (λ p q. p + q)
    (length-map (rising_from true n a m) (λ ks. a ∷ ks)
    ∙ length-rising_from true n (suc d) a m e)
    (length-rising_from true (suc n) d (a + 1) m (omega (arith, e)))
length-rising_from false (suc n) (suc d) a m e =
    ap length (one_more false n a m (omega (arith, e)))
    ∙ length-append (before_each a (rising_from false n (a + 1) m))
    (rising_from false (suc n) (a + 1) m)
    ∙ ap₂ (λ p q. p + q)
    (length-map (rising_from false n (a + 1) m) (λ ks. a ∷ ks)
    ∙ length-rising_from false n d (a + 1) m (omega (arith, e)))
    (length-rising_from false (suc n) d (a + 1) m (omega (arith, e)))

-- ---- each of those that go up, and no other

module _ {X : Type 0} where
  filter-none : (p : X → Bool) → ((x : X) → p x ≡ false) → (xs : List X) → filter p xs ≡ []
  filter-none p h [] = refl
  filter-none p h (x ∷ xs) =
      ap (λ b. cond b (x ∷ filter p xs) (filter p xs)) (h x) ∙ filter-none p h xs

  filter-append : (p : X → Bool) (xs ys : List X) → filter p (xs ++ ys) ≡ filter p xs ++ filter p ys
  filter-append p [] ys = refl
  filter-append p (x ∷ xs) ys = go (p x) (filter-append p xs ys)
    where
      go : (b : Bool) → filter p (xs ++ ys) ≡ filter p xs ++ filter p ys
          → cond b (x ∷ filter p (xs ++ ys)) (filter p (xs ++ ys))
          ≡ cond b (x ∷ filter p xs) (filter p xs) ++ filter p ys
      go true h = ap (λ zs. x ∷ zs) h
      go false h = h

  filter-flat_map : (p : X → Bool) (f : ℕ → List X) (ks : List ℕ)
      → filter p (flat_map f ks) ≡ flat_map (λ k. filter p (f k)) ks
  filter-flat_map p f [] = refl
  filter-flat_map p f (k ∷ ks) =
      filter-append p (f k) (flat_map f ks) ∙ ap (λ xs. filter p (f k) ++ xs)
      (filter-flat_map p f ks)

filter-before_each : (p : List ℕ → Bool) (k : ℕ) (kss : List (List ℕ))
    → filter p (before_each k kss) ≡ before_each k (filter (λ ks. p (k ∷ ks)) kss)
filter-before_each p k [] = refl
filter-before_each p k (ks ∷ kss) = go (p (k ∷ ks)) (filter-before_each p k kss)
  where
    go : (b : Bool) → filter p (before_each k kss) ≡ before_each k (filter (λ ks. p (k ∷ ks)) kss)
        → cond b ((k ∷ ks) ∷ filter p (before_each k kss)) (filter p (before_each k kss))
        ≡ before_each k (cond b (ks ∷ filter (λ ks. p (k ∷ ks)) kss)
        (filter (λ ks. p (k ∷ ks)) kss))
    go true h = ap (λ js. (k ∷ ks) ∷ js) h
    go false h = h

module _ {X : Type 0} (f g : ℕ → List X) (a : ℕ)
    (from : (k : ℕ) → a ≤ k → g k ≡ f k) (before : (k : ℕ) → k < a → g k ≡ []) where
  all_kept : (s d : ℕ) → a ≤ s → flat_map g (range_with_len s d) ≡ flat_map f (range_with_len s d)
  all_kept s zero l = refl
  all_kept s (suc d) l = ap₂ (λ xs ys. xs ++ ys) (from s l) (all_kept (s + 1) d (omega (arith, l)))

  skipped : (s d : ℕ) → s ≤ a
      → flat_map g (range_with_len s d) ≡ flat_map f (range_with_len a (s + d - a))
  skipped s zero l =
      let e : s + zero - a ≡ 0 = omega (arith, l) in
      sym (ap (λ n. flat_map f (range_with_len a n)) e)
  skipped s (suc d) l = go (nat_lt s a) refl (λ p. skipped (s + 1) d (omega (arith, p)))
    where
      go : (b : Bool) → nat_lt s a ≡ b
          → (s < a → flat_map g (range_with_len (s + 1) d)
          ≡ flat_map f (range_with_len a (s + 1 + d - a)))
          → flat_map g (range_with_len s (suc d)) ≡ flat_map f (range_with_len a (s + suc d - a))
      go true t h =
          let p : s < a = ltb-true s a t in
          let e : s + 1 + d - a ≡ s + suc d - a = omega arith in
          ap (λ xs. xs ++ flat_map g (range_with_len (s + 1) d)) (before s p)
          ∙ h p
          ∙ ap (λ n. flat_map f (range_with_len a n)) e
      go false t h =
          let p : a ≡ s = omega (arith, l, ltb-false s a t) in
          let e : s + suc d - a ≡ suc d = omega (arith, p) in
          all_kept s (suc d) (omega (arith, p))
          ∙ ap (λ b. flat_map f (range_with_len b (suc d))) (sym p)
          ∙ sym (ap (λ n. flat_map f (range_with_len a n)) e)

-- whether places begin at a or later and go up
abbrev rises : Bool → ℕ → List ℕ → Bool
rises rep a ks = begins_at_least a ks && goes_up rep ks

at_or_after : (a k : ℕ) → a ≤ k → nat_le a k ≡ true
at_or_after a k l = grind (arith, l)

too_early : (a k : ℕ) → k < a → nat_le a k ≡ false
too_early a k l = grind (arith, l)

-- all that begin at a or later and go up, in order
pub filter-rises : (rep : Bool) (n a m : ℕ)
    → filter (rises rep a) (all_places n m) ≡ rising_from rep n a m
filter-rises rep zero a m = refl
filter-rises rep (suc n) a m =
    filter-flat_map (rises rep a) (λ k. before_each k (all_places n m)) (range_with_len 0 m)
    ∙ skipped (λ k. before_each k (rising_from rep n (next_place rep k) m))
    (λ k. filter (rises rep a) (before_each k (all_places n m))) a
    (λ k l. filter-before_each (rises rep a) k (all_places n m)
    ∙ ap (before_each k)
    (filter_agree (λ ks. rises rep a (k ∷ ks)) (rises rep (next_place rep k))
    (λ ks. ap (λ b. b && rises rep (next_place rep k) ks) (at_or_after a k l)) (all_places n m)
    ∙ filter-rises rep n (next_place rep k) m))
    (λ k l. filter-before_each (rises rep a) k (all_places n m)
    ∙ ap (before_each k)
    (filter-none (λ ks. rises rep a (k ∷ ks))
    (λ ks. ap (λ b. b && rises rep (next_place rep k) ks) (too_early a k l)) (all_places n m)))
    0 m (omega arith)
    ∙ ap (λ d. flat_map (λ k. before_each k (rising_from rep n (next_place rep k) m))
    (range_with_len a d))
    (let e : 0 + m - a ≡ m - a = omega arith in e)

pub rising_places-from : (rep : Bool) (n m : ℕ) → rising_places rep n m ≡ rising_from rep n 0 m
rising_places-from rep n m =
    filter_agree (goes_up rep) (rises rep 0) from_first (all_places n m) ∙ filter-rises rep n 0 m
  where
    from_first : (ks : List ℕ) → goes_up rep ks ≡ rises rep 0 ks
    from_first [] = refl
    from_first (k ∷ ks) = ap (λ b. b && goes_up rep (k ∷ ks)) (sym (at_or_after 0 k (omega arith)))

pub length-rising_places : (rep : Bool) (n m : ℕ)
    → length (rising_places rep n m) ≡ rising_count rep n m
length-rising_places rep n m =
    ap length (rising_places-from rep n m) ∙ length-rising_from rep n m 0 m (omega arith)
