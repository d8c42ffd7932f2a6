-- Lists one after another, each by its length: their offsets, and a number for each item.
use Rattle.std.specs.Prelude.{◌≡◌, ℕ, zero, suc, ◌+◌, ◌-◌, ◌<◌, ◌≤◌, nat_lt, refl, true, false}
use Rattle.std.specs.Prelude.{Bool, List, [], ◌∷◌, ◌++◌, length, map, get_or, sum, ℤ, pos, ◌<ℤ◌}
use Rattle.std.specs.List.{range_with_len, fold}
use Rattle.std.proofs.Common.{arith, ap, sym, ◌∙◌, subst, add-one, ◌*◌, ap₂}
use Rattle.std.proofs.lemmas.Int.{ints}
use Rattle.std.proofs.lemmas.List.{length-append, get_or_append_left, get_or-append_right}
use Rattle.std.proofs.lemmas.List.FromFn.{length-map-range_with_len, get_or-map-range_with_len}
use Rattle.std.proofs.lemmas.List.FromFn.{map-range_with_len_more}
use Rattle.awk_lanes.specs.declared.kind.Kind.{Kind}
use Rattle.awk_lanes.specs.declared.kind.Kind.TheVariants as kinds
use Rattle.awk_lanes.specs.Making.{Making, with_item}
use Rattle.awk_lanes.specs.Numbers.{nat_of}
use Rattle.awk_lanes.specs.Places.{size_of, at, place_at, IsSpan}
use Rattle.awk_lanes.proofs.MadeLanes.{size-lane_of, at-lane_of}
use Rattle.awk_lanes.specs.Counted.{before, numbers_of_lists, offsets_by}

module _ (m : ℕ → ℕ) where
  pub before-next : (i : ℕ) → before m (i + 1) ≡ before m i + m i
  before-next i = rw add-one refl

  before_more : (i k : ℕ) → before m i ≤ before m (i + k)
  before_more i zero = let e : i ≡ i + 0 = omega arith in
      subst (λ j. before m i ≤ before m j) e (omega arith)
  before_more i (suc k) =
      let e : suc (i + k) ≡ i + suc k = omega arith in
      let h : before m i ≤ before m (i + k) = before_more i k in
      subst (λ j. before m i ≤ before m j) e (omega (arith, h))

  pub before_mono : (i n : ℕ) → i ≤ n → before m i ≤ before m n
  before_mono i n p =
      let e : i + (n - i) ≡ n = omega (arith, p) in
      subst (λ j. before m i ≤ before m j) e (before_more i (n - i))

  -- ---- offsets

  at-offsets : (n i : ℕ) → i ≤ n → at (offsets_by m n) i ≡ pos (before m i)
  at-offsets n i p = at-lane_of kinds.I64 (n + 1) (λ j. pos (before m j)) i (omega (arith, p))

  pub place-offsets : (n i : ℕ) → i ≤ n → place_at (offsets_by m n) i ≡ before m i
  place-offsets n i p = ap nat_of (at-offsets n i p)

  size-offsets : (n : ℕ) → size_of (offsets_by m n) ≡ n + 1
  size-offsets n = size-lane_of kinds.I64 (n + 1) (λ j. pos (before m j))

  offsets_span : (n i : ℕ) → i + 1 ≤ n
      → IsSpan (before m n) (at (offsets_by m n) i) (at (offsets_by m n) (i + 1))
  offsets_span n i p =
      let a = before_mono i (i + 1) (omega arith) in
      let b = before_mono (i + 1) n p in
      rw (at-offsets n i (omega (arith, p)), at-offsets n (i + 1) p)
      (λ d. (omega (arith, ints), omega (arith, ints, a), omega (arith, ints, b)))

  -- a total that is passed early is passed
  pub total_passed : (limit n i sum l : ℕ) → i < n → sum ≡ before m i → l ≡ m i → limit < sum + l
      → limit < before m n
  total_passed limit n i sum l p e q h =
      let b = before_mono (i + 1) n (omega (arith, p)) in
      omega (arith, b, before-next i, e, q, h)

  -- ---- how many there are

  fold_one : (a : ℕ) (ns : List ℕ) (n : ℕ) → fold ◌+◌ a (ns ++ n ∷ []) ≡ fold ◌+◌ a ns + n
  fold_one a [] n = refl
  fold_one a (k ∷ ns) n = fold_one (a + k) ns n

  pub sum-before : (g : ℕ → ℕ) → ((i : ℕ) → g i ≡ m i) → (n : ℕ)
      → sum (map g (range_with_len 0 n)) ≡ before m n
  sum-before g e zero = refl
  sum-before g e (suc n) =
      let more : suc n ≡ n + 1 = omega arith in
      let h : sum (map g (range_with_len 0 n)) ≡ before m n = sum-before g e n in
      let l : sum (map g (range_with_len 0 (suc n))) ≡ sum (map g (range_with_len 0 n)) + g n =
      ap (λ k. sum (map g (range_with_len 0 k))) more
      ∙ ap sum (map-range_with_len_more g 0 n n (omega arith))
      ∙ fold_one 0 (map g (range_with_len 0 n)) (g n) in
      omega (arith, l, h, e n)

  -- ---- the numbers

  module _ (h : ℕ → ℕ → ℤ) where
    abbrev part : ℕ → List ℤ
    part i = map (h i) (range_with_len 0 (m i))

    abbrev numbers : ℕ → List ℤ
    numbers n = numbers_of_lists m h n

    length-part : (i k : ℕ) → length (map (h i) (range_with_len 0 k)) ≡ k
    length-part i k = length-map-range_with_len (h i) 0 k

    pub length-numbers : (n : ℕ) → length (numbers n) ≡ before m n
    length-numbers zero = refl
    length-numbers (suc n) =
        let a = length-append (numbers n) (part n) in
        omega (arith, a, length-numbers n, length-part n (m n))

    last_at : (i j : ℕ) → j < m i → get_or (numbers (suc i)) (before m i + j) (pos 0) ≡ h i j
    last_at i j p =
        get_or-append_right (numbers i) (part i) (before m i) (before m i + j) (pos 0)
        (length-numbers i) (omega arith)
        ∙ get_or-map-range_with_len (h i) 0 (m i) (before m i + j - before m i) j (pos 0)
        (omega (arith, p)) (omega arith)

    more_at : (i j k : ℕ) → j < m i
        → get_or (numbers (suc i + k)) (before m i + j) (pos 0) ≡ h i j
    more_at i j zero p =
        let e : suc i ≡ suc i + 0 = omega arith in
        subst (λ n. get_or (numbers n) (before m i + j) (pos 0) ≡ h i j) e (last_at i j p)
    more_at i j (suc k) p =
        let e : suc (suc i + k) ≡ suc i + suc k = omega arith in
        let up : before m (suc i) ≤ before m (suc i + k) = before_more (suc i) k in
        let within : before m i + j < length (numbers (suc i + k)) =
        omega (arith, length-numbers (suc i + k), up, p) in
        subst (λ n. get_or (numbers n) (before m i + j) (pos 0) ≡ h i j) e
        (get_or_append_left (numbers (suc i + k)) (part (suc i + k)) (pos 0) (before m i + j)
        within ∙ more_at i j k p)

    pub numbers-at : (i j n : ℕ) → i < n → j < m i
        → get_or (numbers n) (before m i + j) (pos 0) ≡ h i j
    numbers-at i j n q p =
        let e : suc i + (n - suc i) ≡ n = omega (arith, q) in
        subst (λ k. get_or (numbers k) (before m i + j) (pos 0) ≡ h i j) e
        (more_at i j (n - suc i) p)

    -- all are below a bound
    pub numbers-below : (b : ℤ) (n : ℕ) → ((i k : ℕ) → i < n → k < m i → h i k <ℤ b) → (q : ℕ)
        → q < length (numbers n) → get_or (numbers n) q (pos 0) <ℤ b
    numbers-below b zero f q p = absurd (omega (arith, p))
    numbers-below b (suc n) f q p = go (nat_lt q (length (numbers n))) refl
        (λ low. numbers-below b n (λ i k s t. f i k (omega (arith, s)) t) q low)
      where
        go : (c : Bool) → nat_lt q (length (numbers n)) ≡ c
            → (q < length (numbers n) → get_or (numbers n) q (pos 0) <ℤ b)
            → get_or (numbers n ++ part n) q (pos 0) <ℤ b
        go true e below =
            let low : q < length (numbers n) = grind (arith, e) in
            subst (λ z. z <ℤ b) (sym (get_or_append_left (numbers n) (part n) (pos 0) q low))
            (below low)
        go false e below =
            let high : length (numbers n) ≤ q = grind (arith, e) in
            let all = length-append (numbers n) (part n) in
            let j : q - length (numbers n) < m n =
            omega (arith, high, p, all, length-part n (m n)) in
            subst (λ z. z <ℤ b)
            (sym (get_or-append_right (numbers n) (part n) (length (numbers n)) q (pos 0) refl
            high
            ∙ get_or-map-range_with_len (h n) 0 (m n) (q - length (numbers n))
            (q - length (numbers n)) (pos 0) j (omega arith)))
            (f n (q - length (numbers n)) (omega arith) j)

    -- ---- while they are made

    pub record ArePlacesIn (kind : Kind) (n i k : ℕ) (w : Making) : Type 0 where
      pub is_kind : w.kind ≡ kind
      pub room : w.room ≡ n
      pub items : w.items ≡ numbers i ++ map (h i) (range_with_len 0 k)

    pub record ArePlaces (kind : Kind) (n i : ℕ) (w : Making) : Type 0 where
      pub is_kind : w.kind ≡ kind
      pub room : w.room ≡ n
      pub items : w.items ≡ numbers i

    append_nil : {X : Type 0} (xs : List X) → xs ++ [] ≡ xs
    append_nil [] = refl
    append_nil (x ∷ xs) = ap (λ ys. x ∷ ys) (append_nil xs)

    append_twice : {X : Type 0} (xs ys zs : List X) → (xs ++ ys) ++ zs ≡ xs ++ (ys ++ zs)
    append_twice [] ys zs = refl
    append_twice (x ∷ xs) ys zs = ap (λ ws. x ∷ ws) (append_twice xs ys zs)

    pub places_first : (kind : Kind) (n i : ℕ) (w : Making) → ArePlaces kind n i w
        → ArePlacesIn kind n i 0 w
    places_first kind n i w p = record {
      is_kind = p.is_kind;
      room = p.room;
      items = p.items
          ∙ sym (append_nil (numbers i));
    }

    pub places_more : (kind : Kind) (n i k : ℕ) (z : ℤ) (old new : Making)
        → new ≡ with_item old z → z ≡ h i k → ArePlacesIn kind n i k old
        → ArePlacesIn kind n i (k + 1) new
    places_more kind n i k z old new e g p = record {
      is_kind = ap (λ (w : Making). w.kind) e ∙ p.is_kind;
      room = ap (λ (w : Making). w.room) e ∙ p.room;
      items = ap (λ (w : Making). w.items) e ∙ ap (λ zs. zs ++ z ∷ []) p.items
          ∙ ap (λ y. (numbers i ++ map (h i) (range_with_len 0 k)) ++ y ∷ []) g
          ∙ append_twice (numbers i) (map (h i) (range_with_len 0 k)) (h i k ∷ [])
          ∙ ap (λ zs. numbers i ++ zs) (sym
          (map-range_with_len_more (h i) 0 k k (omega arith)));
    }

    pub places_next : (kind : Kind) (n i k : ℕ) (w : Making) → k ≡ m i → ArePlacesIn kind n i k w
        → ArePlaces kind n (i + 1) w
    places_next kind n i k w e p = record {
      is_kind = p.is_kind;
      room = p.room;
      items = p.items ∙ ap (λ q. numbers i ++ map (h i) (range_with_len 0 q)) e
          ∙ (let f : suc i ≡ i + 1 = omega arith in ap numbers f);
    }

    -- there is room for one more
    pub places_room : (kind : Kind) (whole n i k : ℕ) (w : Making) → n ≡ before m whole
        → i < whole → k < m i → ArePlacesIn kind n i k w → length w.items < w.room
    places_room kind whole n i k w e p q a =
        let l : length w.items ≡ length (numbers i) + k =
        ap length a.items ∙ length-append (numbers i) (map (h i) (range_with_len 0 k))
        ∙ ap (λ z. length (numbers i) + z) (length-part i k) in
        let b = before_mono (i + 1) whole (omega (arith, p)) in
        omega (arith, l, length-numbers i, b, before-next i, q, e, a.room)

    pub places_done : (kind : Kind) (whole n i : ℕ) (w : Making) → n ≡ before m whole → i ≡ whole
        → ArePlaces kind n i w → length w.items ≡ w.room
    places_done kind whole n i w e p a =
        ap length a.items ∙ length-numbers i ∙ ap (before m) p ∙ sym e ∙ sym a.room

-- lists that are all equally long
pub before-equal : (m n : ℕ) → before (λ i. m) n ≡ n * m
before-equal m zero = omega arith
before-equal m (suc n) = ap (λ k. k + m) (before-equal m n) ∙ grind arith

-- the same lengths are the same places
pub before-same : (f g : ℕ → ℕ) (n : ℕ) → ((i : ℕ) → i < n → f i ≡ g i) → before f n ≡ before g n
before-same f g zero e = refl
before-same f g (suc n) e =
    ap₂ (λ a b. a + b) (before-same f g n (λ i p. e i (omega (arith, p)))) (e n (omega arith))

-- there is room for each item
pub before-room : (m : ℕ → ℕ) (n i k : ℕ) → i < n → k < m i → before m i + k < before m n
before-room m n i k h l =
    omega (arith, before_mono m (i + 1) n (omega (arith, h)), before-next m i, l)

-- none has more than all
pub one_within : (m : ℕ → ℕ) (n i : ℕ) → i < n → m i ≤ before m n
one_within m n i p =
    omega (arith, before-next m i, before_mono m (i + 1) n (omega (arith, p)))
