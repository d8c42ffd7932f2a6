-- One carry after another carries as the two do.
use Rattle.std.proofs.Common.{◌≡◌, ◌+◌, ◌<◌, ◌==◌, ◌∷◌, [], ℕ, ◌∙◌, Bool, List, ap, arith, false}
use Rattle.std.proofs.Common.{length, map, refl, subst, suc, sym, true, zero}
use Rattle.std.specs.List.{AllByRecursion}
use Rattle.std.specs.Prelude.{if◌then◌else◌}
use Rattle.awk_base.proofs.Truths.{eq_is, eq-refl}
use Rattle.awk_unify.specs.After.{after, afters, carry_by, each_after}
use Rattle.awk_unify.specs.Carry.{Carries, Carry, at_place, carried, carried_each, carry, in_items}
use Rattle.awk_unify.specs.Carry.{in_order, keep, no_carries, tag_at, to_alternatives, to_parts}
use Rattle.awk_unify.specs.Places.{places, places_from}
use Rattle.awk_types.proofs.Trees.{value_list-from}
use Rattle.awk_types.specs.Simple.{value_by, values_by}
use Rattle.awk_types.specs.Value.{Value, Values, alt, list, null, row, value_list, values_from}

-- the value at a place
abbrev nth : List Value → ℕ → Value
nth [] k = null
nth (v ∷ vs) zero = v
nth (v ∷ vs) (suc k) = nth vs k

-- the places are distinct and all below n
abbrev pub Apart : ℕ → List ℕ → Type 0
Apart p [] = Unit {0}
Apart p (q ∷ qs) = ((q == p) ≡ false) × ((p == q) ≡ false) × Apart p qs

abbrev pub ArePlaces : ℕ → List ℕ → Type 0
ArePlaces n [] = Unit {0}
ArePlaces n (p ∷ ps) = (p < n) × Apart p ps × ArePlaces n ps

-- a value has the shape that a lift is for
abbrev mutual
  pub Fits : Carry → Value → Type 0
  Fits keep v = Unit {0}
  Fits (in_items f) null = Unit {0}
  Fits (in_items f) (list vs) = AllByRecursion (Fits f) (value_list vs)
  Fits (in_items f) v = ⊥
  Fits (to_parts ps fs) null = Unit {0}
  Fits (to_parts ps fs) (row vs) = ArePlaces (length ps) ps × FitEach ps fs (value_list vs)
  Fits (to_parts ps fs) v = ⊥
  Fits (to_alternatives ts fs) null = Unit {0}
  Fits (to_alternatives ts fs) (alt k v) = FitsAt ts fs k v
  Fits (to_alternatives ts fs) v = FitsAt ts fs 0 v

  pub FitEach : List ℕ → Carries → List Value → Type 0
  FitEach [] no_carries [] = Unit {0}
  FitEach (p ∷ ps) (carry f fs) (v ∷ vs) = Fits f v × FitEach ps fs vs
  FitEach ps fs vs = ⊥

  pub FitsAt : List ℕ → Carries → ℕ → Value → Type 0
  FitsAt (t ∷ ts) (carry f fs) zero v = Fits f v
  FitsAt (t ∷ ts) (carry f fs) (suc k) v = FitsAt ts fs k v
  FitsAt ts fs k v = ⊥

-- rows keep their places
abbrev mutual
  pub InPlace : Carry → Type 0
  InPlace keep = Unit {0}
  InPlace (in_items f) = InPlace f
  InPlace (to_parts ps fs) = (ps ≡ places (length ps)) × AllInPlace fs
  InPlace (to_alternatives ts fs) = AllInPlace fs

  pub AllInPlace : Carries → Type 0
  AllInPlace no_carries = Unit {0}
  AllInPlace (carry f fs) = InPlace f × AllInPlace fs

-- g after f does to v what the two do
abbrev pub Composes : Carry → Carry → Carry → Value → Type 0
Composes h g f v = Fits h v × (carried h v ≡ carried g (carried f v))

pub carry_null : (f : Carry) → carried f null ≡ null
carry_null keep = refl
carry_null (in_items f) = refl
carry_null (to_parts ps fs) = refl
carry_null (to_alternatives ts fs) = refl

pub fits_null : (f : Carry) → Fits f null
fits_null keep = tt
fits_null (in_items f) = tt
fits_null (to_parts ps fs) = tt
fits_null (to_alternatives ts fs) = tt

-- ---- items

items_compose : (g h : Carry) (f : Carry)
    → ((v : Value) → Fits f v → Fits g (carried f v) → Composes h g f v) → (vs : List Value)
    → AllByRecursion (Fits f) vs → AllByRecursion (Fits g) (map (carried f) vs) →
    AllByRecursion (Fits h) vs × (map (carried h) vs ≡ map (carried g) (map (carried f) vs))
items_compose g h f c [] k l = (tt, refl)
items_compose g h f c (v ∷ vs) k l =
    let first : Composes h g f v = c v k.0 l.0 in
    let rest : AllByRecursion (Fits h) vs × (map (carried h) vs ≡ map (carried g)
    (map (carried f) vs)) = items_compose g h f c vs k.1 l.1 in (
      (first.0, rest.0),
      ap (λ w. w ∷ map (carried h) vs) first.1 ∙ ap
          (λ ws. carried g (carried f v) ∷ ws) rest.1,
    )

list_compose : (g h : Carry) (f : Carry)
    → ((v : Value) → Fits f v → Fits g (carried f v) → Composes h g f v) → (vs : Values)
    → AllByRecursion (Fits f) (value_list vs)
    → AllByRecursion (Fits g) (value_list (values_from (map (carried f) (value_list vs))))
    → Composes (in_items h) (in_items g) (in_items f) (list vs)
list_compose g h f c vs k l =
    let all : AllByRecursion (Fits h) (value_list vs) ×
    (map (carried h) (value_list vs) ≡ map (carried g) (map (carried f) (value_list vs))) =
    items_compose g h f c (value_list vs) k
    (subst (AllByRecursion (Fits g)) (value_list-from (map (carried f) (value_list vs))) l) in (
      all.0,
      ap (λ ws. list (values_from ws)) all.1 ∙ ap
          (λ ws. list (values_from (map (carried g) ws)))
          (sym (value_list-from (map (carried f) (value_list vs)))),
    )

-- ---- alternatives

-- what is known of the lifts gs, as functions of a lift before them
abbrev Afters : Carries → List (Carry → Carry) → Type 0
Afters gs hs =
    (us : List ℕ) (k : ℕ) (f : Carry) (v : Value) → Fits f v → FitsAt us gs k (carried f v) → Fits
    (carry_by hs k f) v × (carried (carry_by hs k f) v ≡ value_by (carried_each gs) k (carried f v))

tags_compose : (us : List ℕ) (gs : Carries) (hs : List (Carry → Carry)) → Afters gs hs
    → (ts : List ℕ) (fs : Carries) (k : ℕ) (w : Value) → FitsAt ts fs k w
    → FitsAt us gs (tag_at ts k) (value_by (carried_each fs) k w) →
    FitsAt (map (tag_at us) ts) (each_after hs ts fs) k w ×
    (alt (tag_at (map (tag_at us) ts) k) (value_by (carried_each (each_after hs ts fs)) k w) ≡
    alt (tag_at us (tag_at ts k)) (value_by (carried_each gs) (tag_at ts k)
    (value_by (carried_each fs) k w)))
tags_compose us gs hs c (t ∷ ts) (carry f fs) zero w k l =
    ((c us t f w k l).0, ap (alt (tag_at us t)) (c us t f w k l).1)
tags_compose us gs hs c (t ∷ ts) (carry f fs) (suc n) w k l = tags_compose us gs hs c ts fs n w k l
tags_compose us gs hs c [] fs n w k l = absurd k
tags_compose us gs hs c (t ∷ ts) no_carries n w k l = absurd k

-- ---- parts

nth_map_at : (ps : List ℕ) (xs : List Value) (i n j : ℕ) → j < n
    → nth (map (λ k. at_place k ps xs) (places_from i n)) j ≡ at_place (i + j) ps xs
nth_map_at ps xs i zero j l = absurd (omega arith)
nth_map_at ps xs i (suc n) zero l = ap (λ k. at_place k ps xs) (omega arith)
nth_map_at ps xs i (suc n) (suc j) l =
    nth_map_at ps xs (suc i) n j (omega arith) ∙ ap (λ k. at_place k ps xs) (omega arith)

pub length_places : (i n : ℕ) → length (places_from i n) ≡ n
length_places i zero = refl
length_places i (suc n) = ap suc (length_places (suc i) n)

not_more : (i j : ℕ) → (i == i + suc j) ≡ false
not_more i j = grind arith

-- the value at a place of its own
at_own : (i : ℕ) (ys : List Value) (j : ℕ) → j < length ys
    → at_place (i + j) (places_from i (length ys)) ys ≡ nth ys j
at_own i [] j l = absurd (omega arith)
at_own i (y ∷ ys) zero l =
    let here : i + 0 ≡ i = omega arith in
    rw here (rw (eq-refl i))
at_own i (y ∷ ys) (suc j) l =
    let next : i + suc j ≡ suc i + j = omega arith in
    rw (not_more i j) (subst (λ k. at_place k (places_from (suc i) (length ys)) ys ≡ nth ys j)
    (sym next) (at_own (suc i) ys j (omega arith)))

map_nth : (h : ℕ → Value) (i : ℕ) (ys : List Value)
    → ((j : ℕ) → j < length ys → h (i + j) ≡ nth ys j) → map h (places_from i (length ys)) ≡ ys
map_nth h i [] e = refl
map_nth h i (y ∷ ys) e =
    let here : h i ≡ y = ap h (omega arith) ∙ e 0 (omega arith) in
    let more : map h (places_from (suc i) (length ys)) ≡ ys = map_nth h (suc i) ys
    (λ j l. ap h (omega arith) ∙ e (suc j) (omega arith)) in
    rw (here, more)

pub in_order_same : (ys : List Value) → in_order (places (length ys)) ys ≡ ys
in_order_same ys =
    rw (length_places 0 (length ys)) (map_nth (λ j. at_place j (places (length ys)) ys) 0 ys
    (λ j l. at_own 0 ys j l))

-- each at its own place, by functions of the place
each_at : (g : ℕ → Value → Value) (h : ℕ → Value) (i : ℕ) (fs : List (Value → Value))
    → ((k : ℕ) (v : Value) → k < length fs → value_by fs k v ≡ g (i + k) v)
    → values_by fs (map h (places_from i (length fs))) ≡ map (λ j. g j (h j))
    (places_from i (length fs))
each_at g h i [] e = refl
each_at g h i (f ∷ fs) e =
    let here : f (h i) ≡ g i (h i) = e 0 (h i) (omega arith) ∙ ap (λ k. g k (h i)) (omega arith) in
    let more : values_by fs (map h (places_from (suc i) (length fs))) ≡ map (λ j. g j (h j))
    (places_from (suc i) (length fs)) =
    each_at g h (suc i) fs (λ k v l. e (suc k) v (omega arith) ∙ ap (λ m. g m v)
    (omega arith)) in
    ap (λ w. w ∷ values_by fs (map h (places_from (suc i) (length fs)))) here ∙ ap
    (λ ws. g i (h i) ∷ ws) more

-- the values stand where the places say
abbrev Found : List ℕ → List Value → List ℕ → List Value → Type 0
Found ps xs (q ∷ qs) (y ∷ ys) = (at_place q ps xs ≡ y) × Found ps xs qs ys
Found ps xs qs ys = Unit {0}

found_more : (p : ℕ) (x : Value) (ps : List ℕ) (xs : List Value) (qs : List ℕ) (ys : List Value)
    → Apart p qs → Found ps xs qs ys → Found (p ∷ ps) (x ∷ xs) qs ys
found_more p x ps xs [] ys a f = tt
found_more p x ps xs (q ∷ qs) [] a f = tt
found_more p x ps xs (q ∷ qs) (y ∷ ys) a f = (rw a.1 f.0, found_more p x ps xs qs ys a.2 f.1)

found_all : (n : ℕ) (ps : List ℕ) (xs : List Value) → ArePlaces n ps → Found ps xs ps xs
found_all n [] xs a = tt
found_all n (p ∷ ps) [] a = tt
found_all n (p ∷ ps) (x ∷ xs) a =
    (rw (eq-refl p), found_more p x ps xs ps xs a.1 (found_all n ps xs a.2))

fits_at : (qs : List ℕ) (gs : Carries) (ws : List Value) (k : ℕ) → FitEach qs gs ws → k < length ws
    → FitsAt qs gs k (nth ws k)
fits_at [] no_carries [] k h l = absurd (omega arith)
fits_at (q ∷ qs) (carry g gs) (w ∷ ws) zero h l = h.0
fits_at (q ∷ qs) (carry g gs) (w ∷ ws) (suc k) h l = fits_at qs gs ws k h.1 (omega arith)
fits_at [] no_carries (w ∷ ws) k h l = absurd h
fits_at [] (carry g gs) ws k h l = absurd h
fits_at (q ∷ qs) no_carries ws k h l = absurd h
fits_at (q ∷ qs) (carry g gs) [] k h l = absurd h

fit_lengths : (qs : List ℕ) (gs : Carries) (ws : List Value) → FitEach qs gs ws
    → (length qs ≡ length ws) × (length (carried_each gs) ≡ length ws)
fit_lengths [] no_carries [] h = (refl, refl)
fit_lengths (q ∷ qs) (carry g gs) (w ∷ ws) h =
    (ap suc (fit_lengths qs gs ws h.1).0, ap suc (fit_lengths qs gs ws h.1).1)
fit_lengths [] no_carries (w ∷ ws) h = absurd h
fit_lengths [] (carry g gs) ws h = absurd h
fit_lengths (q ∷ qs) no_carries ws h = absurd h
fit_lengths (q ∷ qs) (carry g gs) [] h = absurd h

-- the lifts of the parts, composed one by one
abbrev Related : List (Value → Value) → List ℕ → List Value → List Value → Type 0
Related gs [] [] [] = Unit {0}
Related gs (p ∷ ps) (x ∷ xs) (y ∷ ys) = (x ≡ value_by gs p y) × Related gs ps xs ys
Related gs ps xs ys = ⊥

each_composes : (n : ℕ) (qs : List ℕ) (gs : Carries) (hs : List (Carry → Carry)) → Afters gs hs
    → (all : List ℕ) (xs : List Value) → ((p : ℕ) → p < n → FitsAt qs gs p (at_place p all xs)) →
    (ps : List ℕ) (fs : Carries) (vs : List Value) → ArePlaces n ps → Found all xs ps
    (values_by (carried_each fs) vs) → FitEach ps fs vs →
    FitEach ps (each_after hs ps fs) vs × Related (carried_each gs) ps
    (values_by (carried_each (each_after hs ps fs)) vs) (values_by (carried_each fs) vs)
each_composes n qs gs hs c all xs h [] no_carries [] a f k = (tt, tt)
each_composes n qs gs hs c all xs h (p ∷ ps) (carry f fs) (v ∷ vs) a d k =
    let one : Fits (carry_by hs p f) v × (carried (carry_by hs p f) v ≡ value_by (carried_each gs) p
    (carried f v)) = c qs p f v k.0 (subst (FitsAt qs gs p) d.0 (h p a.0)) in
    let rest : FitEach ps (each_after hs ps fs) vs × Related (carried_each gs) ps
    (values_by (carried_each (each_after hs ps fs)) vs) (values_by (carried_each fs) vs) =
    each_composes n qs gs hs c all xs h ps fs vs a.2 d.1 k.1 in
    ((one.0, rest.0), (one.1, rest.1))
each_composes n qs gs hs c all xs h [] no_carries (v ∷ vs) a f k = absurd k
each_composes n qs gs hs c all xs h [] (carry f fs) vs a d k = absurd k
each_composes n qs gs hs c all xs h (p ∷ ps) no_carries vs a d k = absurd k
each_composes n qs gs hs c all xs h (p ∷ ps) (carry f fs) [] a d k = absurd k

nth_null : (gs : Carries) (k : ℕ) → value_by (carried_each gs) k null ≡ null
nth_null no_carries k = refl
nth_null (carry g gs) zero = carry_null g
nth_null (carry g gs) (suc k) = nth_null gs k

at_step : (t : Bool) (gs : List (Value → Value)) (p j : ℕ) (x y x' y' : Value) → (p == j) ≡ t
    → x ≡ value_by gs p y → x' ≡ value_by gs j y'
    → (if t then x else x') ≡ value_by gs j (if t then y else y')
at_step true gs p j x y x' y' e f g = f ∙ ap (λ k. value_by gs k y) (eq_is p j e)
at_step false gs p j x y x' y' e f g = g

at_related : (gs : Carries) (j : ℕ) (ps : List ℕ) (xs ys : List Value)
    → Related (carried_each gs) ps xs ys
    → at_place j ps xs ≡ value_by (carried_each gs) j (at_place j ps ys)
at_related gs j [] [] [] r = sym (nth_null gs j)
at_related gs j (p ∷ ps) (x ∷ xs) (y ∷ ys) r =
    at_step (p == j) (carried_each gs) p j x y _ _ refl r.0 (at_related gs j ps xs ys r.1)
at_related gs j [] [] (y ∷ ys) r = absurd r
at_related gs j [] (x ∷ xs) ys r = absurd r
at_related gs j (p ∷ ps) [] ys r = absurd r
at_related gs j (p ∷ ps) (x ∷ xs) [] r = absurd r

map_ext : (f g : ℕ → Value) → ((j : ℕ) → f j ≡ g j) → (ks : List ℕ) → map f ks ≡ map g ks
map_ext f g e [] = refl
map_ext f g e (k ∷ ks) = ap (λ w. w ∷ map f ks) (e k) ∙ ap (λ ws. g k ∷ ws) (map_ext f g e ks)

length_map_places : (h : ℕ → Value) (i n : ℕ) → length (map h (places_from i n)) ≡ n
length_map_places h i zero = refl
length_map_places h i (suc n) = ap suc (length_map_places h (suc i) n)

rows_compose : (qs : List ℕ) (gs : Carries) (hs : List (Carry → Carry)) → Afters gs hs
    → qs ≡ places (length qs) → (ps : List ℕ) (fs : Carries) (vs : List Value)
    → ArePlaces (length ps) ps → FitEach ps fs vs
    → FitEach qs gs (in_order ps (values_by (carried_each fs) vs)) →
    FitEach ps (each_after hs ps fs) vs × (in_order ps
    (values_by (carried_each (each_after hs ps fs)) vs) ≡ in_order qs
    (values_by (carried_each gs) (in_order ps (values_by (carried_each fs) vs))))
rows_compose qs gs hs c own ps fs vs a k l =
    let xs : List Value = values_by (carried_each fs) vs in
    let ws : List Value = in_order ps xs in
    let long : length ws ≡ length ps = length_map_places (λ j. at_place j ps xs) 0 (length ps) in
    let at : (p : ℕ) → p < length ps → FitsAt qs gs p (at_place p ps xs) = λ p m. subst
    (FitsAt qs gs p) (nth_map_at ps xs 0 (length ps) p m ∙ ap (λ k. at_place k ps xs)
    (omega arith)) (fits_at qs gs ws p l (omega arith)) in
    let each : FitEach ps (each_after hs ps fs) vs × Related (carried_each gs) ps
    (values_by (carried_each (each_after hs ps fs)) vs) xs =
    each_composes (length ps) qs gs hs c ps xs at ps fs vs a (found_all (length ps) ps xs a)
    k in
    let many : length (carried_each gs) ≡ length ps = (fit_lengths qs gs ws l).1 ∙ long in
    let left : in_order ps (values_by (carried_each (each_after hs ps fs)) vs) ≡ map
    (λ j. value_by (carried_each gs) j (at_place j ps xs)) (places (length ps)) = map_ext _ _
    (λ j. at_related gs j ps _ xs each.1) (places (length ps)) in
    let middle : values_by (carried_each gs) ws ≡ map
    (λ j. value_by (carried_each gs) j (at_place j ps xs)) (places (length ps)) =
    subst (λ n. values_by (carried_each gs) (map (λ j. at_place j ps xs) (places n)) ≡ map
    (λ j. value_by (carried_each gs) j (at_place j ps xs)) (places n)) many
    (each_at (value_by (carried_each gs)) (λ j. at_place j ps xs) 0 (carried_each gs)
    (λ k v m. ap (λ n. value_by (carried_each gs) n v) (omega arith))) in
    let size : length (values_by (carried_each gs) ws) ≡ length qs = ap length middle ∙
    length_map_places _ 0 (length ps) ∙ sym ((fit_lengths qs gs ws l).0 ∙ long) in
    let right : in_order qs (values_by (carried_each gs) ws) ≡ values_by (carried_each gs) ws = ap
    (λ us. in_order us (values_by (carried_each gs) ws)) (own ∙ ap places (sym size)) ∙
    in_order_same (values_by (carried_each gs) ws) in
    (each.0, left ∙ sym middle ∙ sym right)

parts_compose : (qs : List ℕ) (gs : Carries) → Afters gs (afters gs) → qs ≡ places (length qs)
    → (ps : List ℕ) (fs : Carries) (vs : Values) → Fits (to_parts ps fs) (row vs)
    → Fits (to_parts qs gs) (carried (to_parts ps fs) (row vs))
    → Composes (after (to_parts qs gs) (to_parts ps fs)) (to_parts qs gs) (to_parts ps fs) (row vs)
parts_compose qs gs c own ps fs vs k l =
    let ws : List Value = in_order ps (values_by (carried_each fs) (value_list vs)) in
    let both : FitEach ps (each_after (afters gs) ps fs) (value_list vs) ×
    (in_order ps (values_by (carried_each (each_after (afters gs) ps fs)) (value_list vs)) ≡
    in_order qs (values_by (carried_each gs) ws)) =
    rows_compose qs gs (afters gs) c own ps fs (value_list vs) k.0 k.1
    (subst (FitEach qs gs) (value_list-from ws) l.1) in (
      (k.0, both.0),
      ap (λ us. row (values_from us)) both.1 ∙ ap
          (λ us. row (values_from (in_order qs (values_by (carried_each gs) us))))
          (sym (value_list-from ws)),
    )

-- ---- the law

mutual
  pub after_carries : (g f : Carry) (v : Value) → InPlace g → Fits f v → Fits g (carried f v)
      → Composes (after g f) g f v
  after_carries keep f v p k l = (k, refl)
  after_carries (in_items g) keep v p k l = (l, refl)
  after_carries (in_items g) (in_items f) null p k l = (tt, refl)
  after_carries (in_items g) (in_items f) (list vs) p k l =
      list_compose g (after g f) f (λ w x y. after_carries g f w p x y) vs k l
  after_carries (in_items g) (in_items f) v p k l = absurd k
  after_carries (in_items g) (to_parts ps fs) null p k l = (tt, refl)
  after_carries (in_items g) (to_parts ps fs) (row vs) p k l = absurd l
  after_carries (in_items g) (to_parts ps fs) v p k l = absurd k
  after_carries (in_items g) (to_alternatives ts fs) null p k l = (tt, refl)
  after_carries (in_items g) (to_alternatives ts fs) v p k l = absurd l
  after_carries (to_parts qs gs) keep v p k l = (l, refl)
  after_carries (to_parts qs gs) (in_items f) null p k l = (tt, refl)
  after_carries (to_parts qs gs) (in_items f) (list vs) p k l = absurd l
  after_carries (to_parts qs gs) (in_items f) v p k l = absurd k
  after_carries (to_parts qs gs) (to_parts ps fs) null p k l = (tt, refl)
  after_carries (to_parts qs gs) (to_parts ps fs) (row vs) p k l =
      parts_compose qs gs (afters_carry gs p.1) p.0 ps fs vs k l
  after_carries (to_parts qs gs) (to_parts ps fs) v p k l = absurd k
  after_carries (to_parts qs gs) (to_alternatives ts fs) null p k l = (tt, refl)
  after_carries (to_parts qs gs) (to_alternatives ts fs) v p k l = absurd l
  after_carries (to_alternatives us gs) keep v p k l = (l, refl)
  after_carries (to_alternatives us gs) (in_items f) null p k l = (tt, refl)
  after_carries (to_alternatives us gs) (in_items f) (list vs) p k l = (
    (afters_carry gs p us 0 (in_items f) (list vs) k l).0,
    ap (alt (tag_at us 0))
        (afters_carry gs p us 0 (in_items f) (list vs) k l).1,
  )
  after_carries (to_alternatives us gs) (in_items f) v p k l = absurd k
  after_carries (to_alternatives us gs) (to_parts ps fs) null p k l = (tt, refl)
  after_carries (to_alternatives us gs) (to_parts ps fs) (row vs) p k l = (
    (afters_carry gs p us 0 (to_parts ps fs) (row vs) k l).0,
    ap (alt (tag_at us 0))
        (afters_carry gs p us 0 (to_parts ps fs) (row vs) k l).1,
  )
  after_carries (to_alternatives us gs) (to_parts ps fs) v p k l = absurd k
  after_carries (to_alternatives us gs) (to_alternatives ts fs) null p k l = (tt, refl)
  after_carries (to_alternatives us gs) (to_alternatives ts fs) (alt n w) p k l =
      tags_compose us gs (afters gs) (afters_carry gs p) ts fs n w k l
  after_carries (to_alternatives us gs) (to_alternatives ts fs) v p k l =
      tags_compose us gs (afters gs) (afters_carry gs p) ts fs 0 v k l

  afters_carry : (gs : Carries) → AllInPlace gs → Afters gs (afters gs)
  afters_carry (carry g gs) p (u ∷ us) zero f v k l = after_carries g f v p.0 k l
  afters_carry (carry g gs) p (u ∷ us) (suc n) f v k l = afters_carry gs p.1 us n f v k l
  afters_carry (carry g gs) p [] n f v k l = absurd l
  afters_carry no_carries p [] n f v k l = absurd l
  afters_carry no_carries p (u ∷ us) n f v k l = absurd l
