-- What is chosen of a layout has no more nodes, and is valid.
use Rattle.std.proofs.Common.{◌≡◌, ℕ, suc, ◌+◌, ◌≤◌, max, Bool, true, false, List, [], ◌∷◌}
use Rattle.std.proofs.Common.{length, map, sum, get_or, if◌then◌else◌, refl, ap, ap₂, ◌∙◌, sym}
use Rattle.std.proofs.Common.{subst, arith}
use Rattle.std.proofs.lemmas.List.{length-map, get_or-map}
use Rattle.std.specs.List.{AllByRecursion}
use Rattle.awk_base.proofs.Truths.{or_first, or_second}
use Rattle.awk_base.proofs.Sums.{sum-cons}
use Rattle.awk_types.specs.DataType.{Name}
use Rattle.awk_types.specs.Names.{same_name, is_among, AreDistinct, place_of}
use Rattle.awk_types.proofs.NameLaws.{same_name_is, same_name-refl}
use Rattle.awk_layout.specs.Layout.{Layout, layouts_from, weight, weights, height, heights, empty}
use Rattle.awk_layout.specs.Valid.{AllValid, AllReach}
use Rattle.awk_view.specs.Choice.{beside, apart_from}
use Rattle.awk_view.proofs.ChoiceLayouts.{get_height, place_within}

-- ---- the sum of what stands beside distinct names

not_turned : (b : Bool) (n m : Name) → same_name n m ≡ b → same_name m n ≡ false → b ≡ false
not_turned true n m e f =
    let same : n ≡ m = same_name_is n m e in
    let g : same_name m n ≡ true = subst (λ k. same_name m k ≡ true) (sym same)
    (same_name-refl m) in
    cc
not_turned false n m e f = refl

-- a name that is not among the names changes none
none_same : (m : Name) (w : ℕ) (f : Name → ℕ) (ks : List Name) → is_among m ks ≡ false
    → sum (map (λ k. if same_name m k then w else f k) ks) ≡ sum (map f ks)
none_same m w f [] e = refl
none_same m w f (k ∷ ks) e =
    let a : same_name m k ≡ false = not_turned (same_name m k) m k refl
    (or_first (same_name k m) _ e) in
    let b = none_same m w f ks (or_second (same_name k m) _ e) in
    sum-cons (if same_name m k then w else f k) (map (λ k. if same_name m k then w else f k) ks)
    ∙ ap₂ (λ (i j : ℕ). i + j) (ap (λ t. if t then w else f k) a) b
    ∙ sym (sum-cons (f k) (map f ks))

one_same : (b : Bool) (m k : Name) (w : ℕ) (f : Name → ℕ) (ks : List Name) → same_name m k ≡ b
    → is_among k ks ≡ false
    → sum (map (λ k. if same_name m k then w else f k) ks) ≤ w + sum (map f ks)
    → (if b then w else f k) + sum (map (λ k. if same_name m k then w else f k) ks) ≤ w +
    (f k + sum (map f ks))
one_same true m k w f ks e a h =
    let same : m ≡ k = same_name_is m k e in
    let n : sum (map (λ k. if same_name m k then w else f k) ks) ≡ sum (map f ks) = none_same m w f
    ks (subst (λ j. is_among j ks ≡ false) (sym same) a) in
    omega arith
one_same false m k w f ks e a h = omega arith

once : (m : Name) (w : ℕ) (f : Name → ℕ) (ks : List Name) → AreDistinct ks
    → sum (map (λ k. if same_name m k then w else f k) ks) ≤ w + sum (map f ks)
once m w f [] d = omega arith
once m w f (k ∷ ks) d =
    let a = sum-cons (if same_name m k then w else f k)
    (map (λ k. if same_name m k then w else f k) ks) in
    let b = sum-cons (f k) (map f ks) in
    let h = one_same (same_name m k) m k w f ks refl d.0 (once m w f ks d.1) in
    omega arith

-- what stands beside distinct names is no more than all
beside_first : (b : Bool) (w p : ℕ) (ws : List ℕ)
    → get_or (w ∷ ws) (if b then 0 else suc p) 0 ≡ (if b then w else get_or ws p 0)
beside_first true w p ws = refl
beside_first false w p ws = refl

each_first : (m : Name) (w : ℕ) (ms : List Name) (ws : List ℕ) (ks : List Name)
    → map (λ k. beside 0 k (m ∷ ms) (w ∷ ws)) ks ≡ map
    (λ k. if same_name m k then w else beside 0 k ms ws) ks
each_first m w ms ws [] = refl
each_first m w ms ws (k ∷ ks) =
    ap₂ (λ n ns. n ∷ ns) (beside_first (same_name m k) w (place_of k ms) ws)
    (each_first m w ms ws ks)

beside_none : (names ks : List Name) → sum (map (λ k. beside 0 k names []) ks) ≡ 0
beside_none names [] = refl
beside_none names (k ∷ ks) =
    let a = sum-cons (beside 0 k names []) (map (λ k. beside 0 k names []) ks) in
    let b = beside_none names ks in
    omega arith

sum_beside : (names : List Name) (ws : List ℕ) (ks : List Name) → length ws ≤ length names
    → AreDistinct ks → sum (map (λ k. beside 0 k names ws) ks) ≤ sum ws
sum_beside names [] ks h d = omega (arith, beside_none names ks)
sum_beside [] (w ∷ ws) ks h d = absurd (omega arith)
sum_beside (m ∷ ms) (w ∷ ws) ks h d =
    let a = ap sum (each_first m w ms ws ks) in
    let b = once m w (λ k. beside 0 k ms ws) ks d in
    let c = sum_beside ms ws ks (omega arith) d in
    let e = sum-cons w ws in
    omega arith

-- the weights of contents as numbers
weights_sum : (xs : List Layout) → weights (layouts_from xs) ≡ sum (map weight xs)
weights_sum [] = refl
weights_sum (x ∷ xs) =
    let a = sum-cons (weight x) (map weight xs) in let b = weights_sum xs in omega arith

beside_weights : (names : List Name) (xs : List Layout) (ks : List Name) → length names ≡ length xs
    → AllByRecursion (λ k. is_among k names ≡ true) ks
    → map weight (map (λ k. beside empty k names xs) ks) ≡ map
    (λ k. beside 0 k names (map weight xs)) ks
beside_weights names xs [] e h = refl
beside_weights names xs (k ∷ ks) e h =
    ap₂ (λ n ns. n ∷ ns)
    (sym (get_or-map weight xs (place_of k names) empty 0
    (omega (arith, place_within k names h.0))))
    (beside_weights names xs ks e h.1)

pub weights-beside : (names : List Name) (xs : List Layout) (ks : List Name)
    → length names ≡ length xs → AreDistinct ks → AllByRecursion (λ k. is_among k names ≡ true) ks
    → weights (layouts_from (map (λ k. beside empty k names xs) ks)) ≤ weights (layouts_from xs)
weights-beside names xs ks e d h =
    let a = weights_sum (map (λ k. beside empty k names xs) ks) in
    let b = weights_sum xs in
    let c = ap sum (beside_weights names xs ks e h) in
    let l = sum_beside names (map weight xs) ks (omega (arith, length-map xs weight)) d in
    omega arith

pub heights-beside : (names : List Name) (xs : List Layout) (ks : List Name)
    → length names ≡ length xs → AllByRecursion (λ k. is_among k names ≡ true) ks
    → heights (layouts_from (map (λ k. beside empty k names xs) ks)) ≤ heights (layouts_from xs)
heights-beside names xs [] e h = omega arith
heights-beside names xs (k ∷ ks) e h =
    omega (
      arith,
      get_height (place_of k names) xs (omega (arith, place_within k names h.0)),
      heights-beside names xs ks e h.1,
    )

-- ---- what stands beside the other names

pub weights-apart : (k : Name) (names : List Name) (xs : List Layout)
    → weights (layouts_from (apart_from k names xs)) ≤ weights (layouts_from xs)
weights-apart k [] xs = omega arith
weights-apart k (m ∷ ms) [] = omega arith
weights-apart k (m ∷ ms) (x ∷ xs) = by (same_name m k) (weights-apart k ms xs)
  where
    by : (b : Bool) → weights (layouts_from (apart_from k ms xs)) ≤ weights (layouts_from xs)
        → weights (layouts_from (if b then apart_from k ms xs else x ∷ apart_from k ms xs)) ≤ weight
        x + weights (layouts_from xs)
    by true h = omega arith
    by false h = omega arith

pub heights-apart : (k : Name) (names : List Name) (xs : List Layout)
    → heights (layouts_from (apart_from k names xs)) ≤ heights (layouts_from xs)
heights-apart k [] xs = omega arith
heights-apart k (m ∷ ms) [] = omega arith
heights-apart k (m ∷ ms) (x ∷ xs) = by (same_name m k) (heights-apart k ms xs)
  where
    by : (b : Bool) → heights (layouts_from (apart_from k ms xs)) ≤ heights (layouts_from xs)
        → heights (layouts_from (if b then apart_from k ms xs else x ∷ apart_from k ms xs)) ≤ max
        (height x) (heights (layouts_from xs))
    by true h = omega arith
    by false h = omega arith

pub reach-apart : (n : ℕ) (k : Name) (names : List Name) (xs : List Layout)
    → AllReach n (layouts_from xs) → AllReach n (layouts_from (apart_from k names xs))
reach-apart n k [] xs h = tt
reach-apart n k (m ∷ ms) [] h = tt
reach-apart n k (m ∷ ms) (x ∷ xs) h = by (same_name m k) (reach-apart n k ms xs h.1)
  where
    by : (b : Bool) → AllReach n (layouts_from (apart_from k ms xs))
        → AllReach n (layouts_from (if b then apart_from k ms xs else x ∷ apart_from k ms xs))
    by true r = r
    by false r = (h.0, r)

pub valid-apart : (k : Name) (names : List Name) (xs : List Layout) → AllValid (layouts_from xs)
    → AllValid (layouts_from (apart_from k names xs))
valid-apart k [] xs h = tt
valid-apart k (m ∷ ms) [] h = tt
valid-apart k (m ∷ ms) (x ∷ xs) h = by (same_name m k) (valid-apart k ms xs h.1)
  where
    by : (b : Bool) → AllValid (layouts_from (apart_from k ms xs))
        → AllValid (layouts_from (if b then apart_from k ms xs else x ∷ apart_from k ms xs))
    by true r = r
    by false r = (h.0, r)

pub length-apart : {A : Type 0} (k : Name) (names : List Name) (xs : List A)
    → length names ≡ length xs → length (apart_from k names names) ≡ length (apart_from k names xs)
length-apart k [] xs e = refl
length-apart k (m ∷ ms) [] e = absurd (omega arith)
length-apart k (m ∷ ms) (x ∷ xs) e = by (same_name m k) (length-apart k ms xs (omega arith))
  where
    by : (b : Bool) → length (apart_from k ms ms) ≡ length (apart_from k ms xs)
        → length (if b then apart_from k ms ms else m ∷ apart_from k ms ms) ≡ length
        (if b then apart_from k ms xs else x ∷ apart_from k ms xs)
    by true h = h
    by false h = ap suc h

among-apart : (n k : Name) (names : List Name) → is_among n names ≡ false
    → is_among n (apart_from k names names) ≡ false
among-apart n k [] e = refl
among-apart n k (m ∷ ms) e = by (same_name m k) (among-apart n k ms (or_second (same_name m n) _ e))
  where
    by : (b : Bool) → is_among n (apart_from k ms ms) ≡ false
        → is_among n (if b then apart_from k ms ms else m ∷ apart_from k ms ms) ≡ false
    by true h = h
    by false h = rw (or_first (same_name m n) _ e, h) refl

pub distinct-apart : (k : Name) (names : List Name) → AreDistinct names
    → AreDistinct (apart_from k names names)
distinct-apart k [] d = tt
distinct-apart k (m ∷ ms) d = by (same_name m k) (distinct-apart k ms d.1)
  where
    by : (b : Bool) → AreDistinct (apart_from k ms ms)
        → AreDistinct (if b then apart_from k ms ms else m ∷ apart_from k ms ms)
    by true h = h
    by false h = (among-apart m k ms d.0, h)
