-- How many choices of places there are, which they are, and that none stands there twice.
use Rattle.std.proofs.Common.{◌≡◌, ◌⊎◌, inl, inr, ℕ, zero, suc, ◌+◌, ◌-◌, ◌*◌, ◌<◌, ◌≤◌, refl}
use Rattle.std.proofs.Common.{ap, ap₂, sym, subst, ◌∙◌, arith, List, [], ◌∷◌, ◌++◌, map, length}
use Rattle.std.specs.Prelude.{◌==◌, nat_lt, Bool, true, false, cond, filter, if◌then◌else◌}
use Rattle.std.specs.List.{AllByRecursion, Contains, range_with_len, flat_map}
use Rattle.std.proofs.lemmas.Bool.{cases_lt}
use Rattle.std.proofs.lemmas.List.{length-map, get_or-map}
use Rattle.std.proofs.lemmas.List.Elements.{Contains-append_left, Contains-append_right}
use Rattle.std.proofs.lemmas.List.Elements.{filter_passes, recursion_from_All}
use Rattle.awk_base.proofs.Truths.{eq-refl}
use Rattle.awk_places.specs.Paths.{paths}
use Rattle.awk_places.specs.Places.{before_each, all_places, next_place, goes_up, rising_places}
use Rattle.awk_places.specs.Places.{rising_from}
use Rattle.awk_places.proofs.BegunLaws.{all_long, all_below, IsLong, AreBelow}
use Rattle.awk_places.proofs.FlatLaws.{all-append, all-flat}
use Rattle.awk_places.proofs.Paths.{paths-upwards, with_replacement, without_replacement}
use Rattle.awk_places.proofs.Paths.{none_chosen}
use Rattle.awk_places.proofs.RisingLaws.{rising_count, length-rising_places, rising_places-from}
use Rattle.awk_laws.specs.Choices.{binomial, factorial, IsChoice, comes_before, AreInOrder}

-- ---- how many

counted : (m n : ℕ) → rising_count false n m ≡ binomial m n
counted m zero = refl
counted zero (suc n) = refl
counted (suc m) (suc n) = ap₂ (λ a b. a + b) (counted m n) (counted m (suc n))

pub count-choices : (n m : ℕ) → length (rising_places false n m) ≡ binomial m n
count-choices n m = length-rising_places false n m ∙ counted m n

binomial-paths : (a n m : ℕ) → a + n ≡ m → binomial m n ≡ paths a n
binomial-paths a n m e = sym (counted m n) ∙ without_replacement n a m e

repeated : (m n : ℕ) → rising_count true n m ≡ binomial (m + n - 1) n
repeated zero zero = refl
repeated zero (suc n) =
    let e : 0 + suc n - 1 ≡ n = omega arith in
    sym (ap (λ k. binomial k (suc n)) e ∙ sym (counted n (suc n))
    ∙ none_chosen (suc n) n (omega arith))
repeated (suc d) n =
    with_replacement n d ∙ sym (binomial-paths d n (suc d + n - 1) (omega arith))

pub count-repeated : (n m : ℕ) → length (rising_places true n m) ≡ binomial (m + n - 1) n
count-repeated n m = length-rising_places true n m ∙ repeated m n

-- ---- factorials

apart : (p s f g : ℕ) → p * ((s * f) * g) ≡ (p * s) * (f * g)
apart p s f g = grind arith

moved : (p s f : ℕ) → (p * s) * f ≡ s * (p * f)
moved p s f = grind arith

paths-factorial : (a n : ℕ) → paths a n * (factorial n * factorial a) ≡ factorial (a + n)
paths-factorial a zero =
    let e : 1 * (1 * factorial a) ≡ factorial a = omega arith in
    let z : a ≡ a + 0 = omega arith in
    e ∙ ap factorial z
paths-factorial a (suc n) =
    let e : a + n + 1 ≡ suc (a + n) = omega arith in
    let z : suc (a + n) ≡ a + suc n = omega arith in
    apart (paths a (suc n)) (suc n) (factorial n) (factorial a)
    ∙ ap (λ q. q * (factorial n * factorial a)) (paths-upwards a n)
    ∙ moved (paths a n) (a + n + 1) (factorial n * factorial a)
    ∙ ap₂ (λ s f. s * f) e (paths-factorial a n)
    ∙ ap factorial z

pub binomial-factorial : (m n : ℕ) → n ≤ m
    → binomial m n * (factorial n * factorial (m - n)) ≡ factorial m
binomial-factorial m n l =
    let e : (m - n) + n ≡ m = omega (arith, l) in
    ap (λ b. b * (factorial n * factorial (m - n))) (binomial-paths (m - n) n m e)
    ∙ paths-factorial (m - n) n ∙ ap factorial e

-- ---- each of them is a choice

choices_by : (rep : Bool) (n m : ℕ) (kss : List (List ℕ)) → AllByRecursion (IsLong n) kss
    → AllByRecursion (AreBelow m) kss → AllByRecursion (λ ks. goes_up rep ks ≡ true) kss
    → AllByRecursion (IsChoice rep n m) kss
choices_by rep n m [] a b c = tt
choices_by rep n m (ks ∷ kss) a b c =
    (record { long = a.0; below = b.0; rising = c.0 }, choices_by rep n m kss a.1 b.1 c.1)

pub all_choices : (rep : Bool) (n m : ℕ)
    → AllByRecursion (IsChoice rep n m) (rising_places rep n m)
all_choices rep n m =
    let e = rising_places-from rep n m in
    choices_by rep n m (rising_places rep n m)
    (subst (AllByRecursion (IsLong n)) (sym e) (all_long rep n 0 m))
    (subst (AllByRecursion (AreBelow m)) (sym e) (all_below rep n 0 m))
    (recursion_from_All (λ ks. goes_up rep ks ≡ true) (rising_places rep n m)
    (filter_passes (goes_up rep) (all_places n m)))

-- ---- each choice is among them

in_map : {X Y : Type 0} (f : X → Y) (xs : List X) (x : X) → Contains xs x
    → Contains (map f xs) (f x)
in_map f xs x h =
    (h.0, omega (arith, h.1, length-map xs f), get_or-map f xs h.0 x (f x) h.1 ∙ ap f h.2)

in_flat : {X : Type 0} (g : ℕ → List X) (a n i : ℕ) (x : X) → a ≤ i → i < a + n
    → Contains (g i) x → Contains (flat_map g (range_with_len a n)) x
in_flat g a zero i x l m h = absurd (omega (arith, l, m))
in_flat {X} g a (suc n) i x l m h =
    go (cases_lt a i) (λ p. in_flat g (a + 1) n i x p (omega (arith, m)) h)
  where
    rest : List X
    rest = flat_map g (range_with_len (a + 1) n)

    go : (a < i) ⊎ (i ≤ a) → (a + 1 ≤ i → Contains rest x) → Contains (g a ++ rest) x
    go (inl p) k = Contains-append_right (g a) rest x (k (omega (arith, p)))
    go (inr p) k =
        let e : i ≡ a = omega (arith, l, p) in
        Contains-append_left (g a) rest x (subst (λ j. Contains (g j) x) e h)

kept : {X : Type 0} (b : Bool) (y x : X) (ys : List X) → Contains ys x
    → Contains (cond b (y ∷ ys) ys) x
kept true y x ys h = Contains-append_right (y ∷ []) ys x h
kept false y x ys h = h

in_filter : {X : Type 0} (p : X → Bool) (xs : List X) (x : X) → p x ≡ true → Contains xs x
    → Contains (filter p xs) x
in_filter p [] x e h = absurd (omega (arith, h.1))
in_filter p (y ∷ ys) x e (zero, l, h) =
    subst (λ b. Contains (cond b (y ∷ filter p ys) (filter p ys)) x) (sym (ap p h ∙ e))
    (0, omega arith, h)
in_filter p (y ∷ ys) x e (suc k, l, h) =
    kept (p y) y x (filter p ys) (in_filter p ys x e (k, omega (arith, l), h))

in_all : (n m : ℕ) (ks : List ℕ) → length ks ≡ n → AllByRecursion (λ k. k < m) ks
    → Contains (all_places n m) ks
in_all zero m [] e h = (0, omega arith, refl)
in_all zero m (k ∷ ks) e h = absurd (omega (arith, e))
in_all (suc n) m [] e h = absurd (omega (arith, e))
in_all (suc n) m (k ∷ ks) e h =
    in_flat (λ k. before_each k (all_places n m)) 0 m k (k ∷ ks) (omega arith)
    (omega (arith, h.0))
    (in_map (λ js. k ∷ js) (all_places n m) ks (in_all n m ks (omega (arith, e)) h.1))

pub each_choice : (rep : Bool) (n m : ℕ) (ks : List ℕ) → IsChoice rep n m ks
    → Contains (rising_places rep n m) ks
each_choice rep n m ks h =
    in_filter (goes_up rep) (all_places n m) ks h.rising (in_all n m ks h.long h.below)

-- ---- in order

pub not_before_itself : (ks : List ℕ) → comes_before ks ks ≡ false
not_before_itself [] = refl
not_before_itself (k ∷ ks) =
    ap (λ b. if b then comes_before ks ks else nat_lt k k) (eq-refl k) ∙ not_before_itself ks

abbrev IsBefore : List ℕ → List ℕ → Type 0
IsBefore ks js = comes_before ks js ≡ true

order_append : (xs ys : List (List ℕ)) → AreInOrder xs → AreInOrder ys
    → AllByRecursion (λ x. AllByRecursion (IsBefore x) ys) xs → AreInOrder (xs ++ ys)
order_append [] ys a b c = b
order_append (x ∷ xs) ys a b c =
    (all-append (IsBefore x) xs ys a.0 c.0, order_append xs ys a.1 b c.1)

before_same : (k : ℕ) (js ks : List ℕ) → IsBefore js ks → IsBefore (k ∷ js) (k ∷ ks)
before_same k js ks h =
    ap (λ b. if b then comes_before js ks else nat_lt k k) (eq-refl k) ∙ h

all_before_same : (k : ℕ) (js : List ℕ) (kss : List (List ℕ)) → AllByRecursion (IsBefore js) kss
    → AllByRecursion (IsBefore (k ∷ js)) (before_each k kss)
all_before_same k js [] h = tt
all_before_same k js (ks ∷ kss) h = (before_same k js ks h.0, all_before_same k js kss h.1)

order_each : (k : ℕ) (kss : List (List ℕ)) → AreInOrder kss → AreInOrder (before_each k kss)
order_each k [] h = tt
order_each k (ks ∷ kss) h = (all_before_same k ks kss h.0, order_each k kss h.1)

before_later : (j k : ℕ) (js ks : List ℕ) → j < k → IsBefore (j ∷ js) (k ∷ ks)
before_later j k js ks l =
    let e : (j == k) ≡ false = grind (arith, l) in
    let f : nat_lt j k ≡ true = grind (arith, l) in
    ap (λ b. if b then comes_before js ks else nat_lt j k) e ∙ f

all_later : (j k : ℕ) (js : List ℕ) (kss : List (List ℕ)) → j < k
    → AllByRecursion (IsBefore (j ∷ js)) (before_each k kss)
all_later j k js [] l = tt
all_later j k js (ks ∷ kss) l = (before_later j k js ks l, all_later j k js kss l)

module _ (g : ℕ → List (List ℕ)) where
  abbrev begun : ℕ → List (List ℕ)
  begun k = before_each k (g k)

  abbrev from_place : ℕ → ℕ → List (List ℕ)
  from_place a d = flat_map begun (range_with_len a d)

  rest_later : (a d : ℕ) (kss : List (List ℕ))
      → AllByRecursion (λ x. AllByRecursion (IsBefore x) (from_place (a + 1) d))
      (before_each a kss)
  rest_later a d [] = tt
  rest_later a d (ks ∷ kss) = (
    all-flat (IsBefore (a ∷ ks)) begun (a + 1) d
        (λ k p q. all_later a k ks (g k) (omega (arith, p))),
    rest_later a d kss,
  )

  order_flat : ((k : ℕ) → AreInOrder (g k)) → (a d : ℕ)
      → AreInOrder (flat_map begun (range_with_len a d))
  order_flat h a zero = tt
  order_flat h a (suc d) =
      order_append (begun a) (flat_map begun (range_with_len (a + 1) d))
      (order_each a (g a) (h a)) (order_flat h (a + 1) d) (rest_later a d (g a))

in_order_from : (rep : Bool) (n a m : ℕ) → AreInOrder (rising_from rep n a m)
in_order_from rep zero a m = (tt, tt)
in_order_from rep (suc n) a m =
    order_flat (λ k. rising_from rep n (next_place rep k) m)
    (λ k. in_order_from rep n (next_place rep k) m) a (m - a)

pub choices_in_order : (rep : Bool) (n m : ℕ) → AreInOrder (rising_places rep n m)
choices_in_order rep n m =
    subst AreInOrder (sym (rising_places-from rep n m)) (in_order_from rep n 0 m)
