-- Extremes of the numbers among the items of a list, and their places.
use Rattle.std.proofs.Common.{◌≡◌, ◌⊎◌, inl, inr, ℕ, zero, suc, ◌<◌, ◌≤◌, refl, ap, ap₂, sym}
use Rattle.std.proofs.Common.{subst, ◌∙◌, arith, true≢false, List, [], ◌∷◌, map, length, get_or}
use Rattle.std.specs.Prelude.{ℤ, ◌≤ℤ◌, int_lt, nat_lt, Bool, true, false, cond, ◌&&◌}
use Rattle.std.specs.Prelude.{Option, Some, None, position}
use Rattle.std.specs.Int.{int_min, int_max}
use Rattle.std.specs.List.{AllByRecursion, All, Contains, fold, position_or_len}
use Rattle.std.specs.Option.{option_and_then}
use Rattle.std.specs.Ordering.{int_eq}
use Rattle.std.proofs.lemmas.Bool.{and_parts, cases_lt}
use Rattle.std.proofs.lemmas.Bool.Decides.{Decides-int_eq}
use Rattle.std.proofs.lemmas.Int.{ints, fold-int_min_bounds, fold-int_min_reached}
use Rattle.std.proofs.lemmas.Int.{fold-int_max_bounds, fold-int_max_reached}
use Rattle.std.proofs.lemmas.List.{get_or_default}
use Rattle.std.proofs.lemmas.List.Elements.{All-cons, All-weaker}
use Rattle.std.proofs.lemmas.List.Quantifiers.{position-Some}
use Rattle.std.proofs.lemmas.List.Sums.{fails_before_first}
use Rattle.awk_base.proofs.Truths.{int_eq-refl}
use Rattle.awk_types.specs.Parts.{number_of}
use Rattle.awk_types.specs.Predicates.{is_null}
use Rattle.awk_types.specs.Value.{Value, int, truth, null, list, row, alt}
use Rattle.awk_columns.specs.Columns.{is_present, present_values}
use Rattle.awk_numbers.specs.Folds.{beats, extreme_of}
use Rattle.awk_numbers.specs.declared.extremes.Extreme.{Extreme}
use Rattle.awk_numbers.specs.declared.extremes.Extreme.TheVariants.{Least, Greatest}
use Rattle.awk_present.specs.Numbers.{numbers, number_place, extreme_place}
use Rattle.awk_number_laws.specs.Extremes.{IsExtreme, IsFirstExtreme}

-- ---- of numbers

not_below : (x y : ℤ) → x ≤ℤ y → int_lt y x ≡ false
not_below x y l = grind (arith, ints, l)

after_first : (z y : ℤ) (ys : List ℤ) → (z ≡ y) ⊎ Contains ys z → Contains (y ∷ ys) z
after_first z y ys (inl e) = (0, omega arith, sym e)
after_first z y ys (inr h) = (suc h.0, omega (arith, h.1), h.2)

-- the extreme is one of the numbers, and none of them beats it
pub record IsExtremeOf (how : Extreme) (zs : List ℤ) (z : ℤ) : Type 0 where
  pub number : Contains zs z
  pub unbeaten : All (λ y. beats how y z ≡ false) zs

pub extreme_told : (how : Extreme) (zs : List ℤ) (z : ℤ) → extreme_of how zs ≡ Some z
    → IsExtremeOf how zs z
extreme_told Least [] z e = absurd (cc)
extreme_told Greatest [] z e = absurd (cc)
extreme_told Least (y ∷ ys) z e =
    let f : z ≡ fold int_min y ys = cc in
    let b = fold-int_min_bounds y ys z f in
    record {
      number = after_first z y ys (fold-int_min_reached y ys z f);
      unbeaten =
          All-cons (λ x. int_lt x z ≡ false) y ys (not_below z y b.0)
          (All-weaker (λ x. z ≤ℤ x) (λ x. int_lt x z ≡ false) (λ x l. not_below z x l) ys b.1);
    }
extreme_told Greatest (y ∷ ys) z e =
    let f : z ≡ fold int_max y ys = cc in
    let b = fold-int_max_bounds y ys z f in
    record {
      number = after_first z y ys (fold-int_max_reached y ys z f);
      unbeaten =
          All-cons (λ x. int_lt z x ≡ false) y ys (not_below y z b.0)
          (All-weaker (λ x. x ≤ℤ z) (λ x. int_lt z x ≡ false) (λ x l. not_below x z l) ys b.1);
    }

pub extreme_there : (how : Extreme) (y : ℤ) (ys : List ℤ)
    → (z : ℤ) × (extreme_of how (y ∷ ys) ≡ Some z)
extreme_there Least y ys = (fold int_min y ys, refl)
extreme_there Greatest y ys = (fold int_max y ys, refl)

-- ---- of items

abbrev pub number_test : ℤ → Value → Bool
number_test z v = is_present v && int_eq z (number_of v)

numbers-first : (v : Value) (vs : List Value)
    → numbers (v ∷ vs) ≡ cond (is_present v) (number_of v ∷ numbers vs) (numbers vs)
numbers-first v vs = go (is_present v)
  where
    go : (b : Bool) → map number_of (cond b (v ∷ present_values vs) (present_values vs))
        ≡ cond b (number_of v ∷ map number_of (present_values vs))
        (map number_of (present_values vs))
    go true = refl
    go false = refl

-- a number is that of an item that is present
pub number_there : (vs : List Value) (z : ℤ) → Contains (numbers vs) z
    → (i : ℕ) × (i < length vs) × (number_test z (get_or vs i null) ≡ true)
number_there [] z h = absurd (omega (arith, h.1))
number_there (v ∷ vs) z h =
    go (is_present v) refl (subst (λ zs. Contains zs z) (numbers-first v vs) h)
    (λ h. number_there vs z h)
  where
    later : (i : ℕ) × (i < length vs) × (number_test z (get_or vs i null) ≡ true)
        → (i : ℕ) × (i < length (v ∷ vs)) × (number_test z (get_or (v ∷ vs) i null) ≡ true)
    later (i, l, e) = (suc i, omega (arith, l), e)

    go : (b : Bool) → is_present v ≡ b
        → Contains (cond b (number_of v ∷ numbers vs) (numbers vs)) z
        → (Contains (numbers vs) z
        → (i : ℕ) × (i < length vs) × (number_test z (get_or vs i null) ≡ true))
        → (i : ℕ) × (i < length (v ∷ vs)) × (number_test z (get_or (v ∷ vs) i null) ≡ true)
    go false e h k = later (k h)
    go true e (zero, l, f) k =
        (0, omega arith, ap₂ (λ b n. b && int_eq z n) e f ∙ int_eq-refl z)
    go true e (suc i, l, f) k = later (k (i, omega (arith, l), f))

-- what holds of all numbers holds of that of an item that is present
pub number_all : (P : ℤ → Type 0) (vs : List Value) → All P (numbers vs) → (i : ℕ)
    → i < length vs → is_present (get_or vs i null) ≡ true → P (number_of (get_or vs i null))
number_all P [] a i l e = absurd (omega (arith, l))
number_all P (v ∷ vs) a i l e =
    go (is_present v) refl (subst (All P) (numbers-first v vs) a) i l e
    (λ a i l e. number_all P vs a i l e)
  where
    go : (b : Bool) → is_present v ≡ b
        → All P (cond b (number_of v ∷ numbers vs) (numbers vs)) → (i : ℕ) → i < length (v ∷ vs)
        → is_present (get_or (v ∷ vs) i null) ≡ true
        → (All P (numbers vs) → (i : ℕ) → i < length vs → is_present (get_or vs i null) ≡ true
        → P (number_of (get_or vs i null)))
        → P (number_of (get_or (v ∷ vs) i null))
    go true f a zero l e k = a 0 (number_of v) (omega arith)
    go true f a (suc i) l e k =
        k (λ j d m. a (suc j) d (omega (arith, m))) i (omega (arith, l)) e
    go false f a zero l e k = absurd (true≢false (sym e ∙ f))
    go false f a (suc i) l e k = k a i (omega (arith, l)) e

-- some item is present where there is a number, and the other way round
pub some_number : (vs : List Value) (i : ℕ) → i < length vs
    → is_present (get_or vs i null) ≡ true
    → (y : ℤ) × (ys : List ℤ) × (numbers vs ≡ y ∷ ys)
some_number [] i l e = absurd (omega (arith, l))
some_number (v ∷ vs) i l e = go (is_present v) refl i l e (λ i l e. some_number vs i l e)
  where
    go : (b : Bool) → is_present v ≡ b → (i : ℕ) → i < length (v ∷ vs)
        → is_present (get_or (v ∷ vs) i null) ≡ true
        → ((i : ℕ) → i < length vs → is_present (get_or vs i null) ≡ true
        → (y : ℤ) × (ys : List ℤ) × (numbers vs ≡ y ∷ ys))
        → (y : ℤ) × (ys : List ℤ) × (numbers (v ∷ vs) ≡ y ∷ ys)
    go true f i l e k = (
      number_of v,
      numbers vs,
      numbers-first v vs ∙ ap (λ b. cond b (number_of v ∷ numbers vs) (numbers vs)) f,
    )
    go false f zero l e k = absurd (true≢false (sym e ∙ f))
    go false f (suc i) l e k =
        let h = k i (omega (arith, l)) e in (
          h.0,
          h.1,
          numbers-first v vs ∙ ap (λ b. cond b (number_of v ∷ numbers vs) (numbers vs)) f ∙ h.2,
        )

pub no_numbers : (vs : List Value) → AllByRecursion (λ v. is_null v ≡ true) vs
    → numbers vs ≡ []
no_numbers [] h = refl
no_numbers (null ∷ vs) h = no_numbers vs h.1
no_numbers (int z ∷ vs) h = absurd (true≢false (sym h.0))
no_numbers (truth b ∷ vs) h = absurd (true≢false (sym h.0))
no_numbers (list ws ∷ vs) h = absurd (true≢false (sym h.0))
no_numbers (row ws ∷ vs) h = absurd (true≢false (sym h.0))
no_numbers (alt k w ∷ vs) h = absurd (true≢false (sym h.0))

-- ---- places

pub number_is : (z : ℤ) (v : Value) → number_test z v ≡ true
    → (is_present v ≡ true) × (z ≡ number_of v)
number_is z v e =
    let h = and_parts (is_present v) (int_eq z (number_of v)) e in
    (h.0, (Decides-int_eq z (number_of v)).0 h.1)

position_there : {X : Type 0} (p : X → Bool) (xs : List X) (i : ℕ) (d : X) → i < length xs
    → p (get_or xs i d) ≡ true → (k : ℕ) × (position p xs ≡ Some k)
position_there p xs i d l e = (position_or_len p xs, found (cases_lt i (position_or_len p xs)))
  where
    found : (i < position_or_len p xs) ⊎ (position_or_len p xs ≤ i)
        → position p xs ≡ Some (position_or_len p xs)
    found (inl m) = absurd (true≢false (sym e ∙ fails_before_first p xs i d m))
    found (inr m) =
        let t : nat_lt (position_or_len p xs) (length xs) ≡ true = grind (arith, l, m) in
        ap (λ b. cond b (Some (position_or_len p xs)) None) t

pub extreme_item : (how : Extreme) (vs : List Value) (z : ℤ) (v : Value)
    → extreme_of how (numbers vs) ≡ Some z → Contains vs v → is_present v ≡ true
    → number_of v ≡ z → IsExtreme how vs v
extreme_item how vs z v e h p n = record {
  item = h;
  present = p;
  unbeaten =
      subst (λ z. (i : ℕ) → i < length vs → is_present (get_or vs i null) ≡ true
      → beats how (number_of (get_or vs i null)) z ≡ false) (sym n)
      (number_all (λ y. beats how y z ≡ false) vs (extreme_told how (numbers vs) z e).unbeaten);
}

other_number : (how : Extreme) (z y : ℤ) → int_eq z y ≡ false → beats how y z ≡ false
    → beats how z y ≡ true
other_number Least z y e f = grind (arith, ints)
other_number Greatest z y e f = grind (arith, ints)

other : (z : ℤ) (v : Value) → number_test z v ≡ false → is_present v ≡ true
    → int_eq z (number_of v) ≡ false
other z v e p = sym (ap (λ b. b && int_eq z (number_of v)) p) ∙ e

place_parts : (how : Extreme) (vs : List Value) (o : Option ℤ) (k : ℕ)
    → option_and_then (number_place vs) o ≡ Some k
    → (z : ℤ) × (o ≡ Some z) × (number_place vs z ≡ Some k)
place_parts how vs None k e = absurd (cc)
place_parts how vs (Some z) k e = (z, refl, e)

pub record IsPlaced (how : Extreme) (vs : List Value) (k : ℕ) (z : ℤ) : Type 0 where
  pub extreme : extreme_of how (numbers vs) ≡ Some z
  pub inside : k < length vs
  pub present : is_present (get_or vs k null) ≡ true
  pub number : number_of (get_or vs k null) ≡ z
  pub before : (i : ℕ) → i < k → number_test z (get_or vs i null) ≡ false

pub placed : (how : Extreme) (vs : List Value) (k : ℕ) → extreme_place how vs ≡ Some k
    → (z : ℤ) × IsPlaced how vs k z
placed how vs k e =
    let h = place_parts how vs (extreme_of how (numbers vs)) k e in
    let p = position-Some (number_test h.0) vs k null h.2 in
    let n = number_is h.0 (get_or vs k null) p.1 in (
      h.0,
      record {
        extreme = h.1;
        inside = p.0;
        present = n.0;
        number = sym n.1;
        before = p.2;
      },
    )

pub first_place : (how : Extreme) (vs : List Value) (k : ℕ) → extreme_place how vs ≡ Some k
    → IsFirstExtreme how vs k
first_place how vs k e =
    let q = placed how vs k e in
    let z = q.0 in
    let h = q.1 in
    record {
      inside = h.inside;
      extreme =
          extreme_item how vs z (get_or vs k null) h.extreme (k, h.inside, there k h.inside)
          h.present h.number;
      first =
          λ i l p. subst (λ y. beats how y (number_of (get_or vs i null)) ≡ true) (sym h.number)
          (other_number how z (number_of (get_or vs i null))
          (other z (get_or vs i null) (h.before i l) p)
          (number_all (λ y. beats how y z ≡ false) vs
          (extreme_told how (numbers vs) z h.extreme).unbeaten i (omega (arith, l, h.inside)) p));
    }
  where
    there : (k : ℕ) → k < length vs → get_or vs k (get_or vs k null) ≡ get_or vs k null
    there k l = get_or_default vs k (get_or vs k null) null l

pub place_there : (how : Extreme) (vs : List Value) (i : ℕ) → i < length vs
    → is_present (get_or vs i null) ≡ true → (k : ℕ) × (extreme_place how vs ≡ Some k)
place_there how vs i l e =
    let h = some_number vs i l e in
    let x = extreme_there how h.0 h.1 in
    let f : extreme_of how (numbers vs) ≡ Some x.0 = ap (extreme_of how) h.2 ∙ x.1 in
    let n = number_there vs x.0 (extreme_told how (numbers vs) x.0 f).number in
    let p = position_there (number_test x.0) vs n.0 null n.1 n.2 in
    (p.0, ap (option_and_then (number_place vs)) f ∙ p.1)
