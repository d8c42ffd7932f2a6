-- Parts of a list brought in order: by std's sort, turned round where they fall, one after another.
use Rattle.std.proofs.Common.{◌≡◌, ℕ, zero, suc, ◌+◌, ◌-◌, ◌<◌, ◌≤◌, refl, ap, ap₂, sym, ◌∙◌, subst}
use Rattle.std.proofs.Common.{List, [], ◌∷◌, ◌++◌, map, length, get_or, reverse}
use Rattle.std.proofs.Common.{arith, add-one, take, drop}
use Rattle.std.proofs.Common.{drop_of_length-le, append-nil, take_all}
use Rattle.std.proofs.Common.{◌⊎◌, inl, inr, Ordering, eq-or-lt_of_le, rules}
use Rattle.std.specs.Prelude.{ℤ, int_lt, Bool, true, false}
use Rattle.std.specs.List.{slice_range}
use Rattle.std.specs.List.Sorted.{IsPermutation, IsSorted}
use Rattle.std.specs.Ordering.{is_lt}
use Rattle.std.proofs.lemmas.List.Sorted.{IsPermutation-trans, IsPermutation-map}
use Rattle.std.proofs.lemmas.List.Sorted.{IsPermutation-reverse, IsPermutation-put_mid}
use Rattle.std.proofs.lemmas.List.Sorted.{length_permutation, IsPermutation-refl}
use Rattle.std.proofs.lemmas.Slice.{between_is, between-put_mid, drop-put_mid, take-put_mid_below}
use borrow.Rule.Slice.PartMut.{put_mid, mid_of, mid_len}
use mathlib.Core.List.{reverse-cons}
use Rattle.awk_lanes.specs.Column.{Column}
use Rattle.awk_lanes.specs.Places.{place_at}
use Rattle.awk_parts.specs.Parts.{AreRising}
use Rattle.awk_sorting.specs.Order.{number_first, sort_numbers}
use Rattle.awk_sorting.specs.Parts.{SortsPart, SortsParts, numbers_at}
use Rattle.awk_sorting.proofs.UniqueLaws.{AreInOrder, NoneBefore, in_order_by_neighbours}
use Rattle.awk_sorting.proofs.UniqueLaws.{sorted_is, sort_in_order, in_order_appended}
use Rattle.awk_sorting.proofs.UniqueLaws.{AllPassed}

pub less_or_last : (j i : ℕ) → j ≤ i → (j < i) ⊎ (j ≡ i)
less_or_last j i l = search (rules, eq-or-lt_of_le)

-- ---- turned round

passed_appended : (up : Bool) (x y : ℤ) (ys : List ℤ) → AllPassed up ys x
    → number_first up x y ≡ false → AllPassed up (ys ++ y ∷ []) x
passed_appended up x y [] h k = (k, tt)
passed_appended up x y (z ∷ zs) h k = (h.0, passed_appended up x y zs h.1 k)

passed_turned : (x : ℤ) (ys : List ℤ) → NoneBefore true x ys → AllPassed false (reverse ys) x
passed_turned x [] h = tt
passed_turned x (y ∷ ys) h =
    subst (λ l. AllPassed false l x) (sym (reverse-cons y ys))
    (passed_appended false x y (reverse ys) (passed_turned x ys h.1) h.0)

-- numbers that rise fall when they are turned round
turned_in_order : (zs : List ℤ) → AreInOrder true zs → AreInOrder false (reverse zs)
turned_in_order [] h = tt
turned_in_order (x ∷ xs) h =
    subst (AreInOrder false) (sym (reverse-cons x xs))
    (in_order_appended false (reverse xs) x (turned_in_order xs h.1) (passed_turned x xs h.0))

-- ---- a slice

module _ {X : Type 0} (number : X → ℤ) where
  pub map-get : (xs : List X) (k : ℕ) (d : X)
      → get_or (map number xs) k (number d) ≡ number (get_or xs k d)
  map-get [] k d = refl
  map-get (x ∷ xs) zero d = refl
  map-get (x ∷ xs) (suc k) d = map-get xs k d

  map-length : (xs : List X) → length (map number xs) ≡ length xs
  map-length [] = refl
  map-length (x ∷ xs) = ap suc (map-length xs)

  pub map-append : (xs ys : List X) → map number (xs ++ ys) ≡ map number xs ++ map number ys
  map-append [] ys = refl
  map-append (x ∷ xs) ys = ap (λ l. number x ∷ l) (map-append xs ys)

  map-reverse : (xs : List X) → map number (reverse xs) ≡ reverse (map number xs)
  map-reverse [] = refl
  map-reverse (x ∷ xs) =
      ap (map number) (reverse-cons x xs) ∙ map-append (reverse xs) (x ∷ [])
      ∙ ap (λ l. l ++ number x ∷ []) (map-reverse xs)
      ∙ sym (reverse-cons (number x) (map number xs))

  module _ (cmp : X → X → Ordering)
      (compares : (x y : X) → is_lt (cmp x y) ≡ int_lt (number x) (number y)) where
    rising_step : (ys : List X) (d : X) (k : ℕ) → IsSorted cmp ys → suc k < length ys
        → int_lt (number (get_or ys (suc k) d)) (number (get_or ys k d)) ≡ false
    rising_step ys d k s l =
        sym (compares (get_or ys (suc k) d) (get_or ys k d))
        ∙ subst (λ j. is_lt (cmp (get_or ys j d) (get_or ys k d)) ≡ false) (add-one k)
        (s k d (omega arith) (omega (arith, l)))

    rising : (ys : List X) → IsSorted cmp ys → AreInOrder true (map number ys)
    rising [] s = tt
    rising (y ∷ ys) s =
        in_order_by_neighbours true (map number (y ∷ ys)) (number y)
        (λ k l.
        ap₂ int_lt (map-get (y ∷ ys) (suc k) y) (map-get (y ∷ ys) k y)
        ∙ rising_step (y ∷ ys) y k s (omega (arith, l, map-length (y ∷ ys))))

    pub sorted_up : (xs ys : List X) → IsPermutation xs ys → IsSorted cmp ys
        → map number ys ≡ sort_numbers true (map number xs)
    sorted_up xs ys p s =
        sorted_is true (map number xs) (map number ys) (IsPermutation-map number xs ys p)
        (rising ys s)

  pub sorted_down : (xs ys : List X) → IsPermutation xs ys
      → map number ys ≡ sort_numbers true (map number xs)
      → map number (reverse ys) ≡ sort_numbers false (map number xs)
  sorted_down xs ys p e =
      let in_order : AreInOrder true (map number ys) =
      subst (AreInOrder true) (sym e) (sort_in_order true (map number xs)) in
      sorted_is false (map number xs) (map number (reverse ys))
      (IsPermutation-map number xs (reverse ys)
      (IsPermutation-trans xs ys (reverse ys) p (IsPermutation-reverse ys)))
      (subst (AreInOrder false) (sym (map-reverse ys)) (turned_in_order (map number ys)
      in_order))

  -- ---- a part of a slice

  pub sorts_part : (up : Bool) (start stop : ℕ) (xs ys : List X) → start ≤ stop → stop ≤ length xs
      → IsPermutation (mid_of start (stop - start) xs) ys
      → map number ys ≡ sort_numbers up (map number (slice_range xs start stop))
      → SortsPart number up start stop xs (put_mid start (stop - start) xs ys)
  sorts_part up start stop xs ys l m p e =
      let long : length ys ≡ stop - start =
      length_permutation (mid_of start (stop - start) xs) ys p ∙ mid_len start stop xs m in
      record {
        same = IsPermutation-put_mid start (stop - start) xs ys p;
        below = λ a b q.
            between_is (put_mid start (stop - start) xs ys) a b
            ∙ ap (drop a) (take-put_mid_below start (stop - start) xs ys b q (omega (arith, l, m)))
            ∙ sym (between_is xs a b);
        above = λ a b q.
            ap (take (b - a)) (drop-put_mid start (stop - start) xs ys a (omega (arith, l, q))
            (omega (arith, l, m)) long);
        part =
            ap (map number) (between-put_mid start (stop - start) xs ys stop (omega (arith, l, m))
            long)
            ∙ e;
      }

  -- ---- parts one after another

  pub sorts_none : (up : Bool) (o : Column) (xs : List X) → SortsParts number up o 0 xs xs
  sorts_none up o xs = record {
    same = IsPermutation-refl xs;
    parts = λ i l. absurd (omega (arith, l));
    rest = λ a b l. refl;
  }

  pub sorts_more : (up : Bool) (o : Column) (i : ℕ) (xs ys zs : List X)
      → ((j : ℕ) → j < i → place_at o (j + 1) ≤ place_at o i) → place_at o i ≤ place_at o (i + 1)
      → SortsParts number up o i xs ys
      → SortsPart number up (place_at o i) (place_at o (i + 1)) ys zs
      → SortsParts number up o (i + 1) xs zs
  sorts_more up o i xs ys zs before next h k = record {
    same = IsPermutation-trans xs ys zs h.same k.same;
    parts = λ j l. by_place j (less_or_last j i (omega (arith, l)));
    rest = λ a b l.
        k.above a b l ∙ h.rest a b (omega (arith, l, next));
  }
    where
      by_place : (j : ℕ) → (j < i) ⊎ (j ≡ i)
          → numbers_at number o zs j ≡ sort_numbers up (numbers_at number o xs j)
      by_place j (inl l) =
          ap (map number) (k.below (place_at o j) (place_at o (j + 1)) (before j l)) ∙ h.parts j l
      by_place j (inr e) =
          subst (λ m. numbers_at number o zs m ≡ sort_numbers up (numbers_at number o xs m)) (sym e)
          (k.part ∙ ap (λ l. sort_numbers up (map number l))
          (h.rest (place_at o i) (place_at o (i + 1)) (omega arith)))

-- ---- offsets

-- an earlier part ends where a later one begins, or before
pub parts_apart : (o : Column) (n m j d : ℕ) → AreRising o n m → j + suc d ≤ n
    → place_at o (j + 1) ≤ place_at o (j + suc d)
parts_apart o n m j zero r l =
    let e : j + 1 ≡ j + suc zero = omega arith in
    omega (arith, ap (place_at o) e)
parts_apart o n m j (suc d) r l =
    let e : j + suc d + 1 ≡ j + suc (suc d) = omega arith in
    omega (
      arith,
      parts_apart o n m j d r (omega (arith, l)),
      r.ordered (j + suc d) (omega (arith, l)),
      ap (place_at o) e,
    )

pub part_before : (o : Column) (n m i : ℕ) → AreRising o n m → i ≤ n → (j : ℕ) → j < i
    → place_at o (j + 1) ≤ place_at o i
part_before o n m i r l j k =
    let e : j + suc (i - j - 1) ≡ i = omega (arith, k) in
    omega (arith, parts_apart o n m j (i - j - 1) r (omega (arith, k, l)), ap (place_at o) e)

-- ---- what a slice of all items is written back as

pub written_back : {X : Type 0} (xs ys : List X) (n : ℕ) → length ys ≡ length xs
    → length xs ≡ n → take n (ys ++ drop (length ys) xs) ≡ ys
written_back xs ys n e l =
    ap (λ zs. take n (ys ++ zs)) (drop_of_length-le xs (omega (arith, e)))
    ∙ ap (take n) (append-nil ys) ∙ take_all n ys (omega (arith, e, l))
