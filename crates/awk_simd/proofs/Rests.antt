-- The rest of a slice, from a place on, and what is made of it.
use Rattle.std.proofs.Common.{◌≡◌, ℕ, zero, suc, ◌+◌, ◌-◌, ◌<◌, ◌≤◌, List, [], ◌∷◌, ◌++◌}
use Rattle.std.proofs.Common.{length, get_or, take, drop, map, refl, sym, ap, ap₂, ◌∙◌, arith}
use Rattle.std.proofs.Common.{Bool, true, false, not, cond}
use Rattle.std.specs.Prelude.{Option, Some, None, Result, Ok, Err, nat_lt, position}
use Rattle.std.specs.List.{zip, position_or_len}
use Rattle.std.specs.Option.{option_map}
use Rattle.std.specs.Simd.Lanes.{zip2}
use Rattle.std.proofs.lemmas.List.{take_all, drop_all, length-drop, length-take, get_or-take}
use Rattle.std.proofs.lemmas.List.{length-map, map-append, get_or-map}
use Rattle.std.proofs.lemmas.List.{ext_get_or, take-append-drop}
use Rattle.awk_kernels.specs.declared.operation.Why.{Why}
use Rattle.awk_kernels.specs.declared.operation.Broken.{Broken}
use Rattle.awk_kernels.specs.Kernels.{first_broken, first_broken_from}
use borrow.Rule.Slice.PartMut.{put_mid, post_of}

-- the slice from n on, as a borrow of it shows
pub rest_is : {A : Type 0} (n : ℕ) (xs : List A) → take (length xs - n) (drop n xs) ≡ drop n xs
rest_is n xs = take_all (length xs - n) (drop n xs) (omega (arith, length-drop n xs))

-- a list whose first places were made before, and whose rest is made
pub all_made : {A : Type 0} (all out new : List A) (n : ℕ) (d : A) → n ≤ length all
    → length out ≡ length all → ((k : ℕ) → k < n → get_or out k d ≡ get_or all k d)
    → new ≡ drop n all → put_mid n (length out - n) out new ≡ all
all_made all out new n d l e h r =
    let post : post_of n (length out - n) out ≡ [] =
    drop_all (length out - n) (drop n out) (omega (arith, length-drop n out)) in
    ap₂ (λ s t. s ++ t) first (ap₂ (λ s t. s ++ t) r post ∙ append_none (drop n all))
    ∙ take-append-drop n all
  where
    append_none : {A : Type 0} (xs : List A) → xs ++ [] ≡ xs
    append_none [] = refl
    append_none (x ∷ xs) = ap (λ l. x ∷ l) (append_none xs)

    first : take n out ≡ take n all
    first =
        ext_get_or d (take n out) (take n all)
        (omega (arith, length-take n out, length-take n all, e))
        (λ k m.
        get_or-take n out k d (omega (arith, length-take n out)) ∙ h k
        (omega (arith, length-take n out))
        ∙ sym (get_or-take n all k d (omega (arith, length-take n out))))

-- the same, of what is shown of each place
pub all_made_by : {C Z : Type 0} (g : C → Z) (all : List Z) (out new : List C) (n : ℕ) (d : C)
    → n ≤ length all → length out ≡ length all
    → ((k : ℕ) → k < n → get_or all k (g d) ≡ g (get_or out k d)) → map g new ≡ drop n all
    → map g (put_mid n (length out - n) out new) ≡ all
all_made_by g all out new n d l e h r =
    let post : post_of n (length out - n) out ≡ [] =
    drop_all (length out - n) (drop n out) (omega (arith, length-drop n out)) in
    ap (λ t. map g (take n out ++ (new ++ t))) post
    ∙ ap (λ t. map g (take n out ++ t)) (append_none new)
    ∙ map-append g (take n out) new ∙ ap₂ (λ s t. s ++ t) first r ∙ take-append-drop n all
  where
    append_none : {A : Type 0} (xs : List A) → xs ++ [] ≡ xs
    append_none [] = refl
    append_none (x ∷ xs) = ap (λ l. x ∷ l) (append_none xs)

    first : map g (take n out) ≡ take n all
    first =
        ext_get_or (g d) (map g (take n out)) (take n all)
        (omega (arith, length-map (take n out) g, length-take n out, length-take n all, e))
        (λ k m.
        let q : k < n = omega (arith, length-map (take n out) g, length-take n out) in
        get_or-map g (take n out) k d (g d) (omega (arith, length-map (take n out) g))
        ∙ ap g (get_or-take n out k d q) ∙ sym (h k q) ∙ sym (get_or-take n all k (g d) q))

pub zip2-drop : {X Y Z : Type 0} (f : X → Y → Z) (n : ℕ) (xs : List X) (ys : List Y)
    → length ys ≡ length xs → zip2 f (drop n xs) (drop n ys) ≡ drop n (zip2 f xs ys)
zip2-drop f zero xs ys e = refl
zip2-drop f (suc n) [] [] e = refl
zip2-drop f (suc n) [] (y ∷ ys) e = absurd (omega arith)
zip2-drop f (suc n) (x ∷ xs) [] e = absurd (omega arith)
zip2-drop f (suc n) (x ∷ xs) (y ∷ ys) e = zip2-drop f n xs ys (omega arith)

pub zip-drop : {X Y : Type 0} (n : ℕ) (xs : List X) (ys : List Y) → length ys ≡ length xs
    → zip (drop n xs) (drop n ys) ≡ drop n (zip xs ys)
zip-drop zero xs ys e = refl
zip-drop (suc n) [] [] e = refl
zip-drop (suc n) [] (y ∷ ys) e = absurd (omega arith)
zip-drop (suc n) (x ∷ xs) [] e = absurd (omega arith)
zip-drop (suc n) (x ∷ xs) (y ∷ ys) e = zip-drop n xs ys (omega arith)

pub length-zip : {X Y : Type 0} (xs : List X) (ys : List Y) → length ys ≡ length xs
    → length (zip xs ys) ≡ length xs
length-zip [] ys e = refl
length-zip (x ∷ xs) [] e = absurd (omega arith)
length-zip (x ∷ xs) (y ∷ ys) e = ap suc (length-zip xs ys (omega arith))

pub zip_at : {X Y : Type 0} (c : X) (d : Y) (xs : List X) (ys : List Y) (k : ℕ) → k < length xs
    → length ys ≡ length xs → get_or (zip xs ys) k (c, d) ≡ (get_or xs k c, get_or ys k d)
zip_at c d [] ys k l e = absurd (omega arith)
zip_at c d (x ∷ xs) [] k l e = absurd (omega arith)
zip_at c d (x ∷ xs) (y ∷ ys) zero l e = refl
zip_at c d (x ∷ xs) (y ∷ ys) (suc k) l e = zip_at c d xs ys k (omega arith) (omega arith)

-- a place that is counted from n on
abbrev pub counted_on : ℕ → Broken → Broken
counted_on n b = record { place = n + b.place; why = b.why }

-- where the first n places have results, the first that has none is sought among the rest
broken_from_later : {Z : Type 0} (n i : ℕ) (rest : List (Result Z Why))
    → first_broken_from (n + i) rest ≡ option_map (counted_on n) (first_broken_from i rest)
broken_from_later n i [] = refl
broken_from_later n i (Ok z ∷ rest) =
    let e : n + i + 1 ≡ n + (i + 1) = omega arith in
    ap (λ k. first_broken_from k rest) e ∙ broken_from_later n (i + 1) rest
broken_from_later n i (Err why ∷ rest) = refl

broken_from_drop : {Z : Type 0} (all : List (Result Z Why)) (n i : ℕ) (d : Z) → n ≤ length all
    → ((k : ℕ) → k < n → (z : Z) × (get_or all k (Ok d) ≡ Ok z))
    → first_broken_from i all ≡ first_broken_from (i + n) (drop n all)
broken_from_drop all zero i d l h =
    let e : i ≡ i + 0 = omega arith in ap (λ k. first_broken_from k all) e
broken_from_drop [] (suc n) i d l h = absurd (omega arith)
broken_from_drop (r ∷ all) (suc n) i d l h =
    let first = h 0 (omega arith) in
    let e : i + 1 + n ≡ i + suc n = omega arith in
    ap (λ s. first_broken_from i (s ∷ all)) first.1
    ∙ broken_from_drop all n (i + 1) d (omega arith) (λ k m. h (suc k) (omega arith))
    ∙ ap (λ k. first_broken_from k (drop n all)) e

pub broken_later : {Z : Type 0} (all : List (Result Z Why)) (n : ℕ) (d : Z) → n ≤ length all
    → ((k : ℕ) → k < n → (z : Z) × (get_or all k (Ok d) ≡ Ok z))
    → first_broken all ≡ option_map (counted_on n) (first_broken (drop n all))
broken_later all n d l h =
    let e : 0 + n ≡ n + 0 = omega arith in
    broken_from_drop all n 0 d l h ∙ ap (λ k. first_broken_from k (drop n all)) e
    ∙ broken_from_later n 0 (drop n all)

abbrev place_or : ℕ → Option Broken → ℕ
place_or n None = n
place_or n (Some b) = b.place

-- a place that has no result is one of the places
place_within : {Z : Type 0} (i : ℕ) (all : List (Result Z Why)) (b : Broken)
    → Some b ≡ first_broken_from i all → b.place < i + length all
place_within i [] b e = absurd (omega (arith, ap (λ o. place_or (b.place + 1) o) e))
place_within i (Ok z ∷ all) b e = omega (arith, place_within (i + 1) all b e)
place_within i (Err why ∷ all) b e = omega (arith, ap (λ o. place_or 0 o) e)

pub broken_within : {Z : Type 0} (all : List (Result Z Why)) (b : Broken)
    → Some b ≡ first_broken all → b.place < length all
broken_within all b e = omega (arith, place_within 0 all b e)

-- the same, of the first place that passes a test
or_len_later : {X : Type 0} (p : X → Bool) (xs : List X) (n : ℕ) (d : X) → n ≤ length xs
    → ((k : ℕ) → k < n → p (get_or xs k d) ≡ false)
    → position_or_len p xs ≡ n + position_or_len p (drop n xs)
or_len_later p xs zero d l h = omega arith
or_len_later p [] (suc n) d l h = absurd (omega arith)
or_len_later p (x ∷ xs) (suc n) d l h =
    let first = h 0 (omega arith) in
    let rest = or_len_later p xs n d (omega arith) (λ k m. h (suc k) (omega arith)) in
    ap (λ b. cond (not b) (1 + position_or_len p xs) 0) first ∙ omega (arith, rest)

pub position_later : {X : Type 0} (p : X → Bool) (xs : List X) (n : ℕ) (d : X) → n ≤ length xs
    → ((k : ℕ) → k < n → p (get_or xs k d) ≡ false)
    → position p xs ≡ option_map (λ i. n + i) (position p (drop n xs))
position_later p xs n d l h =
    let m = position_or_len p (drop n xs) in
    let q : position_or_len p xs ≡ n + m = or_len_later p xs n d l h in
    let size : length xs ≡ n + length (drop n xs) = omega (arith, length-drop n xs) in
    ap₂ (λ i k. cond (nat_lt i k) (Some i) None) q size
    ∙ ap (λ b. cond b (Some (n + m)) None) (both m (length (drop n xs)))
    ∙ pushed m (nat_lt m (length (drop n xs)))
  where
    both : (m k : ℕ) → nat_lt (n + m) (n + k) ≡ nat_lt m k
    both m k = grind arith

    pushed : (m : ℕ) (b : Bool)
        → cond b (Some (n + m)) None ≡ option_map (λ i. n + i) (cond b (Some m) None)
    pushed m true = refl
    pushed m false = refl

abbrev or_len : ℕ → Option ℕ → ℕ
or_len n None = n
or_len n (Some i) = i

pub position_within : {X : Type 0} (p : X → Bool) (xs : List X) (i : ℕ)
    → Some i ≡ position p xs → i < length xs
position_within p xs i e = by (nat_lt (position_or_len p xs) (length xs)) refl e
  where
    by : (b : Bool) → nat_lt (position_or_len p xs) (length xs) ≡ b
        → Some i ≡ cond b (Some (position_or_len p xs)) None → i < length xs
    by true t e = grind (arith, t, ap (λ o. or_len 0 o) e)
    by false t e = absurd (omega (arith, ap (λ o. or_len (i + 1) o) e))
