-- Numbers in order: a list in order is the only one of its numbers.
use Rattle.std.proofs.Common.{◌≡◌, ℕ, suc, ◌+◌, ◌<◌, refl, ap, ap₂, sym, ◌∙◌, subst, arith}
use Rattle.std.proofs.Common.{List, [], ◌∷◌, ◌++◌, length, get_or, sum_by}
use Rattle.std.specs.Prelude.{ℤ, Bool, true, false, cond, if◌then◌else◌}
use Rattle.std.specs.List.{fold}
use Rattle.std.specs.List.Sorted.{IsPermutation}
use Rattle.std.specs.Ordering.{int_eq}
use Rattle.std.proofs.lemmas.Bool.Decides.{Decides-int_eq}
use Rattle.std.proofs.lemmas.Int.{ints}
use Rattle.std.proofs.lemmas.List.Sorted.{IsPermutation-sym, IsPermutation-trans}
use Rattle.std.proofs.lemmas.List.Sorted.{sum_by-IsPermutation}
use Rattle.std.proofs.lemmas.List.Sums.{sum_by-cons}
use Rattle.awk_base.proofs.Truths.{int_eq-refl}
use Rattle.awk_sorting.specs.Order.{insert_by, number_first, sort_numbers}
use Rattle.awk_sorting.proofs.InsertLaws.{sort_permutes}

-- ---- which number comes first

first_self : (up : Bool) (x : ℤ) → number_first up x x ≡ false
first_self true x = grind (arith, ints)
first_self false x = grind (arith, ints)

first_back : (up : Bool) (x y : ℤ) → number_first up x y ≡ true → number_first up y x ≡ false
first_back true x y h = grind (arith, ints)
first_back false x y h = grind (arith, ints)

first_through : (up : Bool) (x y z : ℤ) → number_first up y x ≡ false
    → number_first up z y ≡ false → number_first up z x ≡ false
first_through true x y z h k = grind (arith, ints)
first_through false x y z h k = grind (arith, ints)

first_same : (up : Bool) (x y : ℤ) → number_first up x y ≡ false → number_first up y x ≡ false
    → x ≡ y
first_same true x y h k = grind (arith, ints)
first_same false x y h k = grind (arith, ints)

-- ---- lists in order

-- no number of a list comes before one
abbrev pub NoneBefore : Bool → ℤ → List ℤ → Type 0
NoneBefore up x [] = Unit {0}
NoneBefore up x (y ∷ ys) = (number_first up y x ≡ false) × NoneBefore up x ys

abbrev pub AreInOrder : Bool → List ℤ → Type 0
AreInOrder up [] = Unit {0}
AreInOrder up (x ∷ xs) = NoneBefore up x xs × AreInOrder up xs

none_through : (up : Bool) (x y : ℤ) (zs : List ℤ) → number_first up y x ≡ false
    → NoneBefore up y zs → NoneBefore up x zs
none_through up x y [] h k = tt
none_through up x y (z ∷ zs) h k =
    (first_through up x y z h k.0, none_through up x y zs h k.1)

none_step : (b up : Bool) (w x y : ℤ) (ys zs : List ℤ) → number_first up x w ≡ false
    → number_first up y w ≡ false → NoneBefore up w ys → NoneBefore up w zs
    → NoneBefore up w (if b then x ∷ y ∷ ys else y ∷ zs)
none_step true up w x y ys zs a b c d = (a, (b, c))
none_step false up w x y ys zs a b c d = (b, d)

none_inserted : (up : Bool) (w x : ℤ) (ys : List ℤ) → number_first up x w ≡ false
    → NoneBefore up w ys → NoneBefore up w (insert_by (number_first up) x ys)
none_inserted up w x [] h k = (h, tt)
none_inserted up w x (y ∷ ys) h k =
    none_step (number_first up x y) up w x y ys (insert_by (number_first up) x ys) h k.0 k.1
    (none_inserted up w x ys h k.1)

order_step : (b up : Bool) (x y : ℤ) (ys zs : List ℤ) → number_first up x y ≡ b
    → AreInOrder up (y ∷ ys) → (number_first up x y ≡ false → NoneBefore up y zs)
    → AreInOrder up zs → AreInOrder up (if b then x ∷ y ∷ ys else y ∷ zs)
order_step true up x y ys zs e h k m =
    let back = first_back up x y e in
    ((back, none_through up x y ys back h.0), h)
order_step false up x y ys zs e h k m = (k e, m)

insert_in_order : (up : Bool) (x : ℤ) (ys : List ℤ) → AreInOrder up ys
    → AreInOrder up (insert_by (number_first up) x ys)
insert_in_order up x [] h = (tt, tt)
insert_in_order up x (y ∷ ys) h =
    order_step (number_first up x y) up x y ys (insert_by (number_first up) x ys) refl h
    (λ e. none_inserted up y x ys e h.0) (insert_in_order up x ys h.1)

inserted_in_order : (up : Bool) (xs done : List ℤ) → AreInOrder up done
    → AreInOrder up (fold (λ ys x. insert_by (number_first up) x ys) done xs)
inserted_in_order up [] done h = h
inserted_in_order up (x ∷ xs) done h =
    inserted_in_order up xs (insert_by (number_first up) x done) (insert_in_order up x done h)

pub sort_in_order : (up : Bool) (zs : List ℤ) → AreInOrder up (sort_numbers up zs)
sort_in_order up zs = inserted_in_order up zs [] tt

-- where of two neighbours the later one never comes first
pub in_order_by_neighbours : (up : Bool) (zs : List ℤ) (d : ℤ)
    → ((k : ℕ) → suc k < length zs → number_first up (get_or zs (suc k) d) (get_or zs k d) ≡ false)
    → AreInOrder up zs
in_order_by_neighbours up [] d h = tt
in_order_by_neighbours up (x ∷ []) d h = (tt, tt)
in_order_by_neighbours up (x ∷ y ∷ zs) d h =
    let rest = in_order_by_neighbours up (y ∷ zs) d (λ k l. h (suc k) (omega (arith, l))) in
    let here : number_first up y x ≡ false = h 0 (omega arith) in
    ((here, none_through up x y zs here rest.0), rest)

none_appended : (up : Bool) (w x : ℤ) (ys : List ℤ) → NoneBefore up w ys
    → number_first up x w ≡ false → NoneBefore up w (ys ++ x ∷ [])
none_appended up w x [] h k = (k, tt)
none_appended up w x (y ∷ ys) h k = (h.0, none_appended up w x ys h.1 k)

-- ---- how often a number stands in a list

abbrev hit : ℤ → ℤ → ℕ
hit z y = cond (int_eq z y) 1 0

abbrev times : ℤ → List ℤ → ℕ
times z zs = sum_by (hit z) zs

times-cons : (z y : ℤ) (ys : List ℤ) → times z (y ∷ ys) ≡ hit z y + times z ys
times-cons z y ys = sum_by-cons (hit z) y ys

times_self : (x : ℤ) (xs : List ℤ) → times x (x ∷ xs) ≡ 1 + times x xs
times_self x xs = times-cons x x xs ∙ ap (λ b. cond b 1 0 + times x xs) (int_eq-refl x)

found_step : (b up : Bool) (x y w : ℤ) (ys : List ℤ) → int_eq x y ≡ b
    → number_first up y w ≡ false → 0 < cond b 1 0 + times x ys
    → (0 < times x ys → number_first up x w ≡ false) → number_first up x w ≡ false
found_step true up x y w ys e h l k =
    let same : x ≡ y = (Decides-int_eq x y).0 e in
    ap (λ v. number_first up v w) same ∙ h
found_step false up x y w ys e h l k = k (omega (arith, l))

-- what stands in a list does not come before a number that none of them comes before
found_after : (up : Bool) (w x : ℤ) (ys : List ℤ) → NoneBefore up w ys → 0 < times x ys
    → number_first up x w ≡ false
found_after up w x [] h l = absurd (omega (arith, l))
found_after up w x (y ∷ ys) h l =
    found_step (int_eq x y) up x y w ys refl h.0 (subst (λ n. 0 < n) (times-cons x y ys) l)
    (found_after up w x ys h.1)

-- the first of a list in order comes before none of it
head_first : (up : Bool) (x y : ℤ) (ys : List ℤ) → NoneBefore up y ys → 0 < times x (y ∷ ys)
    → number_first up x y ≡ false
head_first up x y ys h l = found_after up y x (y ∷ ys) (first_self up y, h) l

abbrev SameTimes : List ℤ → List ℤ → Type 0
SameTimes xs ys = (z : ℤ) → times z xs ≡ times z ys

pub in_order_same : (up : Bool) (xs ys : List ℤ) → AreInOrder up xs → AreInOrder up ys
    → SameTimes xs ys → xs ≡ ys
in_order_same up [] [] h k s = refl
in_order_same up [] (y ∷ ys) h k s = absurd (omega (arith, s y, times_self y ys))
in_order_same up (x ∷ xs) [] h k s = absurd (omega (arith, s x, times_self x xs))
in_order_same up (x ∷ xs) (y ∷ ys) h k s =
    let a = head_first up x y ys k.0 (omega (arith, s x, times_self x xs)) in
    let b = head_first up y x xs h.0 (omega (arith, s y, times_self y ys)) in
    let e : x ≡ y = first_same up x y a b in
    let rest : SameTimes xs ys =
    λ z.
    let p = times-cons z x xs in
    let q = times-cons z y ys in
    let r = ap (hit z) e in
    omega (arith, s z, p, q, r) in
    ap₂ (λ v vs. v ∷ vs) e (in_order_same up xs ys h.1 k.1 rest)

permuted_times : (xs ys : List ℤ) → IsPermutation xs ys → SameTimes xs ys
permuted_times xs ys p z = sym (sum_by-IsPermutation (hit z) xs ys p)

-- a list in order that has the numbers of another is that sorted
pub sorted_is : (up : Bool) (zs ys : List ℤ) → IsPermutation zs ys → AreInOrder up ys
    → ys ≡ sort_numbers up zs
sorted_is up zs ys p h =
    in_order_same up ys (sort_numbers up zs) h (sort_in_order up zs)
    (permuted_times ys (sort_numbers up zs)
    (IsPermutation-trans ys zs (sort_numbers up zs) (IsPermutation-sym zs ys p)
    (sort_permutes (number_first up) zs)))

-- ---- one more number at the end

-- a number comes before none of a list
abbrev pub AllPassed : Bool → List ℤ → ℤ → Type 0
AllPassed up [] x = Unit {0}
AllPassed up (y ∷ ys) x = (number_first up x y ≡ false) × AllPassed up ys x

pub in_order_appended : (up : Bool) (ys : List ℤ) (x : ℤ) → AreInOrder up ys → AllPassed up ys x
    → AreInOrder up (ys ++ x ∷ [])
in_order_appended up [] x h k = (tt, tt)
in_order_appended up (y ∷ ys) x h k =
    (none_appended up y x ys h.0 k.0, in_order_appended up ys x h.1 k.1)
