-- How long the lists of each row are, where all are as long as others.
use Rattle.std.proofs.Common.{◌≡◌, ℕ, zero, suc, ◌+◌, ◌<◌, ◌==◌, Bool, true, false, not, inl, inr}
use Rattle.std.proofs.Common.{refl, ap, arith, sym, subst, ◌∙◌, ◌≢◌, drop}
use Rattle.std.specs.Prelude.{List, [], ◌∷◌, length, nat_lt, slice_get, Some}
use Rattle.std.specs.List.{list_all, range_with_len}
use Rattle.std.proofs.lemmas.Bool.{and_parts, not-false}
use Rattle.awk_base.proofs.Lists.{drop-get}
use Rattle.awk_lanes.specs.Places.{size_of}
use Rattle.awk_columns.specs.Lists.{Listed, length_of}
use Rattle.awk_pair_levels.specs.Shares.{share_lengths, lengths_at, length_at, any_differ, is_alike}
use Rattle.awk_pair_levels.specs.Shares.{IsEven, AreEven, IsAmong, IsAsLong, AreAsLong}
use Rattle.awk_pair_sides.specs.Sides.{all_same, first_or_zero}
use Rattle.awk_pair_levels.specs.declared.shares.Share.{Share}
use Rattle.awk_pair_levels.specs.declared.shares.Share.TheVariants.{Lists, Items}
use Rattle.awk_pair_sides.proofs.RangeLaws.{all_places, no_place, place_holds, place_fails, fails}

abbrev AllAre : ℕ → List ℕ → Type 0
AllAre c [] = Unit {0}
AllAre c (n ∷ ns) = (n ≡ c) × AllAre c ns

same-all : (n c : ℕ) (ns : List ℕ) → n ≡ c → AllAre c ns → list_all (λ m. n == m) ns ≡ true
same-all n c [] e h = refl
same-all n c (m ∷ ns) e h =
    let f : (n == m) ≡ true = grind (arith, e, h.0) in
    rw f (same-all n c ns e h.1)

are-same : (c : ℕ) (ns : List ℕ) → AllAre c ns → all_same ns ≡ true
are-same c [] h = refl
are-same c (n ∷ ns) h = same-all n c ns h.0 h.1

first-is : (c : ℕ) (ns : List ℕ) → 0 < length ns → AllAre c ns → first_or_zero ns ≡ c
first-is c [] l h = absurd (omega arith)
first-is c (n ∷ ns) l h = h.0

first-rest : (n : ℕ) (ns : List ℕ) → list_all (λ m. n == m) ns ≡ true → AllAre n ns
first-rest n [] e = tt
first-rest n (m ∷ ns) e =
    let both : ((n == m) ≡ true) × (list_all (λ k. n == k) ns ≡ true) =
    and_parts (n == m) (list_all (λ k. n == k) ns) e in
    (grind (arith, both.0), first-rest n ns both.1)

first-all : (ns : List ℕ) → all_same ns ≡ true → AllAre (first_or_zero ns) ns
first-all [] e = tt
first-all (n ∷ ns) e = (refl, first-rest n ns e)

-- ---- lists that are as long as others

even-are : (m : ℕ → ℕ) (n i : ℕ) (ps : List Share) → i < n → AreEven m n ps
    → AllAre (m i) (lengths_at ps i)
even-are m n i [] l h = tt
even-are m n i (Lists k ∷ ps) l h = (h.0 i l, even-are m n i ps l h.1)
even-are m n i (Items y ∷ ps) l h = even-are m n i ps l h.1

even-from : (m : ℕ → ℕ) (n : ℕ) (ps : List Share)
    → ((i : ℕ) → i < n → AllAre (m i) (lengths_at ps i)) → AreEven m n ps
even-from m n [] h = tt
even-from m n (Lists k ∷ ps) h = ((λ i l. (h i l).0), even-from m n ps (λ i l. (h i l).1))
even-from m n (Items y ∷ ps) h = (tt, even-from m n ps h)

some-lengths : (l : Listed) (ps : List Share) (i : ℕ) → IsAmong l ps → 0 < length (lengths_at ps i)
some-lengths l [] i a = absurd a
some-lengths l (Lists k ∷ ps) i a = omega arith
some-lengths l (Items y ∷ ps) i (inl e) = cc
some-lengths l (Items y ∷ ps) i (inr a) = some-lengths l ps i a

among-length : (l : Listed) (ps : List Share) (i c : ℕ) → IsAmong l ps → AllAre c (lengths_at ps i)
    → length_of l i ≡ c
among-length l [] i c a h = absurd a
among-length l (Lists k ∷ ps) i c (inl e) h =
    ap (λ p. first_or_zero (share_lengths i p)) e ∙ h.0
among-length l (Lists k ∷ ps) i c (inr a) h = among-length l ps i c a h.1
among-length l (Items y ∷ ps) i c (inl e) h = cc
among-length l (Items y ∷ ps) i c (inr a) h = among-length l ps i c a h

-- they are as long as those of any operand that gives lists
pub length_at-among : (l : Listed) (n i : ℕ) (ps : List Share) → i < n → IsAmong l ps
    → AreEven (length_of l) n ps → length_at ps i ≡ length_of l i
length_at-among l n i ps q a h =
    first-is (length_of l i) (lengths_at ps i) (some-lengths l ps i a)
    (even-are (length_of l) n i ps q h)

pub none_differ : (m : ℕ → ℕ) (n : ℕ) (ps : List Share) → AreEven m n ps → any_differ ps n ≡ false
none_differ m n ps h =
    no_place (λ i. not (all_same (lengths_at ps i))) 0 n
    (λ i l. let q : i < n = omega arith in
    ap not (are-same (m i) (lengths_at ps i) (even-are m n i ps q h)))

pub even_by : (m k : ℕ → ℕ) (n : ℕ) (ps : List Share) → ((i : ℕ) → i < n → m i ≡ k i)
    → AreEven m n ps → AreEven k n ps
even_by m k n [] e h = tt
even_by m k n (Lists l ∷ ps) e h = ((λ i q. h.0 i q ∙ e i q), even_by m k n ps e h.1)
even_by m k n (Items y ∷ ps) e h = (tt, even_by m k n ps e h.1)

-- ---- from tests to facts, and back

pub alike_even : (m : ℕ → ℕ) (n : ℕ) (ps : List Share) → list_all (is_alike m n) ps ≡ true
    → AreEven m n ps
alike_even m n [] e = tt
alike_even m n (Lists l ∷ ps) e =
    let both : (is_alike m n (Lists l) ≡ true) × (list_all (is_alike m n) ps ≡ true) =
    and_parts (is_alike m n (Lists l)) (list_all (is_alike m n) ps) e in (
      (λ i q. let h : (length_of l i == m i) ≡ true =
          place_holds (λ j. length_of l j == m j) 0 n i both.0 (omega arith) (omega arith) in
          grind (arith, h)),
      alike_even m n ps both.1,
    )
alike_even m n (Items y ∷ ps) e = (tt, alike_even m n ps e)

even_alike : (m : ℕ → ℕ) (n : ℕ) (ps : List Share) → AreEven m n ps
    → list_all (is_alike m n) ps ≡ true
even_alike m n [] h = refl
even_alike m n (Lists l ∷ ps) h =
    let f : is_alike m n (Lists l) ≡ true = all_places (λ j. length_of l j == m j) 0 n
    (λ i q. let e : length_of l i ≡ m i = h.0 i (omega arith) in grind (arith, e)) in
    rw f (even_alike m n ps h.1)
even_alike m n (Items y ∷ ps) h = even_alike m n ps h.1

-- where no row's lists differ they are as long as those of the first operand that gives lists
pub even_of_none : (n : ℕ) (ps : List Share) → any_differ ps n ≡ false
    → AreEven (length_at ps) n ps
even_of_none n ps e =
    even-from (length_at ps) n ps (λ i q. first-all (lengths_at ps i)
    (not-false (all_same (lengths_at ps i))
    (place_fails (λ j. not (all_same (lengths_at ps j))) 0 n i e (omega arith) (omega arith))))

rows-same : (l : Listed) (n : ℕ) (ps : List Share) → IsAmong l ps → any_differ ps n ≡ false
    → (i : ℕ) → i < n → AllAre (length_of l i) (lengths_at ps i)
rows-same l n ps a e i q =
    let s : all_same (lengths_at ps i) ≡ true = not-false (all_same (lengths_at ps i))
    (place_fails (λ j. not (all_same (lengths_at ps j))) 0 n i e (omega arith) (omega arith)) in
    let f : AllAre (first_or_zero (lengths_at ps i)) (lengths_at ps i) =
    first-all (lengths_at ps i) s in
    let c : length_of l i ≡ first_or_zero (lengths_at ps i) =
    among-length l ps i (first_or_zero (lengths_at ps i)) a f in
    subst (λ k. AllAre k (lengths_at ps i)) (sym c) f

differ-by : (l : Listed) (n : ℕ) (ps : List Share) (d : Bool) → any_differ ps n ≡ d → IsAmong l ps
    → list_all (is_alike (length_of l) n) ps ≡ false → d ≡ true
differ-by l n ps true e a h = refl
differ-by l n ps false e a h =
    let g : list_all (is_alike (length_of l) n) ps ≡ true =
    even_alike (length_of l) n ps (even-from (length_of l) n ps (rows-same l n ps a e)) in
    cc

-- lists that are not as long as those of one operand differ in some row
pub rows_differ : (l : Listed) (n : ℕ) (ps : List Share) → IsAmong l ps
    → list_all (is_alike (length_of l) n) ps ≡ false → any_differ ps n ≡ true
rows_differ l n ps a h = differ-by l n ps (any_differ ps n) refl a h

-- ---- two operands' lists, place by place

pub not_equal : (l k : Listed) (i : ℕ) → i < size_of l.starts → length_of k i ≢ length_of l i
    → false ≡ list_all (λ j. length_of k j == length_of l j) (range_with_len 0 (size_of l.starts))
not_equal l k i h d =
    let f : (length_of k i == length_of l i) ≡ false = grind (arith, d) in
    sym (fails (λ j. length_of k j == length_of l j) (size_of l.starts) i
    (list_all (λ j. length_of k j == length_of l j) (range_with_len 0 (size_of l.starts)))
    refl h f)

pub all_equal : (l k : Listed) → ((i : ℕ) → i < size_of l.starts → length_of k i ≡ length_of l i)
    → true ≡ list_all (λ j. length_of k j == length_of l j) (range_with_len 0 (size_of l.starts))
all_equal l k h =
    sym (all_places (λ j. length_of k j == length_of l j) 0 (size_of l.starts)
    (λ i q. let e : length_of k i ≡ length_of l i = h i (omega arith) in grind (arith, e)))

pub equal_next : (p q : ℕ → ℕ) (i : ℕ) → p i ≡ q i → ((k : ℕ) → k < i → p k ≡ q k) → (k : ℕ)
    → k < i + 1 → p k ≡ q k
equal_next p q i e h k l = step (nat_lt k i) refl
  where
    step : (b : Bool) → nat_lt k i ≡ b → p k ≡ q k
    step true f = h k (grind (arith, f))
    step false f = let r : i ≡ k = grind (arith, f, l) in subst (λ j. p j ≡ q j) r e

-- ---- one share after another

pub as_long_get : (n : ℕ) (ps : List Share) (i : ℕ) (p : Share) → slice_get ps i ≡ Some p
    → AreAsLong n (drop i ps) → IsAsLong n p × AreAsLong n (drop (i + 1) ps)
as_long_get n ps i p e h = subst (AreAsLong n) (drop-get ps i p e) h

pub even_get : (m : ℕ → ℕ) (n : ℕ) (ps : List Share) (i : ℕ) (p : Share) → slice_get ps i ≡ Some p
    → AreEven m n (drop i ps) → IsEven m n p × AreEven m n (drop (i + 1) ps)
even_get m n ps i p e h = subst (AreEven m n) (drop-get ps i p e) h

among-drop : (l : Listed) (i : ℕ) (ps : List Share) → IsAmong l (drop i ps) → IsAmong l ps
among-drop l zero ps h = h
among-drop l (suc i) [] h = absurd h
among-drop l (suc i) (p ∷ ps) h = inr (among-drop l i ps h)

pub among_get : (ps : List Share) (i : ℕ) (p : Share) (l : Listed) → slice_get ps i ≡ Some p
    → p ≡ Lists l → IsAmong l ps
among_get ps i p l e f =
    among-drop l i ps (subst (IsAmong l) (sym (drop-get ps i p e)) (inl (sym f)))

pub among_long : (n : ℕ) (l : Listed) (ps : List Share) → IsAmong l ps → AreAsLong n ps
    → size_of l.starts ≡ n
among_long n l [] a h = absurd a
among_long n l (p ∷ ps) (inl e) h = long (subst (IsAsLong n) (sym e) h.0)
  where
    long : IsAsLong n (Lists l) → size_of l.starts ≡ n
    long q = q
among_long n l (p ∷ ps) (inr a) h = among_long n l ps a h.1

pub among_even : (m : ℕ → ℕ) (n i : ℕ) (l : Listed) (ps : List Share) → i < n → IsAmong l ps
    → AreEven m n ps → length_of l i ≡ m i
among_even m n i l ps h a e = among-length l ps i (m i) a (even-are m n i ps h e)
