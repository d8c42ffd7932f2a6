-- Laws of the test whether names are distinct, seen from the left.
use Rattle.std.proofs.Common.{◌≡◌, ℕ, ◌+◌, ◌&&◌, ◌||◌, Bool, true, false, not, cond, List, [], ◌∷◌}
use Rattle.std.proofs.Common.{◌++◌, take, drop, slice_get, Some, is_eq, nat_cmp, refl, sym, ap, ap₂}
use Rattle.std.proofs.Common.{◌∙◌, true≢false, subst}
use Rattle.std.specs.Cmp.Lexicographic.{slice_cmp}
use Rattle.std.proofs.lemmas.List.{take-append-drop}
use Rattle.std.proofs.lemmas.List.Folds.{list_any-append}
use Rattle.std.proofs.Math.Bool.{or-true, or-false, and-false}
use Rattle.std.proofs.lemmas.Bool.{false_from_ne_true, not-true, and_parts, or_parts}
use Rattle.std.proofs.lemmas.Map.Text.{is_eq-slice_cmp}
use Rattle.awk_types.specs.DataType.{Name}
use Rattle.awk_types.specs.Names.{same_name, is_among, AreDistinct, are_distinct}
use Rattle.awk_base.proofs.Lists.{drop-get}
use Rattle.awk_types.proofs.NameLaws.{same_name_is, same_name-refl}

-- the test means the fact
pub AreDistinct-true : (ns : List Name) → are_distinct ns ≡ true → AreDistinct ns
AreDistinct-true [] h = tt
AreDistinct-true (n ∷ ns) h =
    let here = and_parts (not (is_among n ns)) (are_distinct ns) h in
    (not-true (is_among n ns) here.0, AreDistinct-true ns here.1)

-- ---- the test of two names

pub same_name-flips : (a b : Name) → same_name a b ≡ false → same_name b a ≡ false
same_name-flips a b h =
    false_from_ne_true (same_name b a)
    (λ e. true≢false (sym (same_name-refl a) ∙ ap (same_name a) (sym (same_name_is b a e)) ∙ h))

-- ---- one name more at the end

is_among-more : (x y : Name) (xs : List Name) → is_among x xs ≡ false → same_name y x ≡ false
    → is_among x (xs ++ y ∷ []) ≡ false
is_among-more x y xs h other = list_any-append (λ m. same_name m x) xs (y ∷ [])
    ∙ ap₂ (λ s t. s || t) h (ap (λ t. t || false) other)

-- names that are distinct stay so with one that is not among them
pub distinct-more : (xs : List Name) (y : Name) → are_distinct xs ≡ true → is_among y xs ≡ false
    → are_distinct (xs ++ y ∷ []) ≡ true
distinct-more [] y h other = refl
distinct-more (x ∷ xs) y h other =
    let here = and_parts (not (is_among x xs)) (are_distinct xs) h in
    let apart = or_parts (same_name x y) (is_among y xs) other in
    ap₂ (λ s t. not s && t)
    (is_among-more x y xs (not-true (is_among x xs) here.0) (same_name-flips x y apart.0))
    (distinct-more xs y here.1 apart.1)

is_among-later : (x y : Name) (xs ys : List Name) → same_name y x ≡ true
    → is_among x (xs ++ y ∷ ys) ≡ true
is_among-later x y xs ys same = list_any-append (λ m. same_name m x) xs (y ∷ ys)
    ∙ ap (λ t. is_among x xs || (t || is_among x ys)) same ∙ or-true (is_among x xs)

meets : (s : Bool) (x y : Name) (xs ys : List Name) → same_name x y ≡ s
    → (s || is_among y xs) ≡ true → (is_among y xs ≡ true → are_distinct (xs ++ y ∷ ys) ≡ false)
    → are_distinct (x ∷ (xs ++ y ∷ ys)) ≡ false
meets true x y xs ys e h later =
    let same : same_name y x ≡ true =
    subst (λ z. same_name z x ≡ true) (same_name_is x y e) (same_name-refl x) in
    ap (λ t. not t && are_distinct (xs ++ y ∷ ys)) (is_among-later x y xs ys same)
meets false x y xs ys e h later = ap (λ t. not (is_among x (xs ++ y ∷ ys)) && t) (later h)
    ∙ and-false (not (is_among x (xs ++ y ∷ ys)))

-- a name that is among those before it comes twice
repeats : (xs : List Name) (y : Name) (ys : List Name) → is_among y xs ≡ true
    → are_distinct (xs ++ y ∷ ys) ≡ false
repeats [] y ys h = absurd (true≢false (sym h))
repeats (x ∷ xs) y ys h = meets (same_name x y) x y xs ys refl h (repeats xs y ys)

-- ---- the name at a place

pub repeated : (names : List Name) (i : ℕ) (name : Name) → slice_get names i ≡ Some name
    → is_among name (take i names) ≡ true → false ≡ are_distinct names
repeated names i name at twice =
    sym (repeats (take i names) name (drop (i + 1) names) twice)
    ∙ ap are_distinct (ap (λ ns. take i names ++ ns) (sym (drop-get names i name at)) ∙
    take-append-drop i names)

-- ---- the names that a set has

seen_before : (s t : Bool) → cond t true s ≡ (s || (t || false))
seen_before s true = sym (or-true s)
seen_before s false = sym (or-false s)

pub seen-more : (name q : Name) (names : List Name)
    → cond (is_eq (slice_cmp nat_cmp name q)) true (is_among q names) ≡ is_among q
    (names ++ name ∷ [])
seen-more name q names =
    ap (λ t. cond t true (is_among q names)) (is_eq-slice_cmp name q)
    ∙ seen_before (is_among q names) (same_name name q)
    ∙ sym (list_any-append (λ m. same_name m q) names (name ∷ []))
