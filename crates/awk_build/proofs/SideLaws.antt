-- Arrays as columns, each with its carry.
use Rattle.std.proofs.Common.{◌≡◌, ℕ, ◌+◌, ◌-◌, ◌<◌, ◌≤◌, List, [], ◌∷◌, ◌++◌, map, drop}
use Rattle.std.proofs.Common.{length, slice_get, Some, None, suc, refl, ap, ap₂, sym, subst, ◌∙◌}
use Rattle.std.proofs.Common.{arith}
use Rattle.std.proofs.Common.{append-nil, append_assoc}
use Rattle.std.specs.List.{AllByRecursion}
use Rattle.std.specs.Prelude.{reverse, get_or}
use Rattle.std.proofs.lemmas.List.{drop_all, length-map, length-reverse, get_or-reverse}
use Rattle.std.proofs.lemmas.List.{reverse-reverse}
use Rattle.std.proofs.lemmas.Option.{slice_get-get_or, get_or_from_slice_get}
use Rattle.awk_base.proofs.Every.{all-impl}
use Rattle.awk_base.proofs.Lists.{drop-get}
use Rattle.awk_types.specs.DataType.{DataType, unknown}
use Rattle.awk_types.specs.Limit.{limit}
use Rattle.awk_layout.specs.Array.{IsArrayType}
use Rattle.awk_layout.specs.Layout.{Layout}
use Rattle.awk_layout.specs.Typing.{array_type, array_items}
use Rattle.awk_unify.specs.Carry.{Carry, carried}
use Rattle.awk_unify.specs.Unify.{unification}
use Rattle.awk_merge_sides.specs.Sides.{Side, AreSides, merged_items, with_side}
use Rattle.awk_merge_sides.proofs.SideLaws.{AreSides-with_side, merged_items-with_side}
use Rattle.awk_build.specs.Joined.{carries_of, items_by, joined_items, joined_type, sides_from}
use Rattle.awk_build.specs.Suffix.{carriers, steps_from}
use Rattle.awk_build.proofs.SuffixLaws.{AreCarriers, AreTaken, AreLawful, IsLawful, are_carriers}

-- ---- one after another

-- the columns so far, and those that are left
abbrev pub AreColumns : List Carry → List Layout → ℕ → List Side → Type 0
AreColumns fs xs i ss =
    sides_from [] (reverse fs) xs ≡ sides_from ss (drop i (reverse fs)) (drop i xs)

-- of n carries, the last one first
carry_back : (fs : List Carry) (n i : ℕ) (f : Carry) → length fs ≡ n → i < n
    → slice_get fs (n - 1 - i) ≡ Some f → drop i (reverse fs) ≡ f ∷ drop (i + 1) (reverse fs)
carry_back fs n i f len below at =
    let within : i < length (reverse fs) = omega (arith, len, below, length-reverse fs) in
    let inside : i < length fs = omega (arith, len, below) in
    let here : length fs - 1 - i ≡ n - 1 - i = omega (arith, len) in
    drop-get (reverse fs) i f
    (slice_get-get_or (reverse fs) i f within
    ∙ ap Some
    (get_or-reverse fs i f inside ∙ ap (λ j. get_or fs j f) here
    ∙ get_or_from_slice_get fs (n - 1 - i) f f at))

pub column_more : (fs : List Carry) (xs : List Layout) (n i : ℕ) (ss new : List Side) (x : Layout)
    (f : Carry) → length fs ≡ n → i < n → slice_get xs i ≡ Some x
    → slice_get fs (n - 1 - i) ≡ Some f → new ≡ with_side ss x f → AreColumns fs xs i ss
    → AreColumns fs xs (i + 1) new
column_more fs xs n i ss new x f len below at lift e h =
    h ∙ ap₂ (sides_from ss) (carry_back fs n i f len below lift) (drop-get xs i x at)
    ∙ ap (λ rs. sides_from rs (drop (i + 1) (reverse fs)) (drop (i + 1) xs)) (sym e)

none_left : (ss : List Side) (fs : List Carry) → sides_from ss fs [] ≡ ss
none_left ss [] = refl
none_left ss (f ∷ fs) = refl

pub all_columns : (fs : List Carry) (xs : List Layout) (i : ℕ) (ss : List Side) → length xs ≤ i
    → AreColumns fs xs i ss → ss ≡ sides_from [] (reverse fs) xs
all_columns fs xs i ss h e =
    sym (e ∙ ap (sides_from ss (drop i (reverse fs))) (drop_all i xs h)
    ∙ none_left ss (drop i (reverse fs)))

-- ---- all of them

pub sides_taken : (t : DataType) (ss : List Side) (fs : List Carry) (xs : List Layout)
    → AreTaken (map array_type xs) fs t → AreSides t ss → AreSides t (sides_from ss fs xs)
sides_taken t ss [] [] a h = h
sides_taken t ss [] (x ∷ xs) a h = absurd a
sides_taken t ss (f ∷ fs) [] a h = absurd a
sides_taken t ss (f ∷ fs) (x ∷ xs) a h =
    sides_taken t (with_side ss x f) fs xs a.1
    (AreSides-with_side t ss x f h (λ p v has. (a.0 v has).1))

pub sides_items : (ss : List Side) (fs : List Carry) (xs : List Layout)
    → merged_items (sides_from ss fs xs) ≡ merged_items ss ++ items_by fs xs
sides_items ss [] [] = sym (append-nil (merged_items ss))
sides_items ss [] (x ∷ xs) = sym (append-nil (merged_items ss))
sides_items ss (f ∷ fs) [] = sym (append-nil (merged_items ss))
sides_items ss (f ∷ fs) (x ∷ xs) =
    sides_items (with_side ss x f) fs xs
    ∙ ap (λ vs. vs ++ items_by fs xs) (merged_items-with_side ss x f)
    ∙ append_assoc (merged_items ss) (map (carried f) (array_items x)) (items_by fs xs)

pub types_lawful : (bs : List DataType) → AllByRecursion IsArrayType bs → AreLawful bs
types_lawful bs h = all-impl IsArrayType IsLawful bs (λ b l. (l.is_type, l.is_simple)) h

-- as many carries as types
pub length-carriers : (t : DataType) (bs : List DataType)
    → length (carriers (steps_from t bs)).each ≡ length bs
length-carriers t [] = refl
length-carriers t (b ∷ bs) = ap suc (length-carriers (unification t b).typ bs)

-- ---- arrays joined, whose carries were found from the last one on

abbrev pub AreArrayTypes : List Layout → Type 0
AreArrayTypes xs = AllByRecursion IsArrayType (map array_type xs)

joined_carriers : (xs : List Layout) → AreArrayTypes xs
    → AreCarriers unknown (map array_type xs) (carriers (steps_from unknown (map array_type xs)))
joined_carriers xs h =
    are_carriers unknown (map array_type xs) (tt, tt) (types_lawful (map array_type xs) h)

carries_back : (xs : List Layout) (fs : List Carry) → fs ≡ reverse (carries_of xs)
    → reverse fs ≡ carries_of xs
carries_back xs fs e = ap reverse e ∙ reverse-reverse (carries_of xs)

pub carries_count : (xs : List Layout) (fs : List Carry) → fs ≡ reverse (carries_of xs)
    → length fs ≡ length xs
carries_count xs fs e =
    ap length e ∙ length-reverse (carries_of xs)
    ∙ length-carriers unknown (map array_type xs) ∙ length-map xs array_type

pub joined_lawful : (xs : List Layout) (t : DataType) → t ≡ joined_type xs → AreArrayTypes xs
    → limit (joined_type xs) ≡ None → IsArrayType t
joined_lawful xs t e h l =
    let a = joined_carriers xs h in
    subst IsArrayType (sym e)
    (record { is_type = a.lawful.0; is_simple = a.lawful.1; within_limits = l })

columns_are : (xs : List Layout) (fs : List Carry) (ss : List Side) → fs ≡ reverse (carries_of xs)
    → ss ≡ sides_from [] (reverse fs) xs → ss ≡ sides_from [] (carries_of xs) xs
columns_are xs fs ss e f = f ∙ ap (λ gs. sides_from [] gs xs) (carries_back xs fs e)

pub joined_sides : (xs : List Layout) (t : DataType) (fs : List Carry) (ss : List Side)
    → t ≡ joined_type xs → AreArrayTypes xs → fs ≡ reverse (carries_of xs)
    → ss ≡ sides_from [] (reverse fs) xs → AreSides t ss
joined_sides xs t fs ss e h f g =
    let a = joined_carriers xs h in
    subst (λ u. AreSides u ss) (sym e)
    (subst (AreSides (joined_type xs)) (sym (columns_are xs fs ss f g))
    (sides_taken (joined_type xs) [] (carries_of xs) xs a.each tt))

pub joined_is : (xs : List Layout) (fs : List Carry) (ss : List Side)
    → fs ≡ reverse (carries_of xs) → ss ≡ sides_from [] (reverse fs) xs
    → merged_items ss ≡ joined_items xs
joined_is xs fs ss f g =
    ap merged_items (columns_are xs fs ss f g) ∙ sides_items [] (carries_of xs) xs
