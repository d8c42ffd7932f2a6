-- The places of names among the fields of a record.
use Rattle.std.proofs.Common.{◌≡◌, ◌+◌, ◌≤◌, ◌==◌, ◌&&◌, ◌||◌, ◌∷◌, ◌++◌, ◌∙◌, [], ℕ, Bool, List}
use Rattle.std.proofs.Common.{Some, ap, arith, drop, false, length, map, refl, slice_get, suc, sym}
use Rattle.std.proofs.Common.{take, true}
use Rattle.std.specs.List.{list_all}
use Rattle.std.specs.Prelude.{None, if◌then◌else◌}
use Rattle.std.proofs.Math.Bool.{and-false}
use Rattle.std.proofs.lemmas.List.{drop_all, length-map, map-append, take_all}
use Rattle.awk_base.proofs.Lists.{drop-get, map-take-get}
use Rattle.awk_types.proofs.NameLaws.{same_name-flip}
use Rattle.awk_types.specs.DataType.{Name}
use Rattle.awk_types.specs.Names.{same_name}
use Rattle.awk_types.proofs.Views.{field_of-out}
use Rattle.awk_types.specs.View.{NamedType, field_of, names_of, typ_of}
use Rattle.awk_types.specs.declared.typ.Field.{Field}
use Rattle.awk_types.specs.declared.typ.Typ.TheViews.{out-Field}
use Rattle.awk_name_places.specs.Places as known
use Rattle.awk_name_places.specs.Places.{place_in}
use Rattle.awk_unify.specs.FieldNames.{alike, field_type, is_in}
use Rattle.awk_unify.specs.Join.{field_types}
use Rattle.awk_unify.proofs.Tests.{eq_false, eq_true}

pub typ_out : (f : Field) → (field_of f).typ ≡ typ_of (out-Field f).typ
typ_out f = ap (λ x. x.typ) (field_of-out f)

-- ---- the place of a name, from left to right

pub place-here : (fs : List NamedType) (m : Name) (i : ℕ) (f : NamedType) (all : ℕ)
    → slice_get fs i ≡ Some f → same_name f.name m ≡ true
    → i + place_in (names_of (drop i fs)) m ≡ all → i ≡ all
place-here fs m i f all e h k =
    let none : place_in (names_of (drop i fs)) m ≡ 0 = ap (λ xs. place_in (names_of xs) m)
    (drop-get fs i f e) ∙ ap (λ b. if b then 0 else suc
    (place_in (names_of (drop (i + 1) fs)) m)) h in
    omega (arith, none, k)

pub place-next : (fs : List NamedType) (m : Name) (i : ℕ) (f : NamedType) (all : ℕ)
    → slice_get fs i ≡ Some f → same_name f.name m ≡ false
    → i + place_in (names_of (drop i fs)) m ≡ all
    → (i + 1) + place_in (names_of (drop (i + 1) fs)) m ≡ all
place-next fs m i f all e h k =
    let one : place_in (names_of (drop i fs)) m ≡ suc (place_in (names_of (drop (i + 1) fs)) m) = ap
    (λ xs. place_in (names_of xs) m) (drop-get fs i f e) ∙ ap
    (λ b. if b then 0 else suc (place_in (names_of (drop (i + 1) fs)) m)) h in
    omega (arith, one, k)

pub place-last : (fs : List NamedType) (m : Name) (i all : ℕ) → length fs ≤ i
    → i + place_in (names_of (drop i fs)) m ≡ all → i ≡ all
place-last fs m i all l k =
    let none : place_in (names_of (drop i fs)) m ≡ 0 = ap (λ xs. place_in (names_of xs) m)
    (drop_all i fs l) in
    omega (arith, none, k)

-- ---- the same place, by a map

pub place_in-known : (ns : List Name) (m : Name) → known.place_in ns m ≡ place_in ns m
place_in-known [] m = refl
place_in-known (n ∷ ns) m = ap (λ k. if same_name n m then 0 else suc k) (place_in-known ns m)

pub place_in-≤ : (fs : List NamedType) (m : Name) → place_in (names_of fs) m ≤ length fs
place_in-≤ [] m = omega arith
place_in-≤ (f ∷ fs) m = step (same_name f.name m) (place_in-≤ fs m)
  where
    step : (b : Bool) → place_in (names_of fs) m ≤ length fs
        → (if b then 0 else suc (place_in (names_of fs) m)) ≤ suc (length fs)
    step true h = omega arith
    step false h = omega (arith, h)

-- ---- whether a name is there

pub is_in-none : (fs : List NamedType) (m : Name) → place_in (names_of fs) m ≡ length fs
    → is_in (names_of fs) m ≡ false
is_in-none [] m e = refl
is_in-none (f ∷ fs) m e = step (same_name f.name m) e (is_in-none fs m)
  where
    step : (b : Bool) → (if b then 0 else suc (place_in (names_of fs) m)) ≡ suc (length fs)
        → (place_in (names_of fs) m ≡ length fs → is_in (names_of fs) m ≡ false)
        → (b || is_in (names_of fs) m) ≡ false
    step true h g = absurd (omega (arith, h))
    step false h g = g (omega (arith, h))

pub is_in-some : (fs : List NamedType) (m : Name) → (place_in (names_of fs) m ≡ length fs → ⊥)
    → is_in (names_of fs) m ≡ true
is_in-some [] m d = absurd (d refl)
is_in-some (f ∷ fs) m d = step (same_name f.name m) d (is_in-some fs m)
  where
    step : (b : Bool) → ((if b then 0 else suc (place_in (names_of fs) m)) ≡ suc (length fs) → ⊥)
        → ((place_in (names_of fs) m ≡ length fs → ⊥) → is_in (names_of fs) m ≡ true)
        → (b || is_in (names_of fs) m) ≡ true
    step true h g = refl
    step false h g = g (λ e. h (ap suc e))

-- ---- the same names in any order

pub alike-next : (ns : List Name) (ys : List NamedType) (i : ℕ) (y : NamedType) (all : Bool)
    → slice_get ys i ≡ Some y → is_in ns y.name ≡ true
    → list_all (is_in ns) (names_of (drop i ys)) ≡ all
    → list_all (is_in ns) (names_of (drop (i + 1) ys)) ≡ all
alike-next ns ys i y all e h k =
    sym (ap (λ xs. list_all (is_in ns) (names_of xs)) (drop-get ys i y e) ∙ ap
    (λ b. b && list_all (is_in ns) (names_of (drop (i + 1) ys))) h) ∙ k

alike-not : (ns : List Name) (ys : List NamedType) (i : ℕ) (y : NamedType) (all : Bool)
    → slice_get ys i ≡ Some y → is_in ns y.name ≡ false
    → list_all (is_in ns) (names_of (drop i ys)) ≡ all → false ≡ all
alike-not ns ys i y all e h k =
    sym (ap (λ xs. list_all (is_in ns) (names_of xs)) (drop-get ys i y e) ∙ ap
    (λ b. b && list_all (is_in ns) (names_of (drop (i + 1) ys))) h) ∙ k

-- a name that is not there
pub alike-none : (ns : List Name) (ys : List NamedType) (i : ℕ) (y : NamedType)
    → slice_get ys i ≡ Some y → is_in ns y.name ≡ false
    → list_all (is_in ns) (names_of (drop i ys)) ≡ list_all (is_in ns) (names_of ys)
    → false ≡ alike ns (names_of ys)
alike-none ns ys i y e h k =
    sym (and-false (length ns == length (names_of ys))) ∙ ap
    (λ b. (length ns == length (names_of ys)) && b)
    (alike-not ns ys i y (list_all (is_in ns) (names_of ys)) e h k)

pub alike-all : (xs ys : List NamedType) (i : ℕ) → length xs ≡ length ys → length ys ≤ i
    → list_all (is_in (names_of xs)) (names_of (drop i ys)) ≡ list_all (is_in (names_of xs))
    (names_of ys) → true ≡ alike (names_of xs) (names_of ys)
alike-all xs ys i e l k =
    let long : length (names_of xs) ≡ length (names_of ys) = length-map xs (λ f. f.name) ∙ e ∙ sym
    (length-map ys (λ f. f.name)) in
    let there : true ≡ list_all (is_in (names_of xs)) (names_of ys) = sym
    (ap (λ zs. list_all (is_in (names_of xs)) (names_of zs)) (drop_all i ys l)) ∙ k in
    there ∙ ap (λ b. b && list_all (is_in (names_of xs)) (names_of ys)) (sym (eq_true _ _ long))

pub alike-apart : (xs ys : List NamedType) → (length xs ≡ length ys → ⊥)
    → false ≡ alike (names_of xs) (names_of ys)
alike-apart xs ys d =
    ap (λ b. b && list_all (is_in (names_of xs)) (names_of ys))
    (sym (eq_false _ _ (λ e. d (sym (length-map xs (λ f. f.name)) ∙ e ∙ length-map ys
    (λ f. f.name)))))

-- ---- the type of the field at the place of a name

pub field_type-at : (n : Name) (ys : List NamedType) (y : NamedType)
    → slice_get ys (place_in (names_of ys) n) ≡ Some y
    → field_type n (names_of ys) (field_types ys) ≡ Some y.typ
field_type-at n [] y e = cc
field_type-at n (z ∷ ys) y e =
    ap (λ b. if b then Some z.typ else field_type n (names_of ys) (field_types ys))
    (same_name-flip n z.name) ∙ step (same_name z.name n) e (field_type-at n ys y)
  where
    step : (b : Bool)
        → slice_get (z ∷ ys) (if b then 0 else suc (place_in (names_of ys) n)) ≡ Some y
        → (slice_get ys (place_in (names_of ys) n) ≡ Some y → field_type n (names_of ys)
        (field_types ys) ≡ Some y.typ) → (if b then Some z.typ else field_type n (names_of ys)
        (field_types ys)) ≡ Some y.typ
    step true h g = let same : z ≡ y = cc in ap (λ x. Some x.typ) same
    step false h g = g h

pub field_type-beyond : (n : Name) (ys : List NamedType) → place_in (names_of ys) n ≡ length ys
    → field_type n (names_of ys) (field_types ys) ≡ None
field_type-beyond n [] e = refl
field_type-beyond n (z ∷ ys) e =
    ap (λ b. if b then Some z.typ else field_type n (names_of ys) (field_types ys))
    (same_name-flip n z.name) ∙ step (same_name z.name n) e (field_type-beyond n ys)
  where
    step : (b : Bool) → (if b then 0 else suc (place_in (names_of ys) n)) ≡ suc (length ys)
        → (place_in (names_of ys) n ≡ length ys → field_type n (names_of ys) (field_types ys) ≡
        None) → (if b then Some z.typ else field_type n (names_of ys) (field_types ys)) ≡ None
    step true h g = absurd (omega (arith, h))
    step false h g = g (omega (arith, h))

-- ---- what is made name by name

pub map_names-next : {B : Type 0} (h : Name → B) (ys : List NamedType) (i : ℕ) (y : NamedType)
    → slice_get ys i ≡ Some y
    → map h (names_of (take (i + 1) ys)) ≡ map h (names_of (take i ys)) ++ h y.name ∷ []
map_names-next h ys i y e =
    ap (map h) (map-take-get (λ f. f.name) ys i y e) ∙ map-append h (names_of (take i ys))
    (y.name ∷ [])

pub names-next : (ys : List NamedType) (i : ℕ) (y : NamedType) → slice_get ys i ≡ Some y
    → names_of (take (i + 1) ys) ≡ names_of (take i ys) ++ y.name ∷ []
names-next ys i y e = map-take-get (λ f. f.name) ys i y e

-- one more
pub made-next : {B : Type 0} (h : Name → B) (ys : List NamedType) (i : ℕ) (y : NamedType)
    (made new : List B) (x : B) → slice_get ys i ≡ Some y → made ≡ map h (names_of (take i ys)) →
    new ≡ made ++ x ∷ [] → x ≡ h y.name → new ≡ map h (names_of (take (i + 1) ys))
made-next h ys i y made new x e before pushed is =
    pushed ∙ ap (λ xs. xs ++ x ∷ []) before ∙ ap (λ z. map h (names_of (take i ys)) ++ z ∷ []) is ∙
    sym (map_names-next h ys i y e)

-- all of them
pub made-all : {B : Type 0} (h : Name → B) (ys : List NamedType) (i : ℕ) (made : List B)
    → length ys ≤ i → made ≡ map h (names_of (take i ys)) → made ≡ map h (names_of ys)
made-all h ys i made l before = before ∙ ap (λ zs. map h (names_of zs)) (take_all i ys l)

pub ruleset place_laws = (place-last)

pub ruleset alike_laws = (alike-all, alike-apart)
