-- Steps of the loops over names.
use Rattle.std.proofs.Common.{◌≡◌, ℕ, zero, suc, ◌+◌, not, Bool, true, false, List, [], ◌∷◌, ◌++◌}
use Rattle.std.proofs.Common.{length, map, take, drop, slice_get, Some, get_or, if◌then◌else◌, refl}
use Rattle.std.proofs.Common.{ap, ap₂, ◌∙◌, sym, arith}
use Rattle.std.proofs.lemmas.List.{append_assoc}
use Rattle.awk_types.specs.DataType.{Name}
use Rattle.awk_types.specs.Names.{same_name, place_of}
use Rattle.awk_base.proofs.Lists.{drop-get, map-take-get}
use Rattle.awk_view.specs.Choice.{apart_from}

pub get_or-get : {X : Type 0} (xs : List X) (i : ℕ) (x d : X) → slice_get xs i ≡ Some x
    → get_or xs i d ≡ x
get_or-get [] i x d e = cc
get_or-get (y ∷ xs) zero x d e = cc
get_or-get (y ∷ xs) (suc i) x d e = get_or-get xs i x d e

-- one more is pushed, which is what f gives of the next
pub pushed_next : {A B : Type 0} (f : A → B) (xs : List A) (i : ℕ) (x : A) (made more : List B)
    (y : B) → slice_get xs i ≡ Some x → more ≡ made ++ y ∷ [] → made ≡ map f (take i xs) → y ≡ f x →
    more ≡ map f (take (i + 1) xs)
pushed_next f xs i x made more y e p q r =
    p ∙ ap₂ (λ zs z. zs ++ z ∷ []) q r ∙ sym (map-take-get f xs i x e)

-- a name that is passed by
pub place_passed : (n : Name) (names : List Name) (i : ℕ) (m : Name) → slice_get names i ≡ Some m
    → same_name m n ≡ false → place_of n names ≡ i + place_of n (drop i names)
    → place_of n names ≡ i + 1 + place_of n (drop (i + 1) names)
place_passed n names i m e f h =
    let g : place_of n (drop i names) ≡ suc (place_of n (drop (i + 1) names)) = ap (place_of n)
    (drop-get names i m e) ∙ ap (λ b. if b then 0 else suc (place_of n (drop (i + 1) names)))
    f in
    omega arith

pub place_found : (n : Name) (names : List Name) (i : ℕ) (m : Name) → slice_get names i ≡ Some m
    → same_name m n ≡ true → place_of n names ≡ i + place_of n (drop i names) → i ≡ place_of n names
place_found n names i m e f h =
    let g : place_of n (drop i names) ≡ 0 = ap (place_of n) (drop-get names i m e) ∙ ap
    (λ b. if b then 0 else suc (place_of n (drop (i + 1) names))) f in
    omega arith

-- what is left out, and what is kept
pub apart_left : {X : Type 0} (n : Name) (names : List Name) (xs made : List X) (i : ℕ) (m : Name)
    (x : X) → slice_get names i ≡ Some m → slice_get xs i ≡ Some x → same_name m n ≡ true
    → made ++ apart_from n (drop i names) (drop i xs) ≡ apart_from n names xs
    → made ++ apart_from n (drop (i + 1) names) (drop (i + 1) xs) ≡ apart_from n names xs
apart_left n names xs made i m x e f s h =
    ap (λ ys. made ++ ys) (sym (ap (λ ms. apart_from n ms (drop i xs)) (drop-get names i m e)
    ∙ ap (λ ys. apart_from n (m ∷ drop (i + 1) names) ys) (drop-get xs i x f)
    ∙ ap (λ b. if b then apart_from n (drop (i + 1) names) (drop (i + 1) xs) else x ∷ apart_from n
    (drop (i + 1) names) (drop (i + 1) xs)) s)) ∙ h

pub apart_kept : {X : Type 0} (n : Name) (names : List Name) (xs made : List X) (i : ℕ) (m : Name)
    (x : X) → slice_get names i ≡ Some m → slice_get xs i ≡ Some x → same_name m n ≡ false
    → made ++ apart_from n (drop i names) (drop i xs) ≡ apart_from n names xs
    → (made ++ x ∷ []) ++ apart_from n (drop (i + 1) names) (drop (i + 1) xs) ≡ apart_from n
    names xs
apart_kept n names xs made i m x e f s h =
    append_assoc made (x ∷ []) (apart_from n (drop (i + 1) names) (drop (i + 1) xs))
    ∙ ap (λ ys. made ++ ys) (sym (ap (λ ms. apart_from n ms (drop i xs)) (drop-get names i m e)
    ∙ ap (λ ys. apart_from n (m ∷ drop (i + 1) names) ys) (drop-get xs i x f)
    ∙ ap (λ b. if b then apart_from n (drop (i + 1) names) (drop (i + 1) xs) else x ∷ apart_from n
    (drop (i + 1) names) (drop (i + 1) xs)) s)) ∙ h

-- a test for other names
pub not_true : (b : Bool) → not b ≡ true → b ≡ false
not_true true e = cc
not_true false e = refl

-- a list that is as long has an item wherever there is a name
get_some : {X Y : Type 0} (P : Type 0) (names : List Y) (xs : List X) (i : ℕ) (m : Y)
    → slice_get names i ≡ Some m → length xs ≡ length names
    → ((x : X) → slice_get xs i ≡ Some x → P) → P
get_some P [] xs i m e l k = cc
get_some P (n ∷ names) [] i m e l k = absurd (omega arith)
get_some P (n ∷ names) (x ∷ xs) zero m e l k = k x refl
get_some P (n ∷ names) (x ∷ xs) (suc i) m e l k = get_some P names xs i m e (omega arith) k

pub apart_skipped : {X : Type 0} (n : Name) (names : List Name) (xs made : List X) (i : ℕ)
    (m : Name) → slice_get names i ≡ Some m → same_name m n ≡ true → length xs ≡ length names
    → made ++ apart_from n (drop i names) (drop i xs) ≡ apart_from n names xs
    → made ++ apart_from n (drop (i + 1) names) (drop (i + 1) xs) ≡ apart_from n names xs
apart_skipped n names xs made i m e s l h =
    get_some (made ++ apart_from n (drop (i + 1) names) (drop (i + 1) xs) ≡ apart_from n names xs)
    names xs i m e l
    (λ x f. apart_left n names xs made i m x e f s h)
