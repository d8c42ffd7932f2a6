-- Tests of the items of a list, one after another.
use Rattle.std.proofs.Common.{◌≡◌, ℕ, ◌+◌, ◌≤◌, Bool, true, false, ◌&&◌, ◌||◌, refl, ap, sym}
use Rattle.std.proofs.Common.{subst, ◌∙◌, drop}
use Rattle.std.specs.Prelude.{List, [], ◌∷◌, map, length, slice_get, Some}
use Rattle.std.specs.List.{list_any, list_all}
use Rattle.std.proofs.lemmas.List.{drop_all}
use Rattle.std.proofs.lemmas.Bool.{and_parts}
use Rattle.awk_base.proofs.Lists.{drop-get}

pub any_next : {A : Type 0} (f : A → Bool) (xs : List A) (i : ℕ) (x : A) (b : Bool)
    → slice_get xs i ≡ Some x → f x ≡ false → list_any f (drop i xs) ≡ b
    → list_any f (drop (i + 1) xs) ≡ b
any_next f xs i x b g e h =
    subst (λ c. c || list_any f (drop (i + 1) xs) ≡ b) e
    (sym (ap (list_any f) (drop-get xs i x g)) ∙ h)

pub any_found : {A : Type 0} (f : A → Bool) (xs : List A) (i : ℕ) (x : A) (b : Bool)
    → slice_get xs i ≡ Some x → f x ≡ true → list_any f (drop i xs) ≡ b → true ≡ b
any_found f xs i x b g e h =
    subst (λ c. c || list_any f (drop (i + 1) xs) ≡ b) e
    (sym (ap (list_any f) (drop-get xs i x g)) ∙ h)

pub any_end : {A : Type 0} (f : A → Bool) (xs : List A) (i : ℕ) (b : Bool) → length xs ≤ i
    → list_any f (drop i xs) ≡ b → false ≡ b
any_end f xs i b l h = sym (ap (list_any f) (drop_all i xs l)) ∙ h

pub all_next : {A : Type 0} (f : A → Bool) (xs : List A) (i : ℕ) (x : A) (b : Bool)
    → slice_get xs i ≡ Some x → f x ≡ true → list_all f (drop i xs) ≡ b
    → list_all f (drop (i + 1) xs) ≡ b
all_next f xs i x b g e h =
    subst (λ c. c && list_all f (drop (i + 1) xs) ≡ b) e
    (sym (ap (list_all f) (drop-get xs i x g)) ∙ h)

pub all_not : {A : Type 0} (f : A → Bool) (xs : List A) (i : ℕ) (x : A) (b : Bool)
    → slice_get xs i ≡ Some x → f x ≡ false → list_all f (drop i xs) ≡ b → false ≡ b
all_not f xs i x b g e h =
    subst (λ c. c && list_all f (drop (i + 1) xs) ≡ b) e
    (sym (ap (list_all f) (drop-get xs i x g)) ∙ h)

pub all_end : {A : Type 0} (f : A → Bool) (xs : List A) (i : ℕ) (b : Bool) → length xs ≤ i
    → list_all f (drop i xs) ≡ b → true ≡ b
all_end f xs i b l h = sym (ap (list_all f) (drop_all i xs l)) ∙ h

pub any-map : {A B : Type 0} (f : B → Bool) (g : A → B) (xs : List A)
    → list_any (λ x. f (g x)) xs ≡ list_any f (map g xs)
any-map f g [] = refl
any-map f g (x ∷ xs) = ap (λ b. f (g x) || b) (any-map f g xs)

pub all-map : {A B : Type 0} (f : B → Bool) (g : A → B) (xs : List A)
    → list_all (λ x. f (g x)) xs ≡ list_all f (map g xs)
all-map f g [] = refl
all-map f g (x ∷ xs) = ap (λ b. f (g x) && b) (all-map f g xs)

-- ---- truth values

pub second : (a b : Bool) → a && b ≡ true → b ≡ true
second a b e = (and_parts a b e).1
