-- What a function shows of what is left of a list: of the item at the place first, and of nothing
-- behind the last.
use Rattle.std.proofs.Common.{◌≡◌, ◌<◌, ◌≤◌, ℕ, ◌+◌, List, [], ◌∷◌, length, map, drop, get_or}
use Rattle.std.proofs.Common.{slice_get, Some, sym, ap, ◌∙◌}
use Rattle.std.proofs.lemmas.List.{drop_more, drop_all}
use Rattle.awk_base.proofs.Lists.{drop-get}

pub map_left : {A B : Type 0} (f : A → B) (xs : List A) (i : ℕ) (x d : A) → i < length xs
    → x ≡ get_or xs i d → map f (drop i xs) ≡ f x ∷ map f (drop (i + 1) xs)
map_left f xs i x d within is =
    ap (map f) (drop_more xs i d within) ∙ ap (λ y. f y ∷ map f (drop (i + 1) xs)) (sym is)

pub map_left_at : {A B : Type 0} (f : A → B) (xs : List A) (i : ℕ) (x : A) → slice_get xs i ≡ Some x
    → map f (drop i xs) ≡ f x ∷ map f (drop (i + 1) xs)
map_left_at f xs i x at = ap (map f) (drop-get xs i x at)

pub map_none : {A B : Type 0} (f : A → B) (xs : List A) (i : ℕ) → length xs ≤ i
    → map f (drop i xs) ≡ []
map_none f xs i past = ap (map f) (drop_all i xs past)
