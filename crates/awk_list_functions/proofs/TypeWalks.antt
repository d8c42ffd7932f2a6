-- Going over types and fields from left to right, one step.
use Rattle.std.proofs.Common.{◌≡◌, ℕ, ◌+◌, List, [], ◌∷◌, ◌++◌, drop, map, slice_get, Option, Some}
use Rattle.std.proofs.Common.{refl, ap, sym, ◌∙◌}
use Rattle.awk_types.specs.DataType.{DataType, types_from}
use Rattle.awk_types.specs.View.{NamedType, types_of, names_of}
use Rattle.awk_list_functions.specs.declared.causes.Refusal.{Refusal}
use Rattle.awk_list_functions.specs.declared.place.Reach.{Reach}
use Rattle.awk_list_functions.specs.Causes.{sooner}
use Rattle.awk_list_functions.specs.ListFunction.{Giving, ListFunction}
use Rattle.awk_list_functions.specs.Lift.{refusal_at, refusal_among, lifted_type, lifted_types}
use Rattle.awk_list_functions.proofs.CauseLaws.{sooner-assoc}
use Rattle.awk_base.proofs.Lists.{append_one, drop-get}

pub refusal_next : (f : ListFunction) (k : Reach) (ts : List DataType) (i : ℕ) (t : DataType)
    (first r s w : Option Refusal) → slice_get ts i ≡ Some t → r ≡ refusal_at f k t
    → s ≡ sooner first r → sooner first (refusal_among f k (types_from (drop i ts))) ≡ w
    → sooner s (refusal_among f k (types_from (drop (i + 1) ts))) ≡ w
refusal_next f k ts i t first r s w g er es h =
    ap (λ z. sooner z (refusal_among f k (types_from (drop (i + 1) ts))))
    (es ∙ ap (sooner first) er)
    ∙ sooner-assoc first (refusal_at f k t) (refusal_among f k (types_from (drop (i + 1) ts)))
    ∙ ap (λ us. sooner first (refusal_among f k (types_from us))) (sym (drop-get ts i t g)) ∙ h

pub refusal_next_field : (f : ListFunction) (k : Reach) (fs : List NamedType) (i : ℕ)
    (t : NamedType) (first r s w : Option Refusal) → slice_get fs i ≡ Some t
    → r ≡ refusal_at f k t.typ → s ≡ sooner first r
    → sooner first (refusal_among f k (types_of (drop i fs))) ≡ w
    → sooner s (refusal_among f k (types_of (drop (i + 1) fs))) ≡ w
refusal_next_field f k fs i t first r s w g er es h =
    ap (λ z. sooner z (refusal_among f k (types_of (drop (i + 1) fs)))) (es ∙ ap (sooner first) er)
    ∙ sooner-assoc first (refusal_at f k t.typ) (refusal_among f k (types_of (drop (i + 1) fs)))
    ∙ ap (λ us. sooner first (refusal_among f k (types_of us))) (sym (drop-get fs i t g)) ∙ h

pub lifted_next : (g : Giving) (k : Reach) (ts : List DataType) (i : ℕ) (t u : DataType)
    (made more w : List DataType) → slice_get ts i ≡ Some t → u ≡ lifted_type g k t
    → more ≡ made ++ u ∷ [] → made ++ lifted_types g k (types_from (drop i ts)) ≡ w
    → more ++ lifted_types g k (types_from (drop (i + 1) ts)) ≡ w
lifted_next g k ts i t u made more w e eu em h =
    ap (λ z. z ++ lifted_types g k (types_from (drop (i + 1) ts)))
    (em ∙ ap (λ z. made ++ z ∷ []) eu)
    ∙ append_one made (lifted_type g k t) (lifted_types g k (types_from (drop (i + 1) ts)))
    ∙ ap (λ us. made ++ lifted_types g k (types_from us)) (sym (drop-get ts i t e)) ∙ h

pub lifted_next_field : (g : Giving) (k : Reach) (fs : List NamedType) (i : ℕ) (t u : NamedType)
    (made more : List NamedType) (w : List DataType) → slice_get fs i ≡ Some t
    → u.typ ≡ lifted_type g k t.typ → more ≡ made ++ u ∷ []
    → map (λ f. f.typ) made ++ lifted_types g k (types_of (drop i fs)) ≡ w
    → map (λ f. f.typ) more ++ lifted_types g k (types_of (drop (i + 1) fs)) ≡ w
lifted_next_field g k fs i t u made more w e eu em h =
    ap (λ z. z ++ lifted_types g k (types_of (drop (i + 1) fs)))
    (ap (map (λ (f : NamedType). f.typ)) em ∙ map_one (λ (f : NamedType). f.typ) made u
    ∙ ap (λ z. map (λ (f : NamedType). f.typ) made ++ z ∷ []) eu)
    ∙ append_one (map (λ (f : NamedType). f.typ) made) (lifted_type g k t.typ)
    (lifted_types g k (types_of (drop (i + 1) fs)))
    ∙ ap (λ us. map (λ (f : NamedType). f.typ) made ++ lifted_types g k (types_of us))
    (sym (drop-get fs i t e)) ∙ h
  where
    map_one : {X Y : Type 0} (f : X → Y) (xs : List X) (x : X)
        → map f (xs ++ x ∷ []) ≡ map f xs ++ f x ∷ []
    map_one f [] x = refl
    map_one f (y ∷ xs) x = ap (λ ys. f y ∷ ys) (map_one f xs x)

pub names_next : (fs : List NamedType) (i : ℕ) (t u : NamedType) (made more : List NamedType)
    → slice_get fs i ≡ Some t → u.name ≡ t.name → more ≡ made ++ u ∷ []
    → names_of made ++ names_of (drop i fs) ≡ names_of fs
    → names_of more ++ names_of (drop (i + 1) fs) ≡ names_of fs
names_next fs i t u made more e eu em h =
    ap (λ z. z ++ names_of (drop (i + 1) fs))
    (ap names_of em ∙ map_one made u ∙ ap (λ z. names_of made ++ z ∷ []) eu)
    ∙ append_one (names_of made) t.name (names_of (drop (i + 1) fs))
    ∙ ap (λ us. names_of made ++ names_of us) (sym (drop-get fs i t e)) ∙ h
  where
    map_one : (xs : List NamedType) (x : NamedType)
        → names_of (xs ++ x ∷ []) ≡ names_of xs ++ x.name ∷ []
    map_one [] x = refl
    map_one (y ∷ xs) x = ap (λ ys. y.name ∷ ys) (map_one xs x)
