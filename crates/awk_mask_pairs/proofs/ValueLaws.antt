-- Values of lists, optional or not, by what is done to their items.
use Rattle.std.specs.Prelude.{◌≡◌, ℕ, refl, Bool, true, false, List, [], ◌∷◌, ◌++◌, length, map}
use Rattle.std.specs.Prelude.{filter, Some, None}
use Rattle.std.specs.List.{AllByRecursion}
use Rattle.std.proofs.Common.{ap, ap₂, sym, ◌∙◌, subst}
use Rattle.std.proofs.lemmas.List.{map-append}
use Rattle.awk_types.specs.DataType.{DataType}
use Rattle.awk_types.specs.Has.{Has}
use Rattle.awk_types.specs.Simple.{option_if, in_list, in_option, simple_value}
use Rattle.awk_types.specs.Value.{Value, null, int, truth, list, row, alt, value_list, values_from}
use Rattle.awk_columns.specs.Columns.{joined_items, is_present, list_items}
use Rattle.awk_columns.specs.ListClass.{Class, list_type}
use Rattle.awk_frames.specs.Framed.{over}
use Rattle.awk_types.proofs.Trees.{value_list-from}

-- ---- a value of lists, optional or not

abbrev pub IsOfLength : Class → ℕ → Type 0
IsOfLength None k = Unit {0}
IsOfLength (Some n) k = k ≡ n

abbrev pub IsListOrNull : Bool → Class → DataType → Value → Type 0
IsListOrNull b d t (list ws) =
    IsOfLength d (length (value_list ws)) × AllByRecursion (Has t) (value_list ws)
IsListOrNull b d t null = b ≡ true
IsListOrNull b d t v = ⊥

list-has : (b : Bool) (d : Class) (t : DataType) (v : Value) → Has (list_type d t) v
    → IsListOrNull b d t v
list-has b None t (list ws) h = (tt, h)
list-has b None t null h = absurd h
list-has b None t (int z) h = absurd h
list-has b None t (truth c) h = absurd h
list-has b None t (row ws) h = absurd h
list-has b None t (alt k w) h = absurd h
list-has b (Some n) t (list ws) h = h
list-has b (Some n) t null h = absurd h
list-has b (Some n) t (int z) h = absurd h
list-has b (Some n) t (truth c) h = absurd h
list-has b (Some n) t (row ws) h = absurd h
list-has b (Some n) t (alt k w) h = absurd h

pub list-or-null : (b : Bool) (d : Class) (t : DataType) (v : Value)
    → Has (option_if b (list_type d t)) v → IsListOrNull b d t v
list-or-null false d t v h = list-has false d t v h
list-or-null true d t null h = refl
list-or-null true d t (list ws) h = list-has true d t (list ws) h
list-or-null true d t (int z) h = list-has true d t (int z) h
list-or-null true d t (truth c) h = list-has true d t (truth c) h
list-or-null true d t (row ws) h = list-has true d t (row ws) h
list-or-null true d t (alt k w) h = list-has true d t (alt k w) h

list-made : (d : Class) (t : DataType) (ws : List Value) → IsOfLength d (length ws)
    → AllByRecursion (Has t) ws → Has (list_type d t) (list (values_from ws))
list-made None t ws l h = subst (λ vs. AllByRecursion (Has t) vs) (sym (value_list-from ws)) h
list-made (Some n) t ws l h =
    subst (λ vs. (length vs ≡ n) × AllByRecursion (Has t) vs) (sym (value_list-from ws)) (l, h)

pub made-list : (b : Bool) (d : Class) (t : DataType) (ws : List Value)
    → IsOfLength d (length ws) → AllByRecursion (Has t) ws
    → Has (option_if b (list_type d t)) (list (values_from ws))
made-list true d t ws l h = list-made d t ws l h
made-list false d t ws l h = list-made d t ws l h

pub made-null : (b : Bool) (d : Class) (t : DataType) → b ≡ true
    → Has (option_if b (list_type d t)) null
made-null true d t e = tt
made-null false d t e = absurd cc

-- ---- a function of the items

option-list : (f : Value → Value) (v : Value) → in_option (in_list f) v ≡ in_list f v
option-list f null = refl
option-list f (int z) = refl
option-list f (truth b) = refl
option-list f (list vs) = refl
option-list f (row vs) = refl
option-list f (alt k v) = refl

-- an option of an option is one
pub option-twice : (f : Value → Value) (v : Value) → in_option (in_option f) v ≡ in_option f v
option-twice f null = refl
option-twice f (int z) = refl
option-twice f (truth b) = refl
option-twice f (list vs) = refl
option-twice f (row vs) = refl
option-twice f (alt k v) = refl

pub over-list : (e : Bool) (d : Class) (t : DataType) (f : Value → Value) (v : Value)
    → over (option_if e (list_type d t)) f v ≡ in_list (over t f) v
over-list true None t f v = option-list (over t f) v
over-list true (Some n) t f v = option-list (over t f) v
over-list false None t f v = refl
over-list false (Some n) t f v = refl

pub simple-list : (a b : Bool) (d : Class) (t : DataType) (v : Value)
    → simple_value (option_if a (option_if b (list_type d t))) v ≡ in_list (simple_value t) v
simple-list true true None t v =
    option-twice (in_list (simple_value t)) v ∙ option-list (simple_value t) v
simple-list true true (Some n) t v =
    option-twice (in_list (simple_value t)) v ∙ option-list (simple_value t) v
simple-list true false None t v = option-list (simple_value t) v
simple-list true false (Some n) t v = option-list (simple_value t) v
simple-list false true None t v = option-list (simple_value t) v
simple-list false true (Some n) t v = option-list (simple_value t) v
simple-list false false None t v = refl
simple-list false false (Some n) t v = refl

pub items-by : (f g : Value → Value) → ((v : Value) → f v ≡ g v) → (vs : List Value)
    → map f vs ≡ map g vs
items-by f g h [] = refl
items-by f g h (v ∷ vs) = ap₂ (λ w ws. w ∷ ws) (h v) (items-by f g h vs)

pub list-by : (f g : Value → Value) → ((v : Value) → f v ≡ g v) → (v : Value)
    → in_list f v ≡ in_list g v
list-by f g h (list vs) = ap (λ ws. list (values_from ws)) (items-by f g h (value_list vs))
list-by f g h null = refl
list-by f g h (int z) = refl
list-by f g h (truth b) = refl
list-by f g h (row vs) = refl
list-by f g h (alt k v) = refl

pub items-after : (f g : Value → Value) (vs : List Value) → map f (map g vs) ≡ map (λ v. f (g v)) vs
items-after f g [] = refl
items-after f g (v ∷ vs) = ap (λ ws. f (g v) ∷ ws) (items-after f g vs)

pub list-after : (f g : Value → Value) (v : Value)
    → in_list f (in_list g v) ≡ in_list (λ w. f (g w)) v
list-after f g (list vs) =
    ap (λ ws. list (values_from (map f ws))) (value_list-from (map g (value_list vs)))
    ∙ ap (λ ws. list (values_from ws)) (items-after f g (value_list vs))
list-after f g null = refl
list-after f g (int z) = refl
list-after f g (truth b) = refl
list-after f g (row vs) = refl
list-after f g (alt k v) = refl

-- a list of what is made
pub list-of-made : (f : Value → Value) (ws : List Value)
    → in_list f (list (values_from ws)) ≡ list (values_from (map f ws))
list-of-made f ws = ap (λ vs. list (values_from (map f vs))) (value_list-from ws)

-- ---- the items of all lists

items-in : (f : Value → Value) (v : Value) → list_items (in_list f v) ≡ map f (list_items v)
items-in f (list vs) = value_list-from (map f (value_list vs))
items-in f null = refl
items-in f (int z) = refl
items-in f (truth b) = refl
items-in f (row vs) = refl
items-in f (alt k v) = refl

pub joined-in : (f h : Value → Value) → ((v : Value) → h v ≡ in_list f v) → (vs : List Value)
    → joined_items (map h vs) ≡ map f (joined_items vs)
joined-in f h e [] = refl
joined-in f h e (v ∷ vs) =
    ap₂ (λ us ws. us ++ ws) (ap list_items (e v) ∙ items-in f v) (joined-in f h e vs)
    ∙ sym (map-append f (list_items v) (joined_items vs))

-- null has none
pub joined-present : (vs : List Value) → joined_items (filter is_present vs) ≡ joined_items vs
joined-present [] = refl
joined-present (null ∷ vs) = joined-present vs
joined-present (int z ∷ vs) = joined-present vs
joined-present (truth b ∷ vs) = joined-present vs
joined-present (list ws ∷ vs) = ap (λ us. value_list ws ++ us) (joined-present vs)
joined-present (row ws ∷ vs) = joined-present vs
joined-present (alt k w ∷ vs) = joined-present vs
