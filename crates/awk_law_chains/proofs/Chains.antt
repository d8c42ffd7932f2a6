-- Lists and options around ends: what a function of the ends makes of a value of such a type.
use Rattle.std.specs.Prelude.{◌≡◌, suc, Bool, true, false, List, [], ◌∷◌, ◌++◌, map}
use Rattle.std.specs.Prelude.{length, filter, Option, Some, None, refl}
use Rattle.std.specs.List.{AllByRecursion}
use Rattle.std.proofs.Common.{ap, ap₂, sym, ◌∙◌}
use Rattle.std.proofs.lemmas.List.{map-append}
use Rattle.awk_types.specs.DataType.{DataType, unknown, leaf, var, reg, rec, tup, opt, uni}
use Rattle.awk_types.specs.Gives.{◌or◌}
use Rattle.awk_types.specs.ItemLimit.{too_many}
use Rattle.awk_types.specs.Simple.{option_if, present, in_list, in_option}
use Rattle.awk_types.specs.Value.{Value, int, truth, null, list, row, alt, value_list, values_from}
use Rattle.awk_types.specs.declared.fault.Fault.{Fault}
use Rattle.awk_types.proofs.Trees.{value_list-from, values_from-list}
use Rattle.awk_columns.specs.Columns.{is_present, list_items, joined_items}
use Rattle.awk_columns.specs.ListClass.{Class, list_type}
use Rattle.awk_frames.specs.Framed.{over, over_type}
use Rattle.awk_frames.specs.Shape.{ends}
use Rattle.awk_frames.specs.Sizes.{levels_refused}
use Rattle.awk_frames.proofs.FrameLaws.{over_type-list}

-- an end, or lists, optional or not
pub data Chain : Type 0 where
  close : Bool → Chain
  layer : Bool → Class → Chain → Chain

abbrev pub chain_type : Chain → DataType → DataType
chain_type (close o) u = option_if o u
chain_type (layer o c k) u = option_if o (list_type c (chain_type k u))

-- what is lists or options no more
abbrev pub IsEnd : DataType → Type 0
IsEnd (leaf p) = Unit {0}
IsEnd (tup ts) = Unit {0}
IsEnd t = ⊥

-- whether the ends may be null
abbrev pub closing : Chain → Bool
closing (close o) = o
closing (layer o c k) = closing k

-- ---- a function of the ends

abbrev pub at_ends : Chain → (Value → Value) → Value → Value
at_ends (close false) f = f
at_ends (close true) f = in_option f
at_ends (layer o c k) f = in_list (at_ends k f)

abbrev pub is_lists : Bool → Value → Bool
is_lists o (list vs) = true
is_lists o null = o
is_lists o v = false

abbrev pub IsEndAt : Bool → (Value → Type 0) → Value → Type 0
IsEndAt true P v = is_present v ≡ true → P v
IsEndAt false P v = P v

-- a value of such lists with a property at each end
abbrev pub IsAt : Chain → (Value → Type 0) → Value → Type 0
IsAt (close o) P v = IsEndAt o P v
IsAt (layer o c k) P v = (is_lists o v ≡ true) × AllByRecursion (IsAt k P) (list_items v)

-- ---- lists of values

pub same-each : (P : Value → Type 0) (f g : Value → Value) (vs : List Value)
    → ((x : Value) → P x → f x ≡ g x) → AllByRecursion P vs → map f vs ≡ map g vs
same-each P f g [] e h = refl
same-each P f g (v ∷ vs) e h = ap₂ (λ x xs. x ∷ xs) (e v h.0) (same-each P f g vs e h.1)

pub both-each : (P : Value → Type 0) (f g h : Value → Value) (vs : List Value)
    → ((x : Value) → P x → g (f x) ≡ h x) → AllByRecursion P vs
    → map g (map f vs) ≡ map h vs
both-each P f g h [] e i = refl
both-each P f g h (v ∷ vs) e i =
    ap₂ (λ x xs. x ∷ xs) (e v i.0) (both-each P f g h vs e i.1)

pub all-each : (P Q : Value → Type 0) (f : Value → Value) (vs : List Value)
    → ((x : Value) → P x → Q (f x)) → AllByRecursion P vs → AllByRecursion Q (map f vs)
all-each P Q f [] e h = tt
all-each P Q f (v ∷ vs) e h = (e v h.0, all-each P Q f vs e h.1)

pub all-of : (P Q : Value → Type 0) (vs : List Value)
    → ((x : Value) → P x → Q x) → AllByRecursion P vs → AllByRecursion Q vs
all-of P Q [] e h = tt
all-of P Q (v ∷ vs) e h = (e v h.0, all-of P Q vs e h.1)

pub items-in_list : (f : Value → Value) (v : Value)
    → list_items (in_list f v) ≡ map f (list_items v)
items-in_list f (list vs) = value_list-from (map f (value_list vs))
items-in_list f (int z) = refl
items-in_list f (truth b) = refl
items-in_list f null = refl
items-in_list f (row vs) = refl
items-in_list f (alt j v) = refl

pub joined-in_list : (f : Value → Value) (vs : List Value)
    → joined_items (map (in_list f) vs) ≡ map f (joined_items vs)
joined-in_list f [] = refl
joined-in_list f (v ∷ vs) =
    ap₂ (λ xs ys. xs ++ ys) (items-in_list f v) (joined-in_list f vs)
    ∙ sym (map-append f (list_items v) (joined_items vs))

pub joined-present : (vs : List Value) → joined_items (filter is_present vs) ≡ joined_items vs
joined-present [] = refl
joined-present (null ∷ vs) = joined-present vs
joined-present (int z ∷ vs) = joined-present vs
joined-present (truth b ∷ vs) = joined-present vs
joined-present (list ws ∷ vs) = ap (λ xs. value_list ws ++ xs) (joined-present vs)
joined-present (row ws ∷ vs) = joined-present vs
joined-present (alt j w ∷ vs) = joined-present vs

pub in_list-same : (f g : Value → Value) (v : Value) → ((x : Value) → f x ≡ g x)
    → in_list f v ≡ in_list g v
in_list-same f g (list vs) e =
    ap (λ xs. list (values_from xs)) (each (value_list vs))
  where
    each : (vs : List Value) → map f vs ≡ map g vs
    each [] = refl
    each (v ∷ vs) = ap₂ (λ x xs. x ∷ xs) (e v) (each vs)
in_list-same f g (int z) e = refl
in_list-same f g (truth b) e = refl
in_list-same f g null e = refl
in_list-same f g (row vs) e = refl
in_list-same f g (alt j v) e = refl

pub in_option-same : (f g : Value → Value) (v : Value) → ((x : Value) → f x ≡ g x)
    → in_option f v ≡ in_option g v
in_option-same f g null e = refl
in_option-same f g (int z) e = e (int z)
in_option-same f g (truth b) e = e (truth b)
in_option-same f g (list vs) e = e (list vs)
in_option-same f g (row vs) e = e (row vs)
in_option-same f g (alt j v) e = e (alt j v)

option-in_list : (f : Value → Value) (v : Value) → in_option (in_list f) v ≡ in_list f v
option-in_list f null = refl
option-in_list f (int z) = refl
option-in_list f (truth b) = refl
option-in_list f (list vs) = refl
option-in_list f (row vs) = refl
option-in_list f (alt j v) = refl

pub in_list_stays : (f : Value → Value) (w : Value) → ((x : Value) → f x ≡ x) → in_list f w ≡ w
in_list_stays f (list vs) e =
    ap (λ xs. list (values_from xs)) (each (value_list vs)) ∙ ap list (values_from-list vs)
  where
    each : (xs : List Value) → map f xs ≡ xs
    each [] = refl
    each (x ∷ xs) = ap₂ (λ y ys. y ∷ ys) (e x) (each xs)
in_list_stays f (int z) e = refl
in_list_stays f (truth b) e = refl
in_list_stays f null e = refl
in_list_stays f (row vs) e = refl
in_list_stays f (alt j v) e = refl

-- ---- types over such lists

over-end : (u : DataType) (f : Value → Value) (v : Value) → IsEnd u → over u f v ≡ f v
over-end (leaf p) f v e = refl
over-end (tup ts) f v e = refl
over-end unknown f v e = absurd e
over-end (var t) f v e = absurd e
over-end (reg n t) f v e = absurd e
over-end (rec ns ts) f v e = absurd e
over-end (opt t) f v e = absurd e
over-end (uni ts) f v e = absurd e

over-list : (c : Class) (t : DataType) (f : Value → Value) (v : Value)
    → over (list_type c t) f v ≡ in_list (over t f) v
over-list None t f v = refl
over-list (Some n) t f v = refl

pub over-chain : (k : Chain) (u : DataType) (f : Value → Value) (v : Value) → IsEnd u
    → over (chain_type k u) f v ≡ at_ends k f v
over-chain (close false) u f v e = over-end u f v e
over-chain (close true) u f v e = in_option-same (over u f) f v (λ x. over-end u f x e)
over-chain (layer false c k) u f v e =
    over-list c (chain_type k u) f v
    ∙ in_list-same (over (chain_type k u) f) (at_ends k f) v (λ x. over-chain k u f x e)
over-chain (layer true c k) u f v e =
    in_option-same (over (list_type c (chain_type k u)) f) (in_list (over (chain_type k u) f)) v
    (λ x. over-list c (chain_type k u) f x)
    ∙ option-in_list (over (chain_type k u) f) v
    ∙ in_list-same (over (chain_type k u) f) (at_ends k f) v (λ x. over-chain k u f x e)

over_type-end : (u w : DataType) → IsEnd u → over_type u w ≡ w
over_type-end (leaf p) w e = refl
over_type-end (tup ts) w e = refl
over_type-end unknown w e = absurd e
over_type-end (var t) w e = absurd e
over_type-end (reg n t) w e = absurd e
over_type-end (rec ns ts) w e = absurd e
over_type-end (opt t) w e = absurd e
over_type-end (uni ts) w e = absurd e

present-list : (c : Class) (t : DataType) → present (list_type c t) ≡ list_type c t
present-list None t = refl
present-list (Some n) t = refl

pub over_type-chain : (k : Chain) (u w : DataType) → IsEnd u
    → (closing k ≡ true → present w ≡ w) → over_type (chain_type k u) w ≡ chain_type k w
over_type-chain (close false) u w e h = over_type-end u w e
over_type-chain (close true) u w e h =
    ap (λ t. opt (present t)) (over_type-end u w e) ∙ ap opt (h refl)
over_type-chain (layer false c k) u w e h =
    over_type-list c (chain_type k u) w ∙ ap (list_type c) (over_type-chain k u w e h)
over_type-chain (layer true c k) u w e h =
    ap (λ t. opt (present t))
    (over_type-list c (chain_type k u) w ∙ ap (list_type c) (over_type-chain k u w e h))
    ∙ ap opt (present-list c (chain_type k w))

-- ---- how many items the lists of each level have

abbrev pub chain_sizes : Chain → List Value → Option Fault
chain_sizes (close o) vs = None
chain_sizes (layer o c k) vs =
    too_many (length (joined_items vs)) or chain_sizes k (joined_items vs)

sizes-end : (u : DataType) (vs : List Value) → IsEnd u → levels_refused u vs ≡ None
sizes-end (leaf p) vs e = refl
sizes-end (tup ts) vs e = refl
sizes-end unknown vs e = absurd e
sizes-end (var t) vs e = absurd e
sizes-end (reg n t) vs e = absurd e
sizes-end (rec ns ts) vs e = absurd e
sizes-end (opt t) vs e = absurd e
sizes-end (uni ts) vs e = absurd e

sizes-list : (c : Class) (t : DataType) (vs : List Value) → levels_refused (list_type c t) vs
    ≡ (too_many (length (joined_items vs)) or levels_refused t (joined_items vs))
sizes-list None t vs = refl
sizes-list (Some n) t vs = refl

pub sizes-chain : (k : Chain) (u : DataType) (vs : List Value) → IsEnd u
    → levels_refused (chain_type k u) vs ≡ chain_sizes k vs
sizes-chain (close false) u vs e = sizes-end u vs e
sizes-chain (close true) u vs e = sizes-end u (filter is_present vs) e
sizes-chain (layer false c k) u vs e =
    sizes-list c (chain_type k u) vs
    ∙ ap (λ o. too_many (length (joined_items vs)) or o) (sizes-chain k u (joined_items vs) e)
sizes-chain (layer true c k) u vs e =
    sizes-list c (chain_type k u) (filter is_present vs)
    ∙ ap (λ ws. too_many (length ws) or levels_refused (chain_type k u) ws) (joined-present vs)
    ∙ ap (λ o. too_many (length (joined_items vs)) or o) (sizes-chain k u (joined_items vs) e)

pub length-each : (f : Value → Value) (vs : List Value) → length (map f vs) ≡ length vs
length-each f [] = refl
length-each f (v ∷ vs) = ap suc (length-each f vs)

pub sizes-mapped : (k : Chain) (f : Value → Value) (vs : List Value)
    → chain_sizes k (map (at_ends k f) vs) ≡ chain_sizes k vs
sizes-mapped (close o) f vs = refl
sizes-mapped (layer o c k) f vs =
    ap (λ ws. too_many (length ws) or chain_sizes k ws) (joined-in_list (at_ends k f) vs)
    ∙ ap₂ (λ n o. too_many n or o) (length-each (at_ends k f) (joined_items vs))
    (sizes-mapped k f (joined_items vs))

-- ---- what stands at the ends

abbrev pub chain_ends : Chain → List Value → List Value
chain_ends (close false) vs = vs
chain_ends (close true) vs = filter is_present vs
chain_ends (layer o c k) vs = chain_ends k (joined_items vs)

ends-end : (u : DataType) (vs : List Value) → IsEnd u → ends u vs ≡ vs
ends-end (leaf p) vs e = refl
ends-end (tup ts) vs e = refl
ends-end unknown vs e = absurd e
ends-end (var t) vs e = absurd e
ends-end (reg n t) vs e = absurd e
ends-end (rec ns ts) vs e = absurd e
ends-end (opt t) vs e = absurd e
ends-end (uni ts) vs e = absurd e

ends-list : (c : Class) (t : DataType) (vs : List Value)
    → ends (list_type c t) vs ≡ ends t (joined_items vs)
ends-list None t vs = refl
ends-list (Some n) t vs = refl

pub ends-chain : (k : Chain) (u : DataType) (vs : List Value) → IsEnd u
    → ends (chain_type k u) vs ≡ chain_ends k vs
ends-chain (close false) u vs e = ends-end u vs e
ends-chain (close true) u vs e = ends-end u (filter is_present vs) e
ends-chain (layer false c k) u vs e =
    ends-list c (chain_type k u) vs ∙ ends-chain k u (joined_items vs) e
ends-chain (layer true c k) u vs e =
    ends-list c (chain_type k u) (filter is_present vs)
    ∙ ap (ends (chain_type k u)) (joined-present vs) ∙ ends-chain k u (joined_items vs) e
