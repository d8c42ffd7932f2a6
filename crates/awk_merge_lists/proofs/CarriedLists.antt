-- Lists that are carried: only a list becomes a list, and its items are carried each by itself.
use Rattle.std.specs.Prelude.{◌≡◌, ◌<◌, ℕ, zero, suc, false, ◌∷◌, length, map, Some, None, refl}
use Rattle.std.proofs.Common.{arith, ap, sym, subst, ◌∙◌}
use Rattle.std.proofs.lemmas.List.{map-id}
use Rattle.std.specs.List.{AllByRecursion}
use Rattle.awk_types.specs.DataType.{DataType, unknown, leaf, var, reg, rec, tup, opt, uni}
use Rattle.awk_types.specs.Has.{Has}
use Rattle.awk_types.specs.Parts.{IsListType}
use Rattle.awk_types.specs.Simple.{is_option}
use Rattle.awk_types.specs.Value.{Value, Values, int, truth, null, list, row, alt, no_values, value}
use Rattle.awk_types.specs.Value.{value_list, values_from}
use Rattle.awk_types.proofs.Trees.{values_from-list}
use Rattle.awk_layout.specs.Item.{run}
use Rattle.awk_layout.specs.Layout.{Layout}
use Rattle.awk_layout.specs.Typing.{array_type, array_items}
use Rattle.awk_layout.specs.Valid.{len}
use Rattle.awk_gather.specs.Arrays.{array_item}
use Rattle.awk_columns.specs.ListClass.{Class, list_type}
use Rattle.awk_columns.proofs.ArrayLaws.{run_map}
use Rattle.awk_unify.specs.Carry.{Carry, keep, in_items, to_parts, to_alternatives, carried}
use Rattle.awk_merge_sides.specs.Lifts.{items_carry}
use Rattle.awk_merge_lists.specs.Lists.{AreListsOver}
use Rattle.awk_merge_sides.specs.Sides.{Side, Carries, IsSide}
use Rattle.awk_merge_sides.proofs.SideLaws.{item_has}

-- ---- lists among values

abbrev pub IsList : Value → Type 0
IsList (list vs) = Unit {0}
IsList (int z) = ⊥
IsList (truth b) = ⊥
IsList null = ⊥
IsList (row vs) = ⊥
IsList (alt k v) = ⊥

kept_list : (d : Class) (u : DataType) (v : Value) → Has (list_type d u) v → IsList v
kept_list None u (list vs) h = tt
kept_list None u (int z) h = absurd h
kept_list None u (truth b) h = absurd h
kept_list None u null h = absurd h
kept_list None u (row vs) h = absurd h
kept_list None u (alt k v) h = absurd h
kept_list (Some n) u (list vs) h = tt
kept_list (Some n) u (int z) h = absurd h
kept_list (Some n) u (truth b) h = absurd h
kept_list (Some n) u null h = absurd h
kept_list (Some n) u (row vs) h = absurd h
kept_list (Some n) u (alt k v) h = absurd h

-- what is carried to a list is one
pub carried_list : (f : Carry) (d : Class) (u : DataType) (v : Value)
    → Has (list_type d u) (carried f v) → IsList v
carried_list keep d u v h = kept_list d u v h
carried_list (in_items f) d u (list vs) h = tt
carried_list (in_items f) d u (int z) h = kept_list d u (int z) h
carried_list (in_items f) d u (truth b) h = kept_list d u (truth b) h
carried_list (in_items f) d u null h = kept_list d u null h
carried_list (in_items f) d u (row vs) h = kept_list d u (row vs) h
carried_list (in_items f) d u (alt k v) h = kept_list d u (alt k v) h
carried_list (to_parts ps fs) d u (list vs) h = tt
carried_list (to_parts ps fs) d u (int z) h = kept_list d u (int z) h
carried_list (to_parts ps fs) d u (truth b) h = kept_list d u (truth b) h
carried_list (to_parts ps fs) d u null h = kept_list d u null h
carried_list (to_parts ps fs) d u (row vs) h = kept_list d u (carried (to_parts ps fs) (row vs)) h
carried_list (to_parts ps fs) d u (alt k v) h = kept_list d u (alt k v) h
carried_list (to_alternatives ts fs) d u (list vs) h = tt
carried_list (to_alternatives ts fs) d u (int z) h =
    kept_list d u (carried (to_alternatives ts fs) (int z)) h
carried_list (to_alternatives ts fs) d u (truth b) h =
    kept_list d u (carried (to_alternatives ts fs) (truth b)) h
carried_list (to_alternatives ts fs) d u null h = kept_list d u null h
carried_list (to_alternatives ts fs) d u (row vs) h =
    kept_list d u (carried (to_alternatives ts fs) (row vs)) h
carried_list (to_alternatives ts fs) d u (alt k v) h =
    kept_list d u (carried (to_alternatives ts fs) (alt k v)) h

-- ---- types of lists

no_option : (t : DataType) (f : Carry) (d : Class) (u : DataType)
    → Carries t f (list_type d u) → is_option t ≡ false
no_option unknown f d u h = refl
no_option (leaf p) f d u h = refl
no_option (var t) f d u h = refl
no_option (reg n t) f d u h = refl
no_option (rec ns ts) f d u h = refl
no_option (tup ts) f d u h = refl
no_option (opt t) f d u h = absurd (carried_list f d u null (h null tt))
no_option (uni ts) f d u h = refl

list_typed : (t : DataType) (v : Value) → IsList v → Has t v → is_option t ≡ false → IsListType t
list_typed t (int z) l h e = absurd l
list_typed t (truth b) l h e = absurd l
list_typed t null l h e = absurd l
list_typed t (row vs) l h e = absurd l
list_typed t (alt k v) l h e = absurd l
list_typed unknown (list vs) l h e = absurd h
list_typed (leaf p) (list vs) l h e = absurd h
list_typed (var t) (list vs) l h e = tt
list_typed (reg n t) (list vs) l h e = tt
list_typed (rec ns ts) (list vs) l h e = absurd h
list_typed (tup ts) (list vs) l h e = absurd h
list_typed (opt t) (list vs) l h e = cc
list_typed (uni ts) (list vs) l h e = absurd h

-- a column whose values become lists is one of lists
pub side_lists : (d : Class) (u : DataType) (s : Side) → IsSide (list_type d u) s
    → AllByRecursion (Has (array_type s.column)) (array_items s.column)
    → IsListType (array_type s.column)
side_lists d u s h all =
    let v = array_item s.column 0 in
    let has : Has (array_type s.column) v = item_has s.column 0 all h.some in
    list_typed (array_type s.column) v (carried_list s.carry d u v (h.values v has)) has
    (no_option (array_type s.column) s.carry d u h.values)

-- ---- the items of a list

same_items : (vs : Values) → list vs ≡ list (values_from (map (carried keep) (value_list vs)))
same_items vs =
    sym (ap (λ ws. list (values_from ws)) (map-id (value_list vs)) ∙ ap list (values_from-list vs))

-- each item is carried by itself
pub carried-list : (f : Carry) (d : Class) (u : DataType) (vs : Values)
    → Has (list_type d u) (carried f (list vs))
    → carried f (list vs) ≡ list (values_from (map (carried (items_carry f)) (value_list vs)))
carried-list keep d u vs h = same_items vs
carried-list (in_items f) d u vs h = refl
carried-list (to_parts ps fs) d u vs h = same_items vs
carried-list (to_alternatives ts fs) d u vs h =
    absurd (kept_list d u (carried (to_alternatives ts fs) (list vs)) h)

pub carried-run : (f : Carry) (d : Class) (u : DataType) (h : ℕ → Value) (a n : ℕ)
    → Has (list_type d u) (carried f (list (run h a n)))
    → carried f (list (run h a n)) ≡ list (run (λ k. carried (items_carry f) (h k)) a n)
carried-run f d u h a n has =
    carried-list f d u (run h a n) has
    ∙ ap (λ vs. list (values_from vs)) (run_map (carried (items_carry f)) h a n)
    ∙ ap list (values_from-list (run (λ k. carried (items_carry f) (h k)) a n))

items_have : (d : Class) (u : DataType) (vs : Values) → Has (list_type d u) (list vs)
    → AllByRecursion (Has u) (value_list vs)
items_have None u vs h = h
items_have (Some n) u vs h = h.1

abbrev copies : Value → ℕ → Values
copies v zero = no_values
copies v (suc n) = value v (copies v n)

length-copies : (v : Value) (n : ℕ) → length (value_list (copies v n)) ≡ n
length-copies v zero = refl
length-copies v (suc n) = ap suc (length-copies v n)

all-copies : (P : Value → Type 0) (v : Value) (n : ℕ) → P v
    → AllByRecursion P (value_list (copies v n))
all-copies P v zero h = tt
all-copies P v (suc n) h = (h, all-copies P v n h)

-- the first item of a carried list
first_has : (f : Carry) (d : Class) (u : DataType) (v : Value) (vs : Values)
    → Has (list_type d u) (carried f (list (value v vs))) → Has u (carried (items_carry f) v)
first_has f d u v vs h =
    let g = carried (items_carry f) in
    let whole : Has (list_type d u) (list (values_from (map g (v ∷ value_list vs)))) =
    subst (Has (list_type d u)) (carried-list f d u (value v vs) h) h in
    (items_have d u (values_from (map g (v ∷ value_list vs))) whole).0

-- what carries lists carries their items, unless the lists can hold none
pub items_carried : (c d : Class) (a u : DataType) (f : Carry) → (c ≡ Some 0 → ⊥)
    → Carries (list_type c a) f (list_type d u) → Carries a (items_carry f) u
items_carried None d a u f some h =
    λ v k. first_has f d u v no_values (h (list (value v no_values)) (k, tt))
items_carried (Some zero) d a u f some h = absurd (some refl)
items_carried (Some (suc n)) d a u f some h =
    λ v k. first_has f d u v (copies v n) (h (list (copies v (suc n)))
    (length-copies v (suc n), all-copies (Has a) v (suc n) k))

-- a content's items are carried
pub over_carried : (d : Class) (u : DataType) (s : Side) (y : Layout) → IsSide (list_type d u) s
    → AreListsOver s.column y → 0 < len y → Carries (array_type y) (items_carry s.carry) u
over_carried d u s y h o some =
    items_carried o.class d (array_type y) u s.carry (λ e. omega (arith, some, o.none e))
    (subst (λ t. Carries t s.carry (list_type d u)) o.typ h.values)

-- ---- runs
