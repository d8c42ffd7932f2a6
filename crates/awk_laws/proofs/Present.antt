-- Items that are not null, and lists padded with nulls.
use Rattle.std.specs.Prelude.{◌≡◌, ℕ, zero, suc, ◌+◌, ◌-◌, ◌≤◌, max, Bool, true, false, cond}
use Rattle.std.specs.Prelude.{List, [], ◌∷◌, ◌++◌, length, map, filter, get_or, refl}
use Rattle.std.specs.List.{AllByRecursion, range_with_len}
use Rattle.std.proofs.Common.{arith, ap, ap₂, sym, ◌∙◌}
use Rattle.std.proofs.lemmas.List.{append-nil}
use Rattle.std.proofs.lemmas.List.FromFn.{fill_by_all, filter_of_map_range_with_len_more}
use Rattle.std.proofs.lemmas.List.FromFn.{length-map-range_with_len}
use Rattle.awk_types.specs.DataType.{DataType, unknown, leaf, var, reg, rec, tup, opt, uni}
use Rattle.awk_types.specs.Has.{Has}
use Rattle.awk_types.specs.Predicates.{is_null}
use Rattle.awk_types.specs.Simple.{IsSimple, is_option, present, simple_value, in_option}
use Rattle.awk_types.specs.Value.{Value, int, truth, null, list, row, alt}
use Rattle.awk_types.proofs.SimpleLaws.{value_stays, in_option_stays, null_in_option}
use Rattle.awk_columns.specs.Columns.{is_present, present_values, joined_items}
use Rattle.awk_padding.specs.PadNone.{padded, padded_length}
use Rattle.awk_nulls.specs.Singletons.{single_list}

-- ---- values that are not null

pub present-or_null : (v : Value) → is_null v ≡ false → is_present v ≡ true
present-or_null null e = cc
present-or_null (int z) e = refl
present-or_null (truth b) e = refl
present-or_null (list vs) e = refl
present-or_null (row vs) e = refl
present-or_null (alt k v) e = refl

-- no value of a type that is not optional is null
pub has_no_null : (t : DataType) (v : Value) → is_option t ≡ false → Has t v → is_null v ≡ false
has_no_null t null e h = let f : is_option t ≡ true = null_in_option t h in cc
has_no_null t (int z) e h = refl
has_no_null t (truth b) e h = refl
has_no_null t (list vs) e h = refl
has_no_null t (row vs) e h = refl
has_no_null t (alt k v) e h = refl

pub present-all : (t : DataType) (vs : List Value) → is_option t ≡ false
    → AllByRecursion (Has t) vs → present_values vs ≡ vs
present-all t [] e h = refl
present-all t (v ∷ vs) e h =
    ap (λ (b : Bool). cond b (v ∷ filter is_present vs) (filter is_present vs))
    (present-or_null v (has_no_null t v e h.0))
    ∙ ap (λ ws. v ∷ ws) (present-all t vs e h.1)

pub has_present : (t : DataType) (v : Value) → is_null v ≡ false → Has t v → Has (present t) v
has_present unknown v e h = h
has_present (leaf p) v e h = h
has_present (var t) v e h = h
has_present (reg n t) v e h = h
has_present (rec ns ts) v e h = h
has_present (tup ts) v e h = h
has_present (uni ts) v e h = h
has_present (opt t) null e h = cc
has_present (opt t) (int z) e h = h
has_present (opt t) (truth b) e h = h
has_present (opt t) (list vs) e h = h
has_present (opt t) (row vs) e h = h
has_present (opt t) (alt k v) e h = h

pub present_typed : (t : DataType) (vs : List Value) → AllByRecursion (Has t) vs
    → AllByRecursion (Has (present t)) (present_values vs)
present_typed t [] h = tt
present_typed t (null ∷ vs) h = present_typed t vs h.1
present_typed t (int z ∷ vs) h = (has_present t (int z) refl h.0, present_typed t vs h.1)
present_typed t (truth b ∷ vs) h = (has_present t (truth b) refl h.0, present_typed t vs h.1)
present_typed t (list ws ∷ vs) h = (has_present t (list ws) refl h.0, present_typed t vs h.1)
present_typed t (row ws ∷ vs) h = (has_present t (row ws) refl h.0, present_typed t vs h.1)
present_typed t (alt k v ∷ vs) h = (has_present t (alt k v) refl h.0, present_typed t vs h.1)

pub length-present : (vs : List Value) → length (present_values vs) ≤ length vs
length-present [] = omega arith
length-present (null ∷ vs) = omega (arith, length-present vs)
length-present (int z ∷ vs) = omega (arith, length-present vs)
length-present (truth b ∷ vs) = omega (arith, length-present vs)
length-present (list ws ∷ vs) = omega (arith, length-present vs)
length-present (row ws ∷ vs) = omega (arith, length-present vs)
length-present (alt k v ∷ vs) = omega (arith, length-present vs)

-- ---- lists padded

past : (vs : List Value) (j : ℕ) → length vs ≤ j → get_or vs j null ≡ null
past [] j p = refl
past (v ∷ vs) zero p = absurd (omega (arith, p))
past (v ∷ vs) (suc j) p = past vs j (omega (arith, p))

present-longer : (vs : List Value) (k : ℕ)
    → filter is_present (map (λ i. get_or vs i null) (range_with_len 0 (length vs + k)))
    ≡ present_values vs
present-longer vs zero =
    let e : length vs + 0 ≡ length vs = omega arith in
    ap (λ (n : ℕ). filter is_present (map (λ i. get_or vs i null) (range_with_len 0 n))) e
    ∙ ap (filter is_present)
    (sym (fill_by_all (λ i. get_or vs i null) vs (length vs) null refl (λ i p. refl)))
present-longer vs (suc k) =
    let n = length vs + k in
    let e : length vs + suc k ≡ n + 1 = omega arith in
    let here : is_present (get_or vs n null) ≡ false = ap is_present (past vs n (omega arith)) in
    let rest = filter is_present (map (λ i. get_or vs i null) (range_with_len 0 n)) in
    ap (λ (m : ℕ). filter is_present (map (λ i. get_or vs i null) (range_with_len 0 m))) e
    ∙ filter_of_map_range_with_len_more is_present (λ i. get_or vs i null) 0 n n (omega arith)
    ∙ ap (λ (b : Bool). rest ++ cond b (get_or vs n null ∷ []) []) here
    ∙ append-nil rest ∙ present-longer vs k

pub present-padded : (n : ℕ) (vs : List Value)
    → present_values (padded n false vs) ≡ present_values vs
present-padded n vs =
    let e : max n (length vs) ≡ length vs + (n - length vs) = omega arith in
    ap (λ (m : ℕ). filter is_present (map (λ i. get_or vs i null) (range_with_len 0 m))) e
    ∙ present-longer vs (n - length vs)

pub length-padded : (n : ℕ) (vs : List Value) → length (padded n false vs) ≡ max n (length vs)
length-padded n vs =
    length-map-range_with_len (λ i. get_or vs i null) 0 (padded_length n false (length vs))

item_stays : (t : DataType) (vs : List Value) (i : ℕ) → IsSimple t → AllByRecursion (Has t) vs
    → in_option (simple_value t) (get_or vs i null) ≡ get_or vs i null
item_stays t [] i s h = refl
item_stays t (v ∷ vs) zero s h = in_option_stays (simple_value t) v (value_stays t v s h.0)
item_stays t (v ∷ vs) (suc i) s h = item_stays t vs i s h.1

items_stay : (t : DataType) (vs : List Value) (a n : ℕ) → IsSimple t → AllByRecursion (Has t) vs
    → map (in_option (simple_value t)) (map (λ i. get_or vs i null) (range_with_len a n))
    ≡ map (λ i. get_or vs i null) (range_with_len a n)
items_stay t vs a zero s h = refl
items_stay t vs a (suc n) s h =
    ap₂ (λ x xs. x ∷ xs) (item_stays t vs a s h) (items_stay t vs (a + 1) n s h)

pub padded_stay : (n : ℕ) (t : DataType) (vs : List Value) → IsSimple t
    → AllByRecursion (Has t) vs
    → map (simple_value (opt t)) (padded n false vs) ≡ padded n false vs
padded_stay n t vs s h = items_stay t vs 0 (padded_length n false (length vs)) s h

-- ---- lists of at most one

pub joined-singles : (vs : List Value) → joined_items (map single_list vs) ≡ present_values vs
joined-singles [] = refl
joined-singles (null ∷ vs) = joined-singles vs
joined-singles (int z ∷ vs) = ap (λ ws. int z ∷ ws) (joined-singles vs)
joined-singles (truth b ∷ vs) = ap (λ ws. truth b ∷ ws) (joined-singles vs)
joined-singles (list us ∷ vs) = ap (λ ws. list us ∷ ws) (joined-singles vs)
joined-singles (row us ∷ vs) = ap (λ ws. row us ∷ ws) (joined-singles vs)
joined-singles (alt k v ∷ vs) = ap (λ ws. alt k v ∷ ws) (joined-singles vs)

single_typed : (t : DataType) (v : Value) → Has t v → Has (var (present t)) (single_list v)
single_typed t null h = tt
single_typed t (int z) h = (has_present t (int z) refl h, tt)
single_typed t (truth b) h = (has_present t (truth b) refl h, tt)
single_typed t (list us) h = (has_present t (list us) refl h, tt)
single_typed t (row us) h = (has_present t (row us) refl h, tt)
single_typed t (alt k v) h = (has_present t (alt k v) refl h, tt)

pub singles_typed : (t : DataType) (vs : List Value) → AllByRecursion (Has t) vs
    → AllByRecursion (Has (var (present t))) (map single_list vs)
singles_typed t [] h = tt
singles_typed t (v ∷ vs) h = (single_typed t v h.0, singles_typed t vs h.1)
