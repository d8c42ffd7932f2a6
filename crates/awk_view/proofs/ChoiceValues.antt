-- A choice of fields of a value, by the type of a layout, is the choice of its simple value by the
-- simple type.
use Rattle.std.proofs.Common.{◌≡◌, ℕ, zero, suc, ◌+◌, ◌<◌, Bool, true, false, List, [], ◌∷◌, ◌++◌}
use Rattle.std.proofs.Common.{map, length, Option, Some, None, get_or, if◌then◌else◌, refl, ap, ap₂}
use Rattle.std.proofs.Common.{◌∙◌, sym, arith, length-append}
use Rattle.std.specs.List.{list_any, flat_map, AllByRecursion}
use Rattle.std.specs.Option.{option_map}
use Rattle.std.proofs.lemmas.Simd.{map-map}
use Rattle.awk_types.specs.DataType.{Name, DataType, unknown, leaf, var, reg, rec, tup, opt, uni}
use Rattle.awk_types.specs.DataType.{DataTypes, no_types, type, types_from, type_list, row_type}
use Rattle.awk_types.specs.Value.{Value, null, list, row, alt, Values, value_list, values_from}
use Rattle.awk_types.specs.Names.{same_name, place_of}
use Rattle.awk_types.specs.Has.{Has, HasRow, HasAlternative}
use Rattle.awk_types.specs.IsType.{count}
use Rattle.awk_types.specs.Simple.{IsSimple, AreSimple, present, option_if, is_option, alternatives}
use Rattle.awk_types.specs.Simple.{present_alternatives, union_of, simple, simples, in_list}
use Rattle.awk_types.specs.Simple.{in_option, value_by, values_by, alternatives_before, value_after}
use Rattle.awk_types.specs.Simple.{simple_value, simple_values}
use Rattle.awk_types.proofs.SimpleLaws.{inner_tag, inner_value, is_null, simples_are_simple}
use Rattle.awk_types.proofs.SimpleLaws.{has_simples, has_simple_alternative, values_stay}
use Rattle.awk_types.proofs.SimpleLaws.{value_after_alternative}
use Rattle.awk_types.proofs.Trees.{type_list-from, value_list-from, values_from-list}
use Rattle.awk_view.specs.Choice.{Choice, field, fields, without, row_names, beside, apart_from}
use Rattle.awk_view.specs.Choice.{row_type_of, type_of_choice, types_of_choice, chosen_type}
use Rattle.awk_view.specs.Choice.{in_row_of, value_of_choice, values_of_choice, chosen_value}
use Rattle.awk_types.proofs.NullLaws.{simple_value-null, in_option-same}
use Rattle.awk_types.proofs.HasLaws.{tag_within}
use Rattle.awk_view.proofs.TypeWalks.{part_gives}
use Rattle.awk_view.proofs.ChoiceTypes.{count-simples, chosen_alternatives, chosen_union}
use Rattle.awk_view.proofs.ChoiceTypes.{chosen_types-simple}

-- ---- null stays null

in_row_of-null : (c : Choice) (names : List Name) → in_row_of c names null ≡ null
in_row_of-null (field k) names = refl
in_row_of-null (fields ks) names = refl
in_row_of-null (without k) names = refl

pub value_of_choice-null : (c : Choice) (t : DataType) → value_of_choice c t null ≡ null
value_of_choice-null c unknown = refl
value_of_choice-null c (leaf p) = refl
value_of_choice-null c (var t) = refl
value_of_choice-null c (reg n t) = refl
value_of_choice-null c (rec ns ts) = in_row_of-null c ns
value_of_choice-null c (tup ts) = in_row_of-null c (row_names None (count ts))
value_of_choice-null c (opt t) = refl
value_of_choice-null c (uni ts) = refl

chosen_value-null : (c : Choice) (t : DataType) → chosen_value c t null ≡ null
chosen_value-null c t =
    ap (simple_value (type_of_choice c t)) (value_of_choice-null c t) ∙ simple_value-null
    (type_of_choice c t)

-- ---- an option's choice is that of what it holds

chosen_value-opt : (c : Choice) (t : DataType) (v : Value)
    → chosen_value c (opt t) v ≡ chosen_value c t v
chosen_value-opt c t v =
    in_option-same (simple_value (type_of_choice c t)) (simple_value-null (type_of_choice c t))
    (in_option (value_of_choice c t) v)
    ∙ ap (simple_value (type_of_choice c t)) (in_option-same (value_of_choice c t)
    (value_of_choice-null c t) v)

chosen_value-present : (c : Choice) (t : DataType) (v : Value)
    → chosen_value c (present t) v ≡ chosen_value c t v
chosen_value-present c (opt t) v = sym (chosen_value-opt c t v)
chosen_value-present c unknown v = refl
chosen_value-present c (leaf p) v = refl
chosen_value-present c (var t) v = refl
chosen_value-present c (reg n t) v = refl
chosen_value-present c (rec ns ts) v = refl
chosen_value-present c (tup ts) v = refl
chosen_value-present c (uni ts) v = refl

chosen_value-option_if : (c : Choice) (b : Bool) (t : DataType) (v : Value)
    → chosen_value c (option_if b t) v ≡ chosen_value c t v
chosen_value-option_if c true t v = chosen_value-opt c t v
chosen_value-option_if c false t v = refl

-- ---- values of unions

value_after_twice : (n b : ℕ) (v : Value) → value_after n (value_after b v) ≡ value_after (n + b) v
value_after_twice n b null = refl
value_after_twice n b (alt j v) =
    let e : n + (b + j) ≡ n + b + j = omega arith in ap (λ (m : ℕ). alt m v) e
value_after_twice n b v = refl

-- of the k-th of these types a value, chosen and placed in the union of what all give
abbrev placed : Choice → List DataType → ℕ → Value → Value
placed c ts k v =
    value_after (alternatives_before (map (chosen_type c) ts) k)
    (value_by (map (chosen_value c) ts) k v)

placed-suc : (c : Choice) (t : DataType) (ts : List DataType) (k : ℕ) (v : Value)
    → placed c (t ∷ ts) (suc k) v ≡ value_after (length (present_alternatives (chosen_type c t)))
    (placed c ts k v)
placed-suc c t ts k v =
    sym (value_after_twice (length (present_alternatives (chosen_type c t)))
    (alternatives_before (map (chosen_type c) ts) k) (value_by (map (chosen_value c) ts) k v))

placed-after_0 : (c : Choice) (ts : List DataType) (k : ℕ) (v : Value)
    → value_after 0 (placed c ts k v) ≡ placed c ts k v
placed-after_0 c ts k v =
    let b : ℕ = alternatives_before (map (chosen_type c) ts) k in
    let e : 0 + b ≡ b = omega arith in
    value_after_twice 0 b (value_by (map (chosen_value c) ts) k v) ∙ ap
    (λ (m : ℕ). value_after m (value_by (map (chosen_value c) ts) k v)) e

placed-null : (c : Choice) (ts : List DataType) (k : ℕ) → placed c ts k null ≡ null
placed-null c ts k = ap (value_after (alternatives_before (map (chosen_type c) ts) k)) (at c ts k)
  where
    at : (c : Choice) (ts : List DataType) (k : ℕ)
        → value_by (map (chosen_value c) ts) k null ≡ null
    at c [] k = refl
    at c (t ∷ ts) zero = chosen_value-null c t
    at c (t ∷ ts) (suc k) = at c ts k

-- among more types, before and behind
placed-left : (c : Choice) (ts us : List DataType) (k : ℕ) (v : Value) → k < length ts
    → placed c (ts ++ us) k v ≡ placed c ts k v
placed-left c [] us k v h = absurd (omega arith)
placed-left c (t ∷ ts) us zero v h = refl
placed-left c (t ∷ ts) us (suc k) v h =
    placed-suc c t (ts ++ us) k v
    ∙ ap (value_after (length (present_alternatives (chosen_type c t))))
    (placed-left c ts us k v (omega arith))
    ∙ sym (placed-suc c t ts k v)

placed-right : (c : Choice) (ts us : List DataType) (k : ℕ) (v : Value)
    → placed c (ts ++ us) (length ts + k) v ≡ value_after
    (length (flat_map present_alternatives (map (chosen_type c) ts))) (placed c us k v)
placed-right c [] us k v =
    let e : 0 + k ≡ k = omega arith in ap (λ (m : ℕ). placed c us m v) e ∙ sym
    (placed-after_0 c us k v)
placed-right c (t ∷ ts) us k v =
    let n : ℕ = length (present_alternatives (chosen_type c t)) in
    let m : ℕ = length (flat_map present_alternatives (map (chosen_type c) ts)) in
    let e : suc (length ts) + k ≡ suc (length ts + k) = omega arith in
    let f : n + m ≡ length (flat_map present_alternatives (map (chosen_type c) (t ∷ ts))) = sym
    (length-append (present_alternatives (chosen_type c t))
    (flat_map present_alternatives (map (chosen_type c) ts))) in
    ap (λ (m : ℕ). placed c (t ∷ (ts ++ us)) m v) e
    ∙ placed-suc c t (ts ++ us) (length ts + k) v
    ∙ ap (value_after n) (placed-right c ts us k v)
    ∙ value_after_twice n m (placed c us k v)
    ∙ ap (λ (a : ℕ). value_after a (placed c us k v)) f

-- a union's value is the placed value of its alternative
value_of_each : (c : Choice) (ts : DataTypes) (k : ℕ) (v : Value)
    → value_by (simple_values (types_from (types_of_choice c ts))) k
    (value_by (values_of_choice c ts) k v) ≡ value_by (map (chosen_value c) (type_list ts)) k v
value_of_each c no_types k v = refl
value_of_each c (type t ts) zero v = refl
value_of_each c (type t ts) (suc k) v = value_of_each c ts k v

chosen_value-uni : (c : Choice) (ts : DataTypes) (k : ℕ) (v : Value)
    → chosen_value c (uni ts) (alt k v) ≡ placed c (type_list ts) k v
chosen_value-uni c ts k v =
    ap₂ (λ us w. value_after (alternatives_before us k) w) (chosen_alternatives c ts)
    (value_of_each c ts k v)

-- ---- what a simple type gives to a union

alternatives_placed : (c : Choice) (t : DataType) (us : List DataType) (w : Value)
    → is_option t ≡ false → Has t w
    → placed c (alternatives t ++ us) (inner_tag w) (inner_value w) ≡ value_after 0
    (chosen_value c t w)
alternatives_placed c (uni ts) us (alt k v) e h =
    placed-left c (type_list ts) us k v (tag_within ts k v h)
    ∙ sym (placed-after_0 c (type_list ts) k v)
    ∙ ap (value_after 0) (sym (chosen_value-uni c ts k v))
alternatives_placed c (uni ts) us w e h = absurd h
alternatives_placed c (opt t) us w e h = cc
alternatives_placed c t us (alt k v) e h = absurd h
alternatives_placed c t us w e h = refl

part_placed : (c : Choice) (t : DataType) (us : List DataType) (w : Value) → IsSimple t → Has t w
    → is_null w ≡ false
    → placed c (present_alternatives t ++ us) (inner_tag w) (inner_value w) ≡ value_after 0
    (chosen_value c t w)
part_placed c (opt t) us null s h e = cc
part_placed c (opt t) us w s h e =
    alternatives_placed c t us w s.0 h ∙ ap (value_after 0) (sym (chosen_value-opt c t w))
part_placed c t us w s h e = alternatives_placed c t us w refl h

flat_placed : (c : Choice) (ts : List DataType) (k : ℕ) (w : Value) → AreSimple (types_from ts)
    → HasAlternative (types_from ts) k w → is_null w ≡ false
    → placed c (flat_map present_alternatives ts) (alternatives_before ts k + inner_tag w)
    (inner_value w) ≡ placed c ts k w
flat_placed c [] k w s h e = absurd h
flat_placed c (t ∷ ts) zero w s h e =
    let f : 0 + inner_tag w ≡ inner_tag w = omega arith in
    ap (λ (m : ℕ). placed c (present_alternatives t ++ flat_map present_alternatives ts) m
    (inner_value w)) f
    ∙ part_placed c t (flat_map present_alternatives ts) w s.0 h e
flat_placed c (t ∷ ts) (suc k) w s h e =
    let f : length (present_alternatives t) + alternatives_before ts k + inner_tag w ≡ length
    (present_alternatives t) + (alternatives_before ts k + inner_tag w) = omega arith in
    ap (λ (m : ℕ). placed c (present_alternatives t ++ flat_map present_alternatives ts) m
    (inner_value w)) f
    ∙ placed-right c (present_alternatives t) (flat_map present_alternatives ts)
    (alternatives_before ts k + inner_tag w) (inner_value w)
    ∙ ap₂ (λ us v. value_after (length us) v) (part_gives (chosen_type c) (λ t. refl)
    (chosen_union c) t) (flat_placed c ts k w s.1 h e)
    ∙ sym (placed-suc c t ts k w)

-- a value of the simple union
union_placed : (c : Choice) (ts : List DataType) (k : ℕ) (w : Value) → AreSimple (types_from ts)
    → HasAlternative (types_from ts) k w
    → chosen_value c (union_of ts) (value_after (alternatives_before ts k) w) ≡ placed c ts k w
union_placed c ts k w s h =
    chosen_value-option_if c (list_any is_option ts)
    (uni (types_from (flat_map present_alternatives ts)))
    (value_after (alternatives_before ts k) w)
    ∙ by w h (is_null w) refl
  where
    by : (w : Value) → HasAlternative (types_from ts) k w → (b : Bool) → is_null w ≡ b
        → chosen_value c (uni (types_from (flat_map present_alternatives ts)))
        (value_after (alternatives_before ts k) w) ≡ placed c ts k w
    by null h b e = sym (placed-null c ts k)
    by w h true e = cc
    by w h false e =
        ap (chosen_value c (uni (types_from (flat_map present_alternatives ts))))
        (value_after_alternative (alternatives_before ts k) w e)
        ∙ chosen_value-uni c (types_from (flat_map present_alternatives ts))
        (alternatives_before ts k + inner_tag w) (inner_value w)
        ∙ ap (λ us. placed c us (alternatives_before ts k + inner_tag w) (inner_value w))
        (type_list-from (flat_map present_alternatives ts))
        ∙ flat_placed c ts k w s h e

-- ---- values of lists

in_list-in_list : (g f : Value → Value) (v : Value)
    → in_list g (in_list f v) ≡ in_list (λ v. g (f v)) v
in_list-in_list g f (list vs) =
    ap (λ ws. list (values_from ws)) (ap (map g) (value_list-from (map f (value_list vs))) ∙ map-map
    g f (value_list vs))
in_list-in_list g f v = refl

list_same : (t : DataType) (g f : Value → Value) → ((v : Value) → Has t v → g v ≡ f v)
    → (vs : List Value) → AllByRecursion (Has t) vs → map g vs ≡ map f vs
list_same t g f each [] h = refl
list_same t g f each (v ∷ vs) h = ap₂ (λ w ws. w ∷ ws) (each v h.0) (list_same t g f each vs h.1)

-- the same of a list, where it is the same of each of its items
list_chosen : (c : Choice) (t : DataType)
    → ((v : Value) → Has t v → chosen_value c (simple t) (simple_value t v) ≡ chosen_value c t v)
    → (vs : Values) → AllByRecursion (Has t) (value_list vs)
    → in_list (simple_value (type_of_choice c (simple t)))
    (in_list (value_of_choice c (simple t)) (in_list (simple_value t) (list vs))) ≡ in_list
    (simple_value (type_of_choice c t)) (in_list (value_of_choice c t) (list vs))
list_chosen c t each vs h =
    in_list-in_list (simple_value (type_of_choice c (simple t))) (value_of_choice c (simple t))
    (in_list (simple_value t) (list vs))
    ∙ in_list-in_list (chosen_value c (simple t)) (simple_value t) (list vs)
    ∙ ap (λ ws. list (values_from ws)) (list_same t
    (λ v. chosen_value c (simple t) (simple_value t v)) (chosen_value c t) each (value_list vs)
    h)
    ∙ sym (in_list-in_list (simple_value (type_of_choice c t)) (value_of_choice c t) (list vs))

-- ---- values of rows

value_at : (ts : DataTypes) (vs : List Value) (p : ℕ) → HasRow ts vs
    → simple_value (get_or (type_list ts) p unknown) (get_or vs p null) ≡ get_or
    (values_by (simple_values ts) vs) p null
value_at no_types [] p h = refl
value_at no_types (v ∷ vs) p h = absurd h
value_at (type t ts) [] p h = absurd h
value_at (type t ts) (v ∷ vs) zero h = refl
value_at (type t ts) (v ∷ vs) (suc p) h = value_at ts vs p h.1

values_at : (ks names : List Name) (ts : DataTypes) (vs : List Value) → HasRow ts vs →
    values_by (simple_values (types_from (map (λ k. beside unknown k names (type_list ts)) ks)))
    (map (λ k. beside null k names vs) ks) ≡ map
    (λ k. beside null k names (values_by (simple_values ts) vs)) ks
values_at [] names ts vs h = refl
values_at (k ∷ ks) names ts vs h =
    ap₂ (λ w ws. w ∷ ws) (value_at ts vs (place_of k names) h) (values_at ks names ts vs h)

values_apart : (k : Name) (names : List Name) (ts : DataTypes) (vs : List Value) → HasRow ts vs →
    values_by (simple_values (types_from (apart_from k names (type_list ts))))
    (apart_from k names vs) ≡ apart_from k names (values_by (simple_values ts) vs)
values_apart k [] ts vs h = refl
values_apart k (m ∷ ms) no_types [] h = refl
values_apart k (m ∷ ms) no_types (v ∷ vs) h = absurd h
values_apart k (m ∷ ms) (type t ts) [] h = absurd h
values_apart k (m ∷ ms) (type t ts) (v ∷ vs) h = by (same_name m k) (values_apart k ms ts vs h.1)
  where
    by : (b : Bool)
        → values_by (simple_values (types_from (apart_from k ms (type_list ts))))
        (apart_from k ms vs) ≡ apart_from k ms (values_by (simple_values ts) vs)
        → values_by (simple_values (types_from
        (if b then apart_from k ms (type_list ts) else t ∷ apart_from k ms (type_list ts))))
        (if b then apart_from k ms vs else v ∷ apart_from k ms vs)
        ≡ (if b then apart_from k ms (values_by (simple_values ts) vs) else simple_value t v ∷
        apart_from k ms (values_by (simple_values ts) vs))
    by true e = e
    by false e = ap (λ ws. simple_value t v ∷ ws) e

row_over : (names : Option (List Name)) (ts : List DataType) (vs : List Value)
    → simple_value (row_type names (types_from ts)) (row (values_from vs)) ≡ row
    (values_from (values_by (simple_values (types_from ts)) vs))
row_over None ts vs =
    ap (λ ws. row (values_from (values_by (simple_values (types_from ts)) ws))) (value_list-from vs)
row_over (Some names) ts vs =
    ap (λ ws. row (values_from (values_by (simple_values (types_from ts)) ws))) (value_list-from vs)

-- of a row, one may simplify before or after
row_simple : (c : Choice) (names : Option (List Name)) (ts : DataTypes) (vs : List Value)
    → HasRow ts vs →
    simple_value (row_type_of c names (type_list ts))
    (in_row_of c (row_names names (count ts)) (row (values_from vs)))
    ≡ in_row_of c (row_names names (count ts)) (row (values_from (values_by (simple_values ts) vs)))
row_simple (field k) names ts vs h =
    ap (λ ws. simple_value (beside unknown k (row_names names (count ts)) (type_list ts))
    (beside null k (row_names names (count ts)) ws)) (value_list-from vs)
    ∙ value_at ts vs (place_of k (row_names names (count ts))) h
    ∙ sym (ap (beside null k (row_names names (count ts)))
    (value_list-from (values_by (simple_values ts) vs)))
row_simple (fields ks) names ts vs h =
    row_over (option_map (λ _. ks) names) (map
    (λ k. beside unknown k (row_names names (count ts)) (type_list ts)) ks)
    (map (λ k. beside null k (row_names names (count ts)) (value_list (values_from vs))) ks)
    ∙ ap (λ ws. row (values_from (values_by (simple_values
    (types_from (map (λ k. beside unknown k (row_names names (count ts)) (type_list ts)) ks)))
    (map (λ k. beside null k (row_names names (count ts)) ws) ks)))) (value_list-from vs)
    ∙ ap (λ ws. row (values_from ws)) (values_at ks (row_names names (count ts)) ts vs h)
    ∙ sym (ap (λ ws. row (values_from (map (λ k. beside null k (row_names names (count ts)) ws)
    ks))) (value_list-from (values_by (simple_values ts) vs)))
row_simple (without k) names ts vs h =
    row_over (option_map (λ ns. apart_from k ns ns) names)
    (apart_from k (row_names names (count ts)) (type_list ts))
    (apart_from k (row_names names (count ts)) (value_list (values_from vs)))
    ∙ ap (λ ws. row (values_from (values_by (simple_values
    (types_from (apart_from k (row_names names (count ts)) (type_list ts))))
    (apart_from k (row_names names (count ts)) ws)))) (value_list-from vs)
    ∙ ap (λ ws. row (values_from ws)) (values_apart k (row_names names (count ts)) ts vs h)
    ∙ sym (ap (λ ws. row (values_from (apart_from k (row_names names (count ts)) ws)))
    (value_list-from (values_by (simple_values ts) vs)))

-- so the record with simple fields gives the same
row_chosen : (c : Choice) (names : Option (List Name)) (ts : DataTypes) (vs : List Value)
    → HasRow ts vs →
    simple_value (row_type_of c names (type_list (types_from (simples ts))))
    (in_row_of c (row_names names (count (types_from (simples ts))))
    (row (values_from (values_by (simple_values ts) vs))))
    ≡ simple_value (row_type_of c names (type_list ts))
    (in_row_of c (row_names names (count ts)) (row (values_from vs)))
row_chosen c names ts vs h =
    row_simple c names (types_from (simples ts)) (values_by (simple_values ts) vs)
    (has_simples ts vs h)
    ∙ ap₂ (λ n ws. in_row_of c (row_names names n) (row (values_from ws))) (count-simples ts)
    (values_stay (types_from (simples ts)) (values_by (simple_values ts) vs)
    (simples_are_simple ts) (has_simples ts vs h))
    ∙ sym (row_simple c names ts vs h)

-- ---- all of them

mutual
  pub chosen_value-simple : (c : Choice) (t : DataType) (v : Value) → Has t v
      → chosen_value c (simple t) (simple_value t v) ≡ chosen_value c t v
  chosen_value-simple c unknown v h = refl
  chosen_value-simple c (leaf p) v h = refl
  chosen_value-simple c (var t) (list vs) h = list_chosen c t (chosen_value-simple c t) vs h
  chosen_value-simple c (var t) v h = absurd h
  chosen_value-simple c (reg n t) (list vs) h = list_chosen c t (chosen_value-simple c t) vs h.1
  chosen_value-simple c (reg n t) v h = absurd h
  chosen_value-simple c (rec names ts) (row vs) h =
      row_chosen c (Some names) ts (value_list vs) h
      ∙ ap (λ ws. simple_value (row_type_of c (Some names) (type_list ts))
      (in_row_of c names (row ws))) (values_from-list vs)
  chosen_value-simple c (rec names ts) v h = absurd h
  chosen_value-simple c (tup ts) (row vs) h =
      row_chosen c None ts (value_list vs) h
      ∙ ap (λ ws. simple_value (row_type_of c None (type_list ts))
      (in_row_of c (row_names None (count ts)) (row ws))) (values_from-list vs)
  chosen_value-simple c (tup ts) v h = absurd h
  chosen_value-simple c (opt t) null h =
      chosen_value-null c (simple (opt t)) ∙ sym (chosen_value-null c (opt t))
  chosen_value-simple c (opt t) v h =
      chosen_value-opt c (present (simple t)) (simple_value t v)
      ∙ chosen_value-present c (simple t) (simple_value t v)
      ∙ chosen_value-simple c t v h
      ∙ sym (chosen_value-opt c t v)
  chosen_value-simple c (uni ts) (alt k v) h =
      union_placed c (simples ts) k (value_by (simple_values ts) k v) (simples_are_simple ts)
      (has_simple_alternative ts k v h)
      ∙ ap₂ (λ us w. value_after (alternatives_before us k) w) (chosen_types-simple c ts)
      (chosen_values-simple c ts k v h)
      ∙ sym (chosen_value-uni c ts k v)
  chosen_value-simple c (uni ts) v h = absurd h

  pub chosen_values-simple : (c : Choice) (ts : DataTypes) (k : ℕ) (v : Value)
      → HasAlternative ts k v
      → value_by (map (chosen_value c) (simples ts)) k (value_by (simple_values ts) k v) ≡ value_by
      (map (chosen_value c) (type_list ts)) k v
  chosen_values-simple c no_types k v h = absurd h
  chosen_values-simple c (type t ts) zero v h = chosen_value-simple c t v h
  chosen_values-simple c (type t ts) (suc k) v h = chosen_values-simple c ts k v h
