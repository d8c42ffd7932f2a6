-- What sums of innermost lists add up to, list by list.
use Rattle.std.specs.Prelude.{◌≡◌, ℤ, ◌+ℤ◌, Bool, true, false, List, [], ◌∷◌, ◌++◌, map, length}
use Rattle.std.specs.Prelude.{None, Some, option_map, Ok, refl, if◌then◌else◌}
use Rattle.std.specs.List.{AllByRecursion, flat_map}
use Rattle.std.proofs.Common.{ap, ap₂, sym, ◌∙◌}
use Rattle.std.proofs.lemmas.List.{map-append}
use Rattle.std.proofs.lemmas.Simd.{map-map}
use Rattle.awk_base.proofs.Every.{all-impl}
use Rattle.awk_base.proofs.Lists.{map-each}
use Rattle.awk_types.specs.DataType.{DataType, unknown, leaf, var, reg, rec, tup, opt, uni}
use Rattle.awk_types.specs.Datum.{Datum, arr, one, datum_type}
use Rattle.awk_types.specs.Faults.{limit_fault}
use Rattle.awk_types.specs.Gives.{◌or◌}
use Rattle.awk_types.specs.Has.{Has}
use Rattle.awk_types.specs.Limit.{limit}
use Rattle.awk_types.specs.Predicates.{is_leaf}
use Rattle.awk_types.specs.Simple.{IsSimple, is_option, present, simple, simple_value, in_list}
use Rattle.awk_types.specs.Simple.{in_option}
use Rattle.awk_types.specs.Value.{Value, int, truth, null, list, row, alt, value_list, values_from}
use Rattle.awk_types.specs.declared.primitive.Primitive.{Primitive}
use Rattle.awk_types.proofs.RefusalLaws.{refused_or-Ok, or-both}
use Rattle.awk_types.proofs.SimpleLaws.{present_stays}
use Rattle.awk_types.proofs.Trees.{value_list-from}
use Rattle.awk_types.proofs.NullLaws.{in_option-simple}
use Rattle.awk_kernels.specs.Kernels.{total}
use Rattle.awk_list_functions.specs.Causes.{first_spoil}
use Rattle.awk_list_functions.specs.Lift.{lifted_type, lifted_value, on_list, refusal_at}
use Rattle.awk_list_functions.specs.Lifting.{on_items, on_whole, refusal_fault, spoil_fault}
use Rattle.awk_list_functions.specs.Lifting.{first_told}
use Rattle.awk_list_functions.specs.ListFunction.{ListFunction}
use Rattle.awk_list_functions.specs.Spoils.{spoil_at, too_many}
use Rattle.awk_list_functions.specs.declared.place.Reach.TheVariants.{Innermost}
use Rattle.awk_columns.specs.Columns.{joined_items, list_items, list_of}
use Rattle.awk_columns.specs.ListClass.{Class, list_type}
use Rattle.awk_pair_operands.specs.Typed.{IsTyped}
use Rattle.awk_present.specs.Numbers.{leaf_of, numbers}
use Rattle.awk_reduce.specs.Reduce.{reduce_of, reducer_function}
use Rattle.awk_reduce.specs.Reducers.{wide}
use Rattle.awk_reduce.specs.declared.reducer.Reducer.TheVariants.{Sum}
use Rattle.awk_law_chains.specs.Innermost.{innermost_lists, lists_in}
use Rattle.awk_law_chains.proofs.ChainEnds.{list-at, option-at}
use Rattle.awk_law_chains.proofs.Chains.{is_lists, items-in_list}
use Rattle.awk_law_chains.proofs.Limits.{none_map}
use Rattle.awk_number_laws.specs.Reducers.{holds_leaves, joined_in, joined_lists}
use Rattle.awk_number_laws.proofs.InnermostLists.{inside, lists_null}
use Rattle.awk_number_laws.proofs.NumberLaws.{numbers-append}
use Rattle.awk_number_laws.proofs.SumLaws.{total-append}

abbrev f : ListFunction
f = reducer_function Sum

abbrev type_in : DataType → DataType
type_in t = lifted_type f.giving Innermost t

abbrev value_in : DataType → Value → Value
value_in t v = lifted_value f.giving Innermost t v

abbrev IsReached : DataType → Type 0
IsReached t = refusal_at f Innermost t ≡ None

below : (t : DataType) → is_leaf (present t) ≡ false
    → (if is_leaf (present t) then f.refusal t else refusal_at f Innermost t) ≡ None → IsReached t
below t e r = inside (f.refusal t) (refusal_at f Innermost t) (is_leaf (present t)) e r

abbrev added : List Value → ℤ
added l = total (numbers l)

-- the sum of a list, and null as it is
abbrev sum_in : Value → Value
sum_in v = on_list (λ l. int (added l)) v

-- ---- types

bare_if : (b : Bool) (p : Primitive) (c : Class) (u : DataType)
    → is_leaf (if b then leaf p else list_type c u) ≡ b
bare_if true p c u = refl
bare_if false p None u = refl
bare_if false p (Some n) u = refl

bare_made : (t : DataType) → IsReached t → is_leaf (type_in t) ≡ holds_leaves t
bare_made (var t) r = bare_if (is_leaf (present t)) (wide (leaf_of t)) None (type_in t)
bare_made (reg n t) r = bare_if (is_leaf (present t)) (wide (leaf_of t)) (Some n) (type_in t)
bare_made (opt t) r = refl
bare_made unknown r = cc
bare_made (leaf p) r = cc
bare_made (rec ns ts) r = cc
bare_made (tup ts) r = cc
bare_made (uni ts) r = cc

present_if : (b : Bool) (p : Primitive) (c : Class) (u : DataType)
    → is_leaf (present (if b then leaf p else list_type c u)) ≡ b
present_if true p c u = refl
present_if false p None u = refl
present_if false p (Some n) u = refl

-- sums stand at leaves where lists of leaves stood
leaf_made : (t : DataType) → IsReached t → is_leaf (present (type_in t)) ≡ holds_leaves (present t)
leaf_made (var t) r = present_if (is_leaf (present t)) (wide (leaf_of t)) None (type_in t)
leaf_made (reg n t) r = present_if (is_leaf (present t)) (wide (leaf_of t)) (Some n) (type_in t)
leaf_made (opt t) r = bare_made t r
leaf_made unknown r = cc
leaf_made (leaf p) r = cc
leaf_made (rec ns ts) r = cc
leaf_made (tup ts) r = cc
leaf_made (uni ts) r = cc

option_if_list : (b : Bool) (p : Primitive) (c : Class) (u : DataType)
    → is_option (if b then leaf p else list_type c u) ≡ false
option_if_list true p c u = refl
option_if_list false p None u = refl
option_if_list false p (Some n) u = refl

no_option : (t : DataType) → is_option t ≡ false → IsReached t → is_option (type_in t) ≡ false
no_option (var t) e r = option_if_list (is_leaf (present t)) (wide (leaf_of t)) None (type_in t)
no_option (reg n t) e r =
    option_if_list (is_leaf (present t)) (wide (leaf_of t)) (Some n) (type_in t)
no_option (opt t) e r = cc
no_option unknown e r = cc
no_option (leaf p) e r = cc
no_option (rec ns ts) e r = cc
no_option (tup ts) e r = cc
no_option (uni ts) e r = cc

simple_if : (b : Bool) (p : Primitive) (c : Class) (u : DataType) → (b ≡ false → simple u ≡ u)
    → simple (if b then leaf p else list_type c u) ≡ (if b then leaf p else list_type c u)
simple_if true p c u e = refl
simple_if false p None u e = ap var (e refl)
simple_if false p (Some n) u e = ap (reg n) (e refl)

simple_in : (t : DataType) → IsSimple t → IsReached t → simple (type_in t) ≡ type_in t
simple_in (var t) s r =
    simple_if (is_leaf (present t)) (wide (leaf_of t)) None (type_in t)
    (λ e. simple_in t s (below t e r))
simple_in (reg n t) s r =
    simple_if (is_leaf (present t)) (wide (leaf_of t)) (Some n) (type_in t)
    (λ e. simple_in t s (below t e r))
simple_in (opt t) s r =
    ap (λ u. opt (present u)) (simple_in t s.1 r)
    ∙ ap opt (present_stays (type_in t) (no_option t s.0 r))
simple_in unknown s r = cc
simple_in (leaf p) s r = cc
simple_in (rec ns ts) s r = cc
simple_in (tup ts) s r = cc
simple_in (uni ts) s r = cc

-- ---- values

twice_in_list : (g h : Value → Value) (v : Value) → ((x : Value) → g (h x) ≡ h x)
    → in_list g (in_list h v) ≡ in_list h v
twice_in_list g h (list us) e =
    ap (λ xs. list (values_from (map g xs))) (value_list-from (map h (value_list us)))
    ∙ ap (λ xs. list (values_from xs))
    (map-map g h (value_list us) ∙ map-each (λ x. g (h x)) h (value_list us) e)
twice_in_list g h (int z) e = refl
twice_in_list g h (truth b) e = refl
twice_in_list g h null e = refl
twice_in_list g h (row vs) e = refl
twice_in_list g h (alt j v) e = refl

plain_if : (b : Bool) (p : Primitive) (c : Class) (u : DataType) (g : Value → Value) (v : Value)
    → (b ≡ false → (x : Value) → simple_value u (g x) ≡ g x)
    → simple_value (if b then leaf p else list_type c u) (if b then sum_in v else in_list g v)
    ≡ (if b then sum_in v else in_list g v)
plain_if true p c u g v e = refl
plain_if false p None u g v e = twice_in_list (simple_value u) g v (e refl)
plain_if false p (Some n) u g v e = twice_in_list (simple_value u) g v (e refl)

plain_in : (t : DataType) (v : Value) → IsReached t
    → simple_value (type_in t) (value_in t v) ≡ value_in t v
plain_in (var t) v r =
    plain_if (is_leaf (present t)) (wide (leaf_of t)) None (type_in t) (value_in t) v
    (λ e x. plain_in t x (below t e r))
plain_in (reg n t) v r =
    plain_if (is_leaf (present t)) (wide (leaf_of t)) (Some n) (type_in t) (value_in t) v
    (λ e x. plain_in t x (below t e r))
plain_in (opt t) null r = refl
plain_in (opt t) (int z) r =
    in_option-simple (type_in t) (value_in t (int z)) ∙ plain_in t (int z) r
plain_in (opt t) (truth b) r =
    in_option-simple (type_in t) (value_in t (truth b)) ∙ plain_in t (truth b) r
plain_in (opt t) (list us) r =
    in_option-simple (type_in t) (value_in t (list us)) ∙ plain_in t (list us) r
plain_in (opt t) (row us) r =
    in_option-simple (type_in t) (value_in t (row us)) ∙ plain_in t (row us) r
plain_in (opt t) (alt j u) r =
    in_option-simple (type_in t) (value_in t (alt j u)) ∙ plain_in t (alt j u) r
plain_in unknown v r = cc
plain_in (leaf p) v r = cc
plain_in (rec ns ts) v r = cc
plain_in (tup ts) v r = cc
plain_in (uni ts) v r = cc

-- ---- lists of sums

-- lists, or nulls
abbrev IsRow : Value → Type 0
IsRow v = is_lists true v ≡ true

sums_added : (us : List Value) → AllByRecursion IsRow us
    → added (map sum_in us) ≡ added (joined_items us)
sums_added [] h = refl
sums_added (list ws ∷ us) h =
    ap (λ n. added (value_list ws) +ℤ n) (sums_added us h.1)
    ∙ sym (total-append (numbers (value_list ws)) (numbers (joined_items us)))
    ∙ ap total (sym (numbers-append (value_list ws) (joined_items us)))
sums_added (null ∷ us) h = sums_added us h.1
sums_added (int z ∷ us) h = let k = h.0 in cc
sums_added (truth b ∷ us) h = let k = h.0 in cc
sums_added (row ws ∷ us) h = let k = h.0 in cc
sums_added (alt j w ∷ us) h = let k = h.0 in cc

option_in : (v : Value) → in_option sum_in v ≡ sum_in v
option_in null = refl
option_in (int z) = refl
option_in (truth b) = refl
option_in (list us) = refl
option_in (row us) = refl
option_in (alt j u) = refl

list_level : (c : Class) (s : DataType) (us : List Value) → is_leaf (present s) ≡ true
    → AllByRecursion (Has (list_type c s)) us
    → added (map (λ x. if is_leaf (present s) then sum_in x else in_list (value_in s) x) us)
    ≡ added (joined_items us)
list_level c s us e h =
    ap (λ (b : Bool). added (map (λ x. if b then sum_in x else in_list (value_in s) x) us)) e
    ∙ sums_added us (all-impl (Has (list_type c s)) IsRow us (λ x k. (list-at c s true x k).0) h)

option_level : (c : Class) (s : DataType) (us : List Value) → is_leaf (present s) ≡ true
    → AllByRecursion (Has (opt (list_type c s))) us
    → added (map (λ v. in_option (λ x. if is_leaf (present s) then sum_in x
    else in_list (value_in s) x) v) us)
    ≡ added (joined_items us)
option_level c s us e h =
    ap (λ (b : Bool). added (map (λ v. in_option (λ x. if b then sum_in x
    else in_list (value_in s) x) v) us)) e
    ∙ ap added (map-each (λ v. in_option sum_in v) sum_in us option_in)
    ∙ sums_added us
    (all-impl (Has (opt (list_type c s))) IsRow us (λ x k. (option-at c s x k).0) h)

level_added : (t : DataType) (us : List Value) → holds_leaves (present t) ≡ true
    → AllByRecursion (Has t) us → added (map (value_in t) us) ≡ added (joined_items us)
level_added (var s) us e h = list_level None s us e h
level_added (reg n s) us e h = list_level (Some n) s us e h
level_added (opt (var s)) us e h = option_level None s us e h
level_added (opt (reg n s)) us e h = option_level (Some n) s us e h
level_added unknown us e h = cc
level_added (leaf p) us e h = cc
level_added (rec ns ts) us e h = cc
level_added (tup ts) us e h = cc
level_added (uni ts) us e h = cc
level_added (opt unknown) us e h = cc
level_added (opt (leaf p)) us e h = cc
level_added (opt (rec ns ts)) us e h = cc
level_added (opt (tup ts)) us e h = cc
level_added (opt (opt t)) us e h = cc
level_added (opt (uni ts)) us e h = cc

-- ---- no lists of lists

leaf_holds_none : (t : DataType) → is_leaf t ≡ true → holds_leaves t ≡ false
leaf_holds_none unknown e = refl
leaf_holds_none (leaf p) e = refl
leaf_holds_none (var t) e = cc
leaf_holds_none (reg n t) e = cc
leaf_holds_none (rec ns ts) e = refl
leaf_holds_none (tup ts) e = refl
leaf_holds_none (opt t) e = refl
leaf_holds_none (uni ts) e = refl

none_of_leaves : (t : DataType) (v : Value) → is_leaf (present t) ≡ true → joined_in t v ≡ []
none_of_leaves unknown v e = refl
none_of_leaves (leaf p) v e = refl
none_of_leaves (opt unknown) v e = refl
none_of_leaves (opt (leaf p)) v e = refl
none_of_leaves (var t) v e = cc
none_of_leaves (reg n t) v e = cc
none_of_leaves (rec ns ts) v e = cc
none_of_leaves (tup ts) v e = cc
none_of_leaves (uni ts) v e = cc
none_of_leaves (opt (var t)) v e = cc
none_of_leaves (opt (reg n t)) v e = cc
none_of_leaves (opt (rec ns ts)) v e = cc
none_of_leaves (opt (tup ts)) v e = cc
none_of_leaves (opt (opt t)) v e = cc
none_of_leaves (opt (uni ts)) v e = cc

none_among : (t : DataType) (vs : List Value) → is_leaf (present t) ≡ true
    → flat_map (joined_in t) vs ≡ []
none_among t [] e = refl
none_among t (v ∷ vs) e =
    ap₂ (λ xs ys. xs ++ ys) (none_of_leaves t v e) (none_among t vs e)

none_if : (b : Bool) (ls ms : List (List Value)) → b ≡ false → ms ≡ []
    → (if b then ls else ms) ≡ []
none_if true ls ms e k = cc
none_if false ls ms e k = k

null_joined : (t : DataType) → joined_in t null ≡ []
null_joined (var t) = either (holds_leaves (present t))
  where
    either : (b : Bool) → (if b then map joined_items (list_of null)
        else flat_map (joined_in t) (list_items null)) ≡ []
    either true = refl
    either false = refl
null_joined (reg n t) = either (holds_leaves (present t))
  where
    either : (b : Bool) → (if b then map joined_items (list_of null)
        else flat_map (joined_in t) (list_items null)) ≡ []
    either true = refl
    either false = refl
null_joined (opt t) = null_joined t
null_joined unknown = refl
null_joined (leaf p) = refl
null_joined (rec ns ts) = refl
null_joined (tup ts) = refl
null_joined (uni ts) = refl

-- ---- list by list

abbrev totals : List (List Value) → List ℤ
totals ls = map added ls

each_added : (P : Value → Type 0) (L J : Value → List (List Value)) (g : Value → Value)
    (xs : List Value) → ((x : Value) → P x → totals (L (g x)) ≡ totals (J x))
    → AllByRecursion P xs → totals (flat_map L (map g xs)) ≡ totals (flat_map J xs)
each_added P L J g [] e h = refl
each_added P L J g (x ∷ xs) e h =
    map-append added (L (g x)) (flat_map L (map g xs))
    ∙ ap₂ (λ y ys. y ++ ys) (e x h.0) (each_added P L J g xs e h.1)
    ∙ sym (map-append added (J x) (flat_map J xs))

one_added : (t : DataType) (v : Value) → holds_leaves (present t) ≡ true
    → AllByRecursion (Has t) (list_items v)
    → totals (list_of (in_list (value_in t) v)) ≡ totals (map joined_items (list_of v))
one_added t (list us) e h =
    ap (λ z. z ∷ [])
    (ap added (value_list-from (map (value_in t) (value_list us)))
    ∙ level_added t (value_list us) e h)
one_added t (int z) e h = refl
one_added t (truth b) e h = refl
one_added t null e h = refl
one_added t (row us) e h = refl
one_added t (alt j u) e h = refl

-- the lists of a value made, where sums stand at leaves or further down
made_added : (q : Bool) (t : DataType) (v : Value) → holds_leaves (present t) ≡ q
    → ((x : Value) → Has t x
    → totals (lists_in (type_in t) (value_in t x)) ≡ totals (joined_in t x))
    → AllByRecursion (Has t) (list_items v)
    → totals (if q then list_of (in_list (value_in t) v)
    else flat_map (lists_in (type_in t)) (list_items (in_list (value_in t) v)))
    ≡ totals (if q then map joined_items (list_of v) else flat_map (joined_in t) (list_items v))
made_added true t v e i h = one_added t v e h
made_added false t v e i h =
    ap (λ xs. totals (flat_map (lists_in (type_in t)) xs)) (items-in_list (value_in t) v)
    ∙ each_added (Has t) (lists_in (type_in t)) (joined_in t) (value_in t) (list_items v) i h

list_lists : (c : Class) (u : DataType) (v : Value)
    → lists_in (list_type c u) v
    ≡ (if is_leaf (present u) then list_of v else flat_map (lists_in u) (list_items v))
list_lists None u v = refl
list_lists (Some n) u v = refl

by_leaf : (b : Bool) (c : Class) (p : Primitive) (t : DataType) (v : Value)
    → is_leaf (present t) ≡ b → (b ≡ false → IsReached t) → Has (list_type c t) v
    → (b ≡ false → (x : Value) → Has t x
    → totals (lists_in (type_in t) (value_in t x)) ≡ totals (joined_in t x))
    → totals (lists_in (if b then leaf p else list_type c (type_in t))
    (if b then sum_in v else in_list (value_in t) v))
    ≡ totals (if holds_leaves (present t) then map joined_items (list_of v)
    else flat_map (joined_in t) (list_items v))
by_leaf true c p t v l r h i =
    sym (ap totals (none_if (holds_leaves (present t)) (map joined_items (list_of v))
    (flat_map (joined_in t) (list_items v)) (leaf_holds_none (present t) l)
    (none_among t (list_items v) l)))
by_leaf false c p t v l r h i =
    ap totals (list_lists c (type_in t) (in_list (value_in t) v))
    ∙ ap (λ (q : Bool). totals (if q then list_of (in_list (value_in t) v)
    else flat_map (lists_in (type_in t)) (list_items (in_list (value_in t) v))))
    (leaf_made t (r refl))
    ∙ made_added (holds_leaves (present t)) t v refl (i refl) (list-at c t true v h).1

value_added : (t : DataType) (v : Value) → IsReached t → Has t v
    → totals (lists_in (type_in t) (value_in t v)) ≡ totals (joined_in t v)
value_added (var t) v r h =
    by_leaf (is_leaf (present t)) None (wide (leaf_of t)) t v refl (λ e. below t e r) h
    (λ e x k. value_added t x (below t e r) k)
value_added (reg n t) v r h =
    by_leaf (is_leaf (present t)) (Some n) (wide (leaf_of t)) t v refl (λ e. below t e r) h
    (λ e x k. value_added t x (below t e r) k)
value_added (opt t) null r h =
    ap totals (lists_null (type_in t)) ∙ sym (ap totals (null_joined t))
value_added (opt t) (int z) r h = value_added t (int z) r h
value_added (opt t) (truth b) r h = value_added t (truth b) r h
value_added (opt t) (list us) r h = value_added t (list us) r h
value_added (opt t) (row us) r h = value_added t (row us) r h
value_added (opt t) (alt j u) r h = value_added t (alt j u) r h
value_added unknown v r h = cc
value_added (leaf p) v r h = cc
value_added (rec ns ts) v r h = cc
value_added (tup ts) v r h = cc
value_added (uni ts) v r h = cc

-- ---- a datum

items_added : (q : Bool) (t : DataType) (vs : List Value) → holds_leaves (present t) ≡ q
    → IsReached t → AllByRecursion (Has t) vs
    → totals (if q then map (value_in t) vs ∷ []
    else flat_map (lists_in (type_in t)) (map (value_in t) vs))
    ≡ totals (if q then joined_items vs ∷ [] else flat_map (joined_in t) vs)
items_added true t vs e r h = ap (λ z. z ∷ []) (level_added t vs e h)
items_added false t vs e r h =
    each_added (Has t) (lists_in (type_in t)) (joined_in t) (value_in t) vs
    (λ x k. value_added t x r k) h

by_array : (b : Bool) (t : DataType) (vs : List Value) (made : Datum) → is_leaf (present t) ≡ b
    → IsSimple t → AllByRecursion (Has t) vs
    → (if b then on_whole f t vs else on_items f Innermost t vs) ≡ Ok made
    → totals (innermost_lists made)
    ≡ totals (if holds_leaves (present t) then joined_items vs ∷ [] else flat_map (joined_in t) vs)
by_array true t vs made l s h e =
    let p = wide (leaf_of t) in
    let told = first_told (f.refusal t) (limit (leaf p)) (f.spoil t (vs ∷ [])) in
    let k = refused_or-Ok told (one (leaf p) (int (added vs))) made e in
    ap (λ d. totals (innermost_lists d)) (sym k.1)
    ∙ sym (ap totals (none_if (holds_leaves (present t)) (joined_items vs ∷ [])
    (flat_map (joined_in t) vs) (leaf_holds_none (present t) l) (none_among t vs l)))
by_array false t vs made l s h e =
    let u = type_in t in
    let x = option_map refusal_fault (refusal_at f Innermost t) in
    let y = option_map limit_fault (limit (simple u)) in
    let z = option_map spoil_fault
    (first_spoil (too_many (length vs)) (spoil_at f Innermost t vs)) in
    let k = refused_or-Ok (x or (y or z)) (arr (simple u)
    (map (λ v. simple_value u (value_in t v)) vs)) made e in
    let r = none_map refusal_fault (refusal_at f Innermost t) (or-both x (y or z) k.0).0 in
    ap (λ d. totals (innermost_lists d))
    (sym k.1
    ∙ ap₂ arr (simple_in t s r)
    (map-each (λ v. simple_value u (value_in t v)) (value_in t) vs (λ v. plain_in t v r)))
    ∙ ap (λ (q : Bool). totals (if q then map (value_in t) vs ∷ []
    else flat_map (lists_in u) (map (value_in t) vs))) (leaf_made t r)
    ∙ items_added (holds_leaves (present t)) t vs refl r h

pub sums_joined : (d made : Datum) → IsSimple (datum_type d) → IsTyped d
    → reduce_of Sum d ≡ Ok made
    → totals (innermost_lists made) ≡ totals (joined_lists d)
sums_joined (arr t vs) made s h e = by_array (is_leaf (present t)) t vs made refl s h e
sums_joined (one t v) made s h e =
    let u = type_in t in
    let x = option_map refusal_fault (refusal_at f Innermost t) in
    let y = option_map limit_fault (limit (simple u)) in
    let z = option_map spoil_fault (spoil_at f Innermost t (v ∷ [])) in
    let k = refused_or-Ok (x or (y or z)) (one (simple u) (simple_value u (value_in t v))) made e in
    let r = none_map refusal_fault (refusal_at f Innermost t) (or-both x (y or z) k.0).0 in
    ap (λ d. totals (innermost_lists d))
    (sym k.1 ∙ ap₂ one (simple_in t s r) (plain_in t v r))
    ∙ value_added t v r h
