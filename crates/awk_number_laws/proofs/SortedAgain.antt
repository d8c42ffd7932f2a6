-- Sorting twice, of any nesting.
use Rattle.std.specs.Prelude.{◌≡◌, Bool, true, false, List, [], ◌∷◌, map, length, sum}
use Rattle.std.specs.Prelude.{Option, Some, None, option_map, Ok, refl, if◌then◌else◌}
use Rattle.std.proofs.Common.{ap, ap₂, sym, ◌∙◌}
use Rattle.awk_types.specs.DataType.{DataType, unknown, leaf, var, reg, rec, tup, opt, uni}
use Rattle.awk_types.specs.Datum.{Datum, arr, one, datum_type}
use Rattle.awk_types.specs.Faults.{limit_fault}
use Rattle.awk_types.specs.Gives.{◌or◌}
use Rattle.awk_types.specs.Limit.{limit}
use Rattle.awk_types.specs.Predicates.{is_leaf}
use Rattle.awk_types.specs.Simple.{IsSimple, present, simple, simple_value, in_list, in_option}
use Rattle.awk_types.specs.Value.{Value, int, truth, null, list, row, alt, value_list, values_from}
use Rattle.awk_types.proofs.RefusalLaws.{refused_or-None, refused_or-Ok}
use Rattle.awk_types.proofs.SimpleLaws.{simple_stays}
use Rattle.awk_types.proofs.Trees.{value_list-from}
use Rattle.awk_list_functions.specs.Causes.{first_spoil}
use Rattle.awk_list_functions.specs.Lift.{lifted_type, lifted_value, refusal_at, on_list}
use Rattle.awk_list_functions.specs.Lifting.{on_items, on_one, on_whole, refusal_fault, spoil_fault}
use Rattle.awk_list_functions.specs.ListFunction.{ListFunction, given_value}
use Rattle.awk_list_functions.specs.Spoils.{spoil_at, too_many, spoil_inside}
use Rattle.awk_list_functions.specs.declared.causes.Refusal.{Refusal}
use Rattle.awk_list_functions.specs.declared.place.Reach.TheVariants.{Innermost}
use Rattle.awk_columns.specs.Columns.{is_present, joined_items, lists_among, present_values}
use Rattle.awk_columns.specs.ListClass.{Class, list_type}
use Rattle.awk_order.specs.Order.{items_in_order}
use Rattle.awk_order.specs.Sort.{sort_of, sort_function}
use Rattle.awk_order.proofs.ValueLaws.{leaf_simple_value}
use Rattle.awk_law_chains.proofs.Chains.{joined-in_list, length-each}
use Rattle.awk_number_laws.proofs.InnermostLists.{inside, items_given, one_given, plain_in}
use Rattle.awk_number_laws.proofs.ListOrders.{length-sorted, twice_is}
use Rattle.awk_number_laws.proofs.OrderLaws.{again_all}

module _ (up : Bool) where
  abbrev f : ListFunction
  f = sort_function up

  abbrev F : List Value → List Value
  F = items_in_order up

  abbrev type_in : DataType → DataType
  type_in t = lifted_type f.giving Innermost t

  abbrev value_in : DataType → Value → Value
  value_in t v = lifted_value f.giving Innermost t v

  abbrev IsReached : DataType → Type 0
  IsReached t = refusal_at f Innermost t ≡ None

  below : (t : DataType) → is_leaf (present t) ≡ false
      → (if is_leaf (present t) then f.refusal t else refusal_at f Innermost t) ≡ None → IsReached t
  below t e r = inside (f.refusal t) (refusal_at f Innermost t) (is_leaf (present t)) e r

  -- ---- types

  type_if : (c : Class) (b : Bool) (t u : DataType) → (b ≡ false → u ≡ t)
      → (if b then list_type c t else list_type c u) ≡ list_type c t
  type_if c true t u h = refl
  type_if c false t u h = ap (list_type c) (h refl)

  pub same_type : (t : DataType) → IsReached t → type_in t ≡ t
  same_type (var t) r =
      type_if None (is_leaf (present t)) t (type_in t) (λ e. same_type t (below t e r))
  same_type (reg n t) r =
      type_if (Some n) (is_leaf (present t)) t (type_in t) (λ e. same_type t (below t e r))
  same_type (opt t) r = ap opt (same_type t r)
  same_type unknown r = refl
  same_type (leaf p) r = refl
  same_type (rec ns ts) r = cc
  same_type (tup ts) r = cc
  same_type (uni ts) r = cc

  -- ---- values

  given_twice : (t : DataType) (v : Value)
      → on_list (given_value f.giving t) (on_list (given_value f.giving t) v)
      ≡ on_list (given_value f.giving t) v
  given_twice t (list vs) =
      ap (λ xs. list (values_from (F xs))) (value_list-from (F (value_list vs)))
      ∙ ap (λ xs. list (values_from xs)) (twice_is up (value_list vs))
  given_twice t (int z) = refl
  given_twice t (truth b) = refl
  given_twice t null = refl
  given_twice t (row vs) = refl
  given_twice t (alt j v) = refl

  list_twice : (g : Value → Value) (v : Value) → ((x : Value) → g (g x) ≡ g x)
      → in_list g (in_list g v) ≡ in_list g v
  list_twice g (list vs) e =
      ap (λ xs. list (values_from (map g xs))) (value_list-from (map g (value_list vs)))
      ∙ ap (λ xs. list (values_from xs)) (each (value_list vs))
    where
      each : (xs : List Value) → map g (map g xs) ≡ map g xs
      each [] = refl
      each (x ∷ xs) = ap₂ (λ y ys. y ∷ ys) (e x) (each xs)
  list_twice g (int z) e = refl
  list_twice g (truth b) e = refl
  list_twice g null e = refl
  list_twice g (row vs) e = refl
  list_twice g (alt j v) e = refl

  twice_if : (b : Bool) (g h : Value → Value) (v : Value) → ((x : Value) → g (g x) ≡ g x)
      → (b ≡ false → (x : Value) → h (h x) ≡ h x)
      → (if b then g (if b then g v else in_list h v) else in_list h
      (if b then g v else in_list h v))
      ≡ (if b then g v else in_list h v)
  twice_if true g h v e k = e v
  twice_if false g h v e k = list_twice h v (k refl)

  there_list : (g : Value → Value) (v : Value) → is_present v ≡ true
      → is_present (in_list g v) ≡ true
  there_list g (list vs) e = refl
  there_list g (int z) e = refl
  there_list g (truth b) e = refl
  there_list g null e = cc
  there_list g (row vs) e = refl
  there_list g (alt j v) e = refl

  there_given : (t : DataType) (v : Value) → is_present v ≡ true
      → is_present (on_list (given_value f.giving t) v) ≡ true
  there_given t (list vs) e = refl
  there_given t (int z) e = refl
  there_given t (truth b) e = refl
  there_given t null e = cc
  there_given t (row vs) e = refl
  there_given t (alt j v) e = refl

  there_if : (b : Bool) (v w : Value) → is_present v ≡ true → is_present w ≡ true
      → is_present (if b then v else w) ≡ true
  there_if true v w e k = e
  there_if false v w e k = k

  option_there : (g : Value → Value) (v : Value) → is_present v ≡ true → is_present (g v) ≡ true
      → is_present (in_option g v) ≡ true
  option_there g null e h = cc
  option_there g (int z) e h = h
  option_there g (truth b) e h = h
  option_there g (list vs) e h = h
  option_there g (row vs) e h = h
  option_there g (alt j v) e h = h

  there : (t : DataType) (v : Value) → IsReached t → is_present v ≡ true
      → is_present (value_in t v) ≡ true
  there (var t) v r e =
      there_if (is_leaf (present t)) (on_list (given_value f.giving t) v) (in_list (value_in t) v)
      (there_given t v e) (there_list (value_in t) v e)
  there (reg n t) v r e =
      there_if (is_leaf (present t)) (on_list (given_value f.giving t) v) (in_list (value_in t) v)
      (there_given t v e) (there_list (value_in t) v e)
  there (opt t) v r e = option_there (value_in t) v e (there t v r e)
  there unknown v r e = e
  there (leaf p) v r e = e
  there (rec ns ts) v r e = cc
  there (tup ts) v r e = cc
  there (uni ts) v r e = cc

  there_option : (g : Value → Value) (w : Value) → is_present w ≡ true → in_option g w ≡ g w
  there_option g null e = cc
  there_option g (int z) e = refl
  there_option g (truth b) e = refl
  there_option g (list vs) e = refl
  there_option g (row vs) e = refl
  there_option g (alt j v) e = refl

  option_twice : (g : Value → Value) (v : Value)
      → ((x : Value) → is_present x ≡ true → is_present (g x) ≡ true)
      → ((x : Value) → g (g x) ≡ g x) → in_option g (in_option g v) ≡ in_option g v
  option_twice g null h e = refl
  option_twice g (int z) h e = there_option g (g (int z)) (h (int z) refl) ∙ e (int z)
  option_twice g (truth b) h e = there_option g (g (truth b)) (h (truth b) refl) ∙ e (truth b)
  option_twice g (list vs) h e = there_option g (g (list vs)) (h (list vs) refl) ∙ e (list vs)
  option_twice g (row vs) h e = there_option g (g (row vs)) (h (row vs) refl) ∙ e (row vs)
  option_twice g (alt j v) h e = there_option g (g (alt j v)) (h (alt j v) refl) ∙ e (alt j v)

  value_twice : (t : DataType) (v : Value) → IsReached t
      → value_in t (value_in t v) ≡ value_in t v
  value_twice (var t) v r =
      twice_if (is_leaf (present t)) (on_list (given_value f.giving t)) (value_in t) v
      (given_twice t) (λ e x. value_twice t x (below t e r))
  value_twice (reg n t) v r =
      twice_if (is_leaf (present t)) (on_list (given_value f.giving t)) (value_in t) v
      (given_twice t) (λ e x. value_twice t x (below t e r))
  value_twice (opt t) v r =
      option_twice (value_in t) v (λ x e. there t x r e) (λ x. value_twice t x r)
  value_twice unknown v r = refl
  value_twice (leaf p) v r = refl
  value_twice (rec ns ts) v r = cc
  value_twice (tup ts) v r = cc
  value_twice (uni ts) v r = cc

  values_twice : (t : DataType) (vs : List Value) → IsReached t
      → map (value_in t) (map (value_in t) vs) ≡ map (value_in t) vs
  values_twice t [] r = refl
  values_twice t (v ∷ vs) r =
      ap₂ (λ x xs. x ∷ xs) (value_twice t v r) (values_twice t vs r)

  -- ---- sizes

  keep : (w : Value) (vs : List Value) → is_present w ≡ true
      → present_values (w ∷ vs) ≡ w ∷ present_values vs
  keep null vs e = cc
  keep (int z) vs e = refl
  keep (truth b) vs e = refl
  keep (list us) vs e = refl
  keep (row us) vs e = refl
  keep (alt j u) vs e = refl

  present_values-there : (g : Value → Value) (vs : List Value)
      → ((x : Value) → is_present x ≡ true → is_present (g x) ≡ true)
      → present_values (map (in_option g) vs) ≡ map g (present_values vs)
  present_values-there g [] h = refl
  present_values-there g (null ∷ vs) h = present_values-there g vs h
  present_values-there g (int z ∷ vs) h =
      keep (g (int z)) (map (in_option g) vs) (h (int z) refl)
      ∙ ap (λ xs. g (int z) ∷ xs) (present_values-there g vs h)
  present_values-there g (truth b ∷ vs) h =
      keep (g (truth b)) (map (in_option g) vs) (h (truth b) refl)
      ∙ ap (λ xs. g (truth b) ∷ xs) (present_values-there g vs h)
  present_values-there g (list us ∷ vs) h =
      keep (g (list us)) (map (in_option g) vs) (h (list us) refl)
      ∙ ap (λ xs. g (list us) ∷ xs) (present_values-there g vs h)
  present_values-there g (row us ∷ vs) h =
      keep (g (row us)) (map (in_option g) vs) (h (row us) refl)
      ∙ ap (λ xs. g (row us) ∷ xs) (present_values-there g vs h)
  present_values-there g (alt j u ∷ vs) h =
      keep (g (alt j u)) (map (in_option g) vs) (h (alt j u) refl)
      ∙ ap (λ xs. g (alt j u) ∷ xs) (present_values-there g vs h)

  pub sizes_among : (t : DataType) (vs : List Value)
      → map length (lists_among (map (on_list (given_value f.giving t)) vs))
      ≡ map length (lists_among vs)
  sizes_among t [] = refl
  sizes_among t (list us ∷ vs) =
      ap₂ (λ n ns. n ∷ ns)
      (ap length (value_list-from (F (value_list us))) ∙ length-sorted up (value_list us))
      (sizes_among t vs)
  sizes_among t (int z ∷ vs) = sizes_among t vs
  sizes_among t (truth b ∷ vs) = sizes_among t vs
  sizes_among t (null ∷ vs) = sizes_among t vs
  sizes_among t (row us ∷ vs) = sizes_among t vs
  sizes_among t (alt j u ∷ vs) = sizes_among t vs

  spoil_if : (b : Bool) (t : DataType) (vs : List Value)
      → (b ≡ false → (ws : List Value) → spoil_at f Innermost t (map (value_in t) ws)
      ≡ spoil_at f Innermost t ws)
      → (if b then f.spoil t (lists_among (map (λ v. if b then on_list (given_value f.giving t) v
      else in_list (value_in t) v) vs))
      else spoil_inside (spoil_at f Innermost t) (map (λ v. if b
      then on_list (given_value f.giving t) v else in_list (value_in t) v) vs))
      ≡ (if b then f.spoil t (lists_among vs) else spoil_inside (spoil_at f Innermost t) vs)
  spoil_if true t vs h = ap (λ ns. too_many (sum ns)) (sizes_among t vs)
  spoil_if false t vs h =
      ap (λ ws. first_spoil (too_many (length ws)) (spoil_at f Innermost t ws))
      (joined-in_list (value_in t) vs)
      ∙ ap₂ (λ n s. first_spoil (too_many n) s) (length-each (value_in t) (joined_items vs))
      (h refl (joined_items vs))

  spoil_same : (t : DataType) (vs : List Value) → IsReached t
      → spoil_at f Innermost t (map (value_in t) vs) ≡ spoil_at f Innermost t vs
  spoil_same (var t) vs r =
      spoil_if (is_leaf (present t)) t vs (λ e ws. spoil_same t ws (below t e r))
  spoil_same (reg n t) vs r =
      spoil_if (is_leaf (present t)) t vs (λ e ws. spoil_same t ws (below t e r))
  spoil_same (opt t) vs r =
      ap (spoil_at f Innermost t)
      (present_values-there (value_in t) vs (λ x e. there t x r e))
      ∙ spoil_same t (present_values vs) r
  spoil_same unknown vs r = cc
  spoil_same (leaf p) vs r = cc
  spoil_same (rec ns ts) vs r = cc
  spoil_same (tup ts) vs r = cc
  spoil_same (uni ts) vs r = cc

  -- ---- a datum

  no_refusal : (r : Option Refusal) → r ≡ None → option_map refusal_fault r ≡ None
  no_refusal r e = ap (option_map refusal_fault) e

  leaf_stays : (t : DataType) (x : Value) → is_leaf (present t) ≡ true → simple_value t x ≡ x
  leaf_stays t x l = leaf_simple_value t x l

  pub each_plain : (t : DataType) (vs : List Value) → IsReached t
      → map (λ v. simple_value (type_in t) (value_in t v)) vs ≡ map (value_in t) vs
  each_plain t [] r = refl
  each_plain t (v ∷ vs) r =
      ap₂ (λ x xs. x ∷ xs)
      (plain_in (λ t. t) F (λ t l. l) (λ t l. l) leaf_stays t (value_in t v) r) (each_plain t vs r)

  items_again : (t : DataType) (vs : List Value) (sorted : Datum) → IsSimple t
      → on_items f Innermost t vs ≡ Ok sorted
      → (sorted ≡ arr t (map (value_in t) vs))
      × (on_items f Innermost t (map (value_in t) vs) ≡ Ok sorted)
  items_again t vs sorted s e =
      let g = items_given (λ t. t) F (λ t l. l) (λ t l. l) leaf_stays t vs sorted s e in
      let same = same_type t g.reached in
      let is = g.is ∙ ap (λ u. arr u (map (value_in t) vs)) same in
      let ws = map (value_in t) vs in (
        is,
        refused_or-None
            (option_map refusal_fault (refusal_at f Innermost t)
            or (option_map limit_fault (limit (simple (type_in t)))
            or option_map spoil_fault
            (first_spoil (too_many (length ws)) (spoil_at f Innermost t ws))))
            (arr (simple (type_in t)) (map (λ v. simple_value (type_in t) (value_in t v)) ws))
            sorted
            (ap₂ (λ x y. x or y) (no_refusal (refusal_at f Innermost t) g.reached)
            (ap₂ (λ x y. x or y) (ap (option_map limit_fault) g.limited)
            (ap (option_map spoil_fault)
            (ap₂ (λ n q. first_spoil (too_many n) q) (length-each (value_in t) vs)
            (spoil_same t vs g.reached) ∙ g.spoil))))
            (ap₂ arr (ap simple same ∙ simple_stays t s)
            (each_plain t ws g.reached ∙ values_twice t vs g.reached) ∙ sym is),
      )

  by_leaf : (t : DataType) (vs : List Value) (sorted : Datum) (b : Bool) → is_leaf (present t) ≡ b
      → IsSimple t → sort_of up (arr t vs) ≡ Ok sorted → sort_of up sorted ≡ Ok sorted
  by_leaf t vs sorted true l s e =
      again_all up t vs sorted l e
  by_leaf t vs sorted false l s e =
      let k = items_again t vs sorted s
      (ap (λ b. if b then on_whole f t vs else on_items f Innermost t vs) (sym l) ∙ e) in
      ap (sort_of up) k.0
      ∙ ap (λ b. if b then on_whole f t (map (value_in t) vs)
      else on_items f Innermost t (map (value_in t) vs)) l
      ∙ k.1

  one_again : (t : DataType) (v : Value) (sorted : Datum) → IsSimple t
      → on_one f Innermost t v ≡ Ok sorted → sort_of up sorted ≡ Ok sorted
  one_again t v sorted s e =
      let g = one_given (λ t. t) F (λ t l. l) (λ t l. l) leaf_stays t v sorted s e in
      let same = same_type t g.0 in
      let is = g.1 ∙ ap (λ u. one u (value_in t v)) same in
      let o = option_map refusal_fault (refusal_at f Innermost t) in
      let l = option_map limit_fault (limit (simple (type_in t))) in
      let q = option_map spoil_fault (spoil_at f Innermost t (v ∷ [])) in
      let k = refused_or-Ok (o or (l or q)) (one (simple (type_in t))
      (simple_value (type_in t) (value_in t v))) sorted e in
      ap (sort_of up) is
      ∙ refused_or-None
      (o or (l or option_map spoil_fault (spoil_at f Innermost t (value_in t v ∷ []))))
      (one (simple (type_in t)) (simple_value (type_in t) (value_in t (value_in t v)))) sorted
      (ap (λ x. o or (l or option_map spoil_fault x)) (spoil_same t (v ∷ []) g.0) ∙ k.0)
      (ap₂ one (ap simple same ∙ simple_stays t s)
      (plain_in (λ t. t) F (λ t l. l) (λ t l. l) leaf_stays t (value_in t (value_in t v)) g.0
      ∙ value_twice t v g.0) ∙ sym is)

  pub again_of : (d sorted : Datum) → IsSimple (datum_type d) → sort_of up d ≡ Ok sorted
      → sort_of up sorted ≡ Ok sorted
  again_of (arr t vs) sorted s e = by_leaf t vs sorted (is_leaf (present t)) refl s e
  again_of (one t v) sorted s e = one_again t v sorted s e
