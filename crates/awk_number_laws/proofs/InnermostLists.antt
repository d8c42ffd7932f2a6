-- What a function of lists of leaves, lifted to the innermost ones, gives for each of them.
use Rattle.std.specs.Prelude.{◌≡◌, ℕ, Bool, true, false, List, [], ◌∷◌, ◌++◌, map, length}
use Rattle.std.specs.Prelude.{Option, Some, None, option_map, Ok, refl, if◌then◌else◌}
use Rattle.std.specs.List.{flat_map}
use Rattle.std.proofs.Common.{ap, ap₂, sym, ◌∙◌, subst}
use Rattle.std.proofs.lemmas.List.{map-append}
use Rattle.awk_types.specs.DataType.{DataType, unknown, leaf, var, reg, rec, tup, opt, uni}
use Rattle.awk_types.specs.Datum.{Datum, arr, one, datum_type}
use Rattle.awk_types.specs.Faults.{limit_fault}
use Rattle.awk_types.specs.Gives.{◌or◌}
use Rattle.awk_types.specs.Limit.{limit}
use Rattle.awk_types.specs.Predicates.{is_leaf}
use Rattle.awk_types.specs.Simple.{IsSimple, is_option, present, simple, simple_value, in_list}
use Rattle.awk_types.specs.Simple.{in_option}
use Rattle.awk_types.specs.Value.{Value, int, truth, null, list, row, alt, value_list, values_from}
use Rattle.awk_types.proofs.RefusalLaws.{refused_or-Ok, or-both}
use Rattle.awk_types.proofs.SimpleLaws.{simple_stays, in_option_stays}
use Rattle.awk_types.proofs.Trees.{value_list-from}
use Rattle.awk_list_functions.specs.Causes.{first_spoil}
use Rattle.awk_list_functions.specs.Lift.{lifted_type, lifted_value, refusal_at, on_list}
use Rattle.awk_list_functions.specs.Lifting.{deep, first_told, on_items, on_one, on_whole}
use Rattle.awk_list_functions.specs.Lifting.{refusal_fault, spoil_fault}
use Rattle.awk_list_functions.specs.ListFunction.{ListFunction, given_value}
use Rattle.awk_list_functions.specs.Spoils.{spoil_at, too_many}
use Rattle.awk_list_functions.specs.declared.causes.Refusal.{Refusal}
use Rattle.awk_list_functions.specs.declared.place.Reach.TheVariants.{Innermost}
use Rattle.awk_columns.specs.Columns.{list_items, list_of}
use Rattle.awk_columns.specs.ListClass.{Class, list_type}
use Rattle.awk_order.specs.Sort.{leaf_lists}
use Rattle.awk_law_chains.specs.Innermost.{lists_in, innermost_lists}
use Rattle.awk_law_chains.proofs.Chains.{in_list_stays, items-in_list}
use Rattle.awk_law_chains.proofs.Limits.{none_map}

pub flat-mapped : (f h : Value → List (List Value)) (g : Value → Value)
    (F : List Value → List Value) (vs : List Value) → ((x : Value) → f (g x) ≡ map F (h x))
    → flat_map f (map g vs) ≡ map F (flat_map h vs)
flat-mapped f h g F [] e = refl
flat-mapped f h g F (v ∷ vs) e =
    ap₂ (λ xs ys. xs ++ ys) (e v) (flat-mapped f h g F vs e)
    ∙ sym (map-append F (h v) (flat_map h vs))

-- the items of lists that are not reached themselves are not refused
pub inside : (r s : Option Refusal) (b : Bool) → b ≡ false → (if b then r else s) ≡ None → s ≡ None
inside r s true f e = cc
inside r s false f e = e

pub lists_null : (t : DataType) → lists_in t null ≡ []
lists_null unknown = refl
lists_null (leaf p) = refl
lists_null (var t) = either (is_leaf (present t))
  where
    either : (b : Bool) → (if b then list_of null else flat_map (lists_in t) (list_items null)) ≡ []
    either true = refl
    either false = refl
lists_null (reg n t) = either (is_leaf (present t))
  where
    either : (b : Bool) → (if b then list_of null else flat_map (lists_in t) (list_items null)) ≡ []
    either true = refl
    either false = refl
lists_null (rec ns ts) = refl
lists_null (tup ts) = refl
lists_null (opt t) = lists_null t
lists_null (uni ts) = refl

module _ (typ : DataType → DataType) (F : List Value → List Value)
    (leaves : (t : DataType) → is_leaf (present t) ≡ true → is_leaf (present (typ t)) ≡ true)
    (simple_items : (t : DataType) → IsSimple t → IsSimple (typ t))
    (items_stay : (t : DataType) (x : Value) → is_leaf (present t) ≡ true
    → simple_value (typ t) x ≡ x) where
  abbrev f : ListFunction
  f = leaf_lists typ F

  abbrev type_in : DataType → DataType
  type_in t = lifted_type f.giving Innermost t

  abbrev value_in : DataType → Value → Value
  value_in t v = lifted_value f.giving Innermost t v

  abbrev IsReached : DataType → Type 0
  IsReached t = refusal_at f Innermost t ≡ None

  below : (t : DataType) → is_leaf (present t) ≡ false
      → (if is_leaf (present t) then f.refusal t else refusal_at f Innermost t) ≡ None → IsReached t
  below t e r = inside (f.refusal t) (refusal_at f Innermost t) (is_leaf (present t)) e r

  -- ---- types

  list_if : (c : Class) (b : Bool) (t u : DataType)
      → (if b then list_type c t else list_type c u) ≡ list_type c (if b then t else u)
  list_if c true t u = refl
  list_if c false t u = refl

  type_var : (t : DataType) → type_in (var t)
      ≡ var (if is_leaf (present t) then typ t else type_in t)
  type_var t = list_if None (is_leaf (present t)) (typ t) (type_in t)

  type_reg : (n : ℕ) (t : DataType) → type_in (reg n t)
      ≡ reg n (if is_leaf (present t) then typ t else type_in t)
  type_reg n t = list_if (Some n) (is_leaf (present t)) (typ t) (type_in t)

  no_option : (t : DataType) → is_option t ≡ false → IsReached t → is_option (type_in t) ≡ false
  no_option (var t) e r = ap is_option (type_var t)
  no_option (reg n t) e r = ap is_option (type_reg n t)
  no_option (opt t) e r = cc
  no_option unknown e r = refl
  no_option (leaf p) e r = refl
  no_option (rec ns ts) e r = cc
  no_option (tup ts) e r = cc
  no_option (uni ts) e r = cc

  no_leaf : (t : DataType) → IsReached t → is_leaf (type_in t) ≡ false
  no_leaf (var t) r = ap is_leaf (type_var t)
  no_leaf (reg n t) r = ap is_leaf (type_reg n t)
  no_leaf (opt t) r = refl
  no_leaf unknown r = cc
  no_leaf (leaf p) r = cc
  no_leaf (rec ns ts) r = cc
  no_leaf (tup ts) r = cc
  no_leaf (uni ts) r = cc

  pub no_leaf_present : (t : DataType) → IsReached t → is_leaf (present (type_in t)) ≡ false
  no_leaf_present (var t) r = ap (λ u. is_leaf (present u)) (type_var t)
  no_leaf_present (reg n t) r = ap (λ u. is_leaf (present u)) (type_reg n t)
  no_leaf_present (opt t) r = no_leaf t r
  no_leaf_present unknown r = cc
  no_leaf_present (leaf p) r = cc
  no_leaf_present (rec ns ts) r = cc
  no_leaf_present (tup ts) r = cc
  no_leaf_present (uni ts) r = cc

  simple_if : (b : Bool) (t u : DataType) → IsSimple t → (b ≡ false → IsSimple u)
      → IsSimple (if b then t else u)
  simple_if true t u s h = s
  simple_if false t u s h = h refl

  pub simple_in : (t : DataType) → IsSimple t → IsReached t → IsSimple (type_in t)
  simple_in (var t) s r =
      subst IsSimple (sym (type_var t))
      (simple_if (is_leaf (present t)) (typ t) (type_in t) (simple_items t s)
      (λ e. simple_in t s (below t e r)))
  simple_in (reg n t) s r =
      subst IsSimple (sym (type_reg n t))
      (simple_if (is_leaf (present t)) (typ t) (type_in t) (simple_items t s)
      (λ e. simple_in t s (below t e r)))
  simple_in (opt t) s r = (no_option t s.0 r, simple_in t s.1 r)
  simple_in unknown s r = tt
  simple_in (leaf p) s r = tt
  simple_in (rec ns ts) s r = cc
  simple_in (tup ts) s r = cc
  simple_in (uni ts) s r = cc

  -- ---- values

  stays_if : (b : Bool) (t u : DataType) (x : Value) → (b ≡ true → simple_value t x ≡ x)
      → (b ≡ false → simple_value u x ≡ x) → simple_value (if b then t else u) x ≡ x
  stays_if true t u x h k = h refl
  stays_if false t u x h k = k refl

  pub plain_in : (t : DataType) (w : Value) → IsReached t → simple_value (type_in t) w ≡ w
  plain_in (var t) w r =
      ap (λ u. simple_value u w) (type_var t)
      ∙ in_list_stays (simple_value (if is_leaf (present t) then typ t else type_in t)) w
      (λ x. stays_if (is_leaf (present t)) (typ t) (type_in t) x (λ e. items_stay t x e)
      (λ e. plain_in t x (below t e r)))
  plain_in (reg n t) w r =
      ap (λ u. simple_value u w) (type_reg n t)
      ∙ in_list_stays (simple_value (if is_leaf (present t) then typ t else type_in t)) w
      (λ x. stays_if (is_leaf (present t)) (typ t) (type_in t) x (λ e. items_stay t x e)
      (λ e. plain_in t x (below t e r)))
  plain_in (opt t) w r = in_option_stays (simple_value (type_in t)) w (plain_in t w r)
  plain_in unknown w r = refl
  plain_in (leaf p) w r = refl
  plain_in (rec ns ts) w r = cc
  plain_in (tup ts) w r = cc
  plain_in (uni ts) w r = cc

  -- ---- lists

  list_given : (t : DataType) (v : Value)
      → list_of (on_list (given_value f.giving t) v) ≡ map F (list_of v)
  list_given t (list vs) = ap (λ xs. xs ∷ []) (value_list-from (F (value_list vs)))
  list_given t (int z) = refl
  list_given t (truth b) = refl
  list_given t null = refl
  list_given t (row vs) = refl
  list_given t (alt j v) = refl

  by_leaf : (b : Bool) (t : DataType) (v : Value) → is_leaf (present t) ≡ b
      → (b ≡ false → is_leaf (present (type_in t)) ≡ false)
      → (b ≡ false → (x : Value) → lists_in (type_in t) (value_in t x) ≡ map F (lists_in t x))
      → (if is_leaf (present (if b then typ t else type_in t))
      then list_of (if b then on_list (given_value f.giving t) v else in_list (value_in t) v)
      else flat_map (lists_in (if b then typ t else type_in t))
      (list_items (if b then on_list (given_value f.giving t) v else in_list (value_in t) v)))
      ≡ map F (if b then list_of v else flat_map (lists_in t) (list_items v))
  by_leaf true t v e n h = rw (leaves t e) (list_given t v)
  by_leaf false t v e n h =
      rw (n refl) (ap (flat_map (lists_in (type_in t))) (items-in_list (value_in t) v)
      ∙ flat-mapped (lists_in (type_in t)) (lists_in t) (value_in t) F (list_items v) (h refl))

  in_option_lists : (t u : DataType) (g : Value → Value) (v : Value)
      → lists_in u (g v) ≡ map F (lists_in t v)
      → lists_in u (in_option g v) ≡ map F (lists_in t v)
  in_option_lists t u g null e = lists_null u ∙ sym (ap (map F) (lists_null t))
  in_option_lists t u g (int z) e = e
  in_option_lists t u g (truth b) e = e
  in_option_lists t u g (list vs) e = e
  in_option_lists t u g (row vs) e = e
  in_option_lists t u g (alt j v) e = e

  pub lists-in : (t : DataType) (v : Value) → IsReached t
      → lists_in (type_in t) (value_in t v) ≡ map F (lists_in t v)
  lists-in (var t) v r =
      let k = λ (e : is_leaf (present t) ≡ false). below t e r in
      ap (λ u. lists_in u (value_in (var t) v)) (type_var t)
      ∙ by_leaf (is_leaf (present t)) t v refl (λ e. no_leaf_present t (k e))
      (λ e x. lists-in t x (k e))
  lists-in (reg n t) v r =
      let k = λ (e : is_leaf (present t) ≡ false). below t e r in
      ap (λ u. lists_in u (value_in (reg n t) v)) (type_reg n t)
      ∙ by_leaf (is_leaf (present t)) t v refl (λ e. no_leaf_present t (k e))
      (λ e x. lists-in t x (k e))
  lists-in (opt t) v r = in_option_lists t (type_in t) (value_in t) v (lists-in t v r)
  lists-in unknown v r = cc
  lists-in (leaf p) v r = cc
  lists-in (rec ns ts) v r = cc
  lists-in (tup ts) v r = cc
  lists-in (uni ts) v r = cc

  -- ---- a datum

  pub record IsGiven (t : DataType) (vs : List Value) (d : Datum) : Type 0 where
    pub reached : IsReached t
    pub limited : limit (simple (type_in t)) ≡ None
    pub spoil : first_spoil (too_many (length vs)) (spoil_at f Innermost t vs) ≡ None
    pub is : d ≡ arr (type_in t) (map (value_in t) vs)

  each_plain : (t : DataType) (vs : List Value) → IsReached t
      → map (λ v. simple_value (type_in t) (value_in t v)) vs ≡ map (value_in t) vs
  each_plain t [] r = refl
  each_plain t (v ∷ vs) r =
      ap₂ (λ x xs. x ∷ xs) (plain_in t (value_in t v) r) (each_plain t vs r)

  pub items_given : (t : DataType) (vs : List Value) (d : Datum) → IsSimple t
      → on_items f Innermost t vs ≡ Ok d → IsGiven t vs d
  items_given t vs d s e =
      let o = option_map refusal_fault (refusal_at f Innermost t) in
      let l = option_map limit_fault (limit (simple (type_in t))) in
      let q = option_map spoil_fault
      (first_spoil (too_many (length vs)) (spoil_at f Innermost t vs)) in
      let k = refused_or-Ok (o or l or q) (arr (simple (type_in t))
      (map (λ v. simple_value (type_in t) (value_in t v)) vs)) d e in
      let told = or-both o (l or q) k.0 in
      let r = none_map refusal_fault (refusal_at f Innermost t) told.0 in
      let more = or-both l q told.1 in
      record {
        reached = r;
        limited = none_map limit_fault (limit (simple (type_in t))) more.0;
        spoil = none_map spoil_fault (first_spoil (too_many (length vs))
            (spoil_at f Innermost t vs)) more.1;
        is = sym k.1 ∙ ap₂ arr (simple_stays (type_in t) (simple_in t s r)) (each_plain t vs r);
      }

  whole_given : (t : DataType) (vs : List Value) (d : Datum) → IsSimple t
      → is_leaf (present t) ≡ true → on_whole f t vs ≡ Ok d → d ≡ arr (typ t) (F vs)
  whole_given t vs d s l e =
      let told = first_told (f.refusal t) (limit (simple (typ t))) (f.spoil t (vs ∷ [])) in
      let ws = value_list (values_from
      (map (simple_value (typ t)) (value_list (values_from (F vs))))) in
      let k = refused_or-Ok told (arr (simple (typ t)) ws) d e in
      sym k.1
      ∙ ap₂ arr (simple_stays (typ t) (simple_items t s))
      (value_list-from (map (simple_value (typ t)) (value_list (values_from (F vs))))
      ∙ ap (map (simple_value (typ t))) (value_list-from (F vs)) ∙ each (F vs))
    where
      each : (xs : List Value) → map (simple_value (typ t)) xs ≡ xs
      each [] = refl
      each (x ∷ xs) = ap₂ (λ y ys. y ∷ ys) (items_stay t x l) (each xs)

  by_array : (t : DataType) (vs : List Value) (d : Datum) (b : Bool) → is_leaf (present t) ≡ b
      → IsSimple t → (if b then on_whole f t vs else on_items f Innermost t vs) ≡ Ok d
      → innermost_lists d ≡ map F (if b then vs ∷ [] else flat_map (lists_in t) vs)
  by_array t vs d true l s e =
      ap innermost_lists (whole_given t vs d s l e) ∙ (rw (leaves t l) refl)
  by_array t vs d false l s e =
      let g = items_given t vs d s e in
      ap innermost_lists g.is
      ∙ (rw (no_leaf_present t g.reached)
      (flat-mapped (lists_in (type_in t)) (lists_in t) (value_in t) F vs
      (λ x. lists-in t x g.reached)))

  pub one_given : (t : DataType) (v : Value) (d : Datum) → IsSimple t
      → on_one f Innermost t v ≡ Ok d
      → IsReached t × (d ≡ one (type_in t) (value_in t v))
  one_given t v d s e =
      let o = option_map refusal_fault (refusal_at f Innermost t) in
      let l = option_map limit_fault (limit (simple (type_in t))) in
      let q = option_map spoil_fault (spoil_at f Innermost t (v ∷ [])) in
      let k = refused_or-Ok (o or l or q) (one (simple (type_in t))
      (simple_value (type_in t) (value_in t v))) d e in
      let r = none_map refusal_fault (refusal_at f Innermost t) (or-both o (l or q) k.0).0 in (
        r,
        sym k.1 ∙ ap₂ one (simple_stays (type_in t) (simple_in t s r))
            (plain_in t (value_in t v) r),
      )

  -- each innermost list of what is given is what the function gives of that list
  pub nested : (d made : Datum) → IsSimple (datum_type d) → deep f d ≡ Ok made
      → innermost_lists made ≡ map F (innermost_lists d)
  nested (arr t vs) made s e = by_array t vs made (is_leaf (present t)) refl s e
  nested (one t v) made s e =
      let k = one_given t v made s e in
      ap innermost_lists k.1 ∙ lists-in t v k.0
