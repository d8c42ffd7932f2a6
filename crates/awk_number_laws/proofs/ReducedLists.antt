-- What a function of lists of leaves, which gives single values, gives for each innermost list.
use Rattle.std.specs.Prelude.{◌≡◌, Bool, true, false, List, [], ◌∷◌, ◌++◌, map, length, filter}
use Rattle.std.specs.Prelude.{Option, Some, None, option_map, Ok, refl, if◌then◌else◌}
use Rattle.std.specs.List.{AllByRecursion, flat_map}
use Rattle.std.proofs.Common.{ap, ap₂, sym, ◌∙◌}
use Rattle.std.proofs.lemmas.Grind.{flat_map-append}
use Rattle.awk_types.specs.DataType.{DataType, unknown, leaf, var, reg, rec, tup, opt, uni}
use Rattle.awk_types.specs.Datum.{Datum, arr, one, datum_type}
use Rattle.awk_types.specs.Faults.{limit_fault}
use Rattle.awk_types.specs.Gives.{◌or◌}
use Rattle.awk_types.specs.Has.{Has}
use Rattle.awk_types.specs.Limit.{limit}
use Rattle.awk_types.specs.Predicates.{is_leaf}
use Rattle.awk_types.specs.Settle.{settle}
use Rattle.awk_types.specs.Simple.{present, simple, simple_value, in_list, in_option}
use Rattle.awk_types.specs.Value.{Value, int, truth, null, list, row, alt, value_list, values_from}
use Rattle.awk_types.proofs.RefusalLaws.{refused_or-Ok, or-both}
use Rattle.awk_types.proofs.Trees.{value_list-from}
use Rattle.awk_types.proofs.NullLaws.{in_option-simple}
use Rattle.awk_list_functions.specs.Causes.{first_spoil}
use Rattle.awk_list_functions.specs.Lift.{lifted_type, lifted_value, refusal_at, on_list}
use Rattle.awk_list_functions.specs.Lifting.{deep, first_told, on_items, on_whole, refusal_fault}
use Rattle.awk_list_functions.specs.Lifting.{spoil_fault}
use Rattle.awk_list_functions.specs.ListFunction.{ListFunction, singles}
use Rattle.awk_list_functions.specs.Spoils.{spoil_at, too_many}
use Rattle.awk_list_functions.specs.declared.causes.Refusal.{Refusal}
use Rattle.awk_list_functions.specs.declared.causes.Spoil.{Spoil}
use Rattle.awk_list_functions.specs.declared.place.Reach.TheVariants.{Innermost}
use Rattle.awk_columns.specs.Columns.{is_present, list_items, joined_items, list_of, present_values}
use Rattle.awk_columns.specs.ListClass.{Class, list_type}
use Rattle.awk_columns.proofs.PresentItems.{present-have}
use Rattle.awk_frames.specs.Shape.{ends}
use Rattle.awk_frames.proofs.FramedItems.{items-have}
use Rattle.awk_pair_operands.specs.Typed.{IsTyped}
use Rattle.awk_law_chains.specs.Innermost.{innermost_lists, innermost_type, leaves_in, lists_in}
use Rattle.awk_law_chains.proofs.Chains.{both-each, joined-in_list, joined-present}
use Rattle.awk_number_laws.proofs.InnermostLists.{inside, lists_null}
use Rattle.awk_law_chains.proofs.Limits.{none_map}

-- ---- values that are not null

pub present_twice : (vs : List Value)
    → filter is_present (filter is_present vs) ≡ filter is_present vs
present_twice [] = refl
present_twice (null ∷ vs) = present_twice vs
present_twice (int z ∷ vs) = ap (λ ws. int z ∷ ws) (present_twice vs)
present_twice (truth b ∷ vs) = ap (λ ws. truth b ∷ ws) (present_twice vs)
present_twice (list us ∷ vs) = ap (λ ws. list us ∷ ws) (present_twice vs)
present_twice (row us ∷ vs) = ap (λ ws. row us ∷ ws) (present_twice vs)
present_twice (alt j u ∷ vs) = ap (λ ws. alt j u ∷ ws) (present_twice vs)

present_cons : (v : Value) (vs ws : List Value)
    → filter is_present vs ≡ filter is_present ws
    → filter is_present (v ∷ vs) ≡ filter is_present (v ∷ ws)
present_cons null vs ws e = e
present_cons (int z) vs ws e = ap (λ us. int z ∷ us) e
present_cons (truth b) vs ws e = ap (λ us. truth b ∷ us) e
present_cons (list xs) vs ws e = ap (λ us. list xs ∷ us) e
present_cons (row xs) vs ws e = ap (λ us. row xs ∷ us) e
present_cons (alt j x) vs ws e = ap (λ us. alt j x ∷ us) e

-- what is made of values that are not null, and nulls beside it
present_option : (g : Value → Value) (vs : List Value)
    → filter is_present (map (in_option g) vs)
    ≡ filter is_present (map g (filter is_present vs))
present_option g [] = refl
present_option g (null ∷ vs) = present_option g vs
present_option g (int z ∷ vs) =
    present_cons (g (int z)) (map (in_option g) vs) (map g (filter is_present vs))
    (present_option g vs)
present_option g (truth b ∷ vs) =
    present_cons (g (truth b)) (map (in_option g) vs) (map g (filter is_present vs))
    (present_option g vs)
present_option g (list us ∷ vs) =
    present_cons (g (list us)) (map (in_option g) vs) (map g (filter is_present vs))
    (present_option g vs)
present_option g (row us ∷ vs) =
    present_cons (g (row us)) (map (in_option g) vs) (map g (filter is_present vs))
    (present_option g vs)
present_option g (alt j u ∷ vs) =
    present_cons (g (alt j u)) (map (in_option g) vs) (map g (filter is_present vs))
    (present_option g vs)

present_ends : (u : DataType) (vs : List Value)
    → filter is_present (ends u (filter is_present vs)) ≡ filter is_present (ends u vs)
present_ends (var u) vs = ap (λ ws. filter is_present (ends u ws)) (joined-present vs)
present_ends (reg n u) vs = ap (λ ws. filter is_present (ends u ws)) (joined-present vs)
present_ends (opt u) vs = ap (λ ws. filter is_present (ends u ws)) (present_twice vs)
present_ends unknown vs = present_twice vs
present_ends (leaf p) vs = present_twice vs
present_ends (rec ns ts) vs = present_twice vs
present_ends (tup ts) vs = present_twice vs
present_ends (uni ts) vs = present_twice vs

ends_option : (s : DataType) (vs : List Value)
    → ends (opt (present s)) vs ≡ ends s (filter is_present vs)
ends_option (opt s) vs = ap (ends s) (sym (present_twice vs))
ends_option unknown vs = refl
ends_option (leaf p) vs = refl
ends_option (var s) vs = refl
ends_option (reg n s) vs = refl
ends_option (rec ns ts) vs = refl
ends_option (tup ts) vs = refl
ends_option (uni ts) vs = refl

-- ---- lists

pub flat_one : (t : DataType) (v : Value) → flat_map (lists_in t) (v ∷ []) ≡ lists_in t v
flat_one t v = append_nil (lists_in t v)
  where
    append_nil : (xs : List (List Value)) → xs ++ [] ≡ xs
    append_nil [] = refl
    append_nil (x ∷ xs) = ap (λ ys. x ∷ ys) (append_nil xs)

pub flat_joined : (f : Value → List (List Value)) (vs : List Value)
    → flat_map f (joined_items vs) ≡ flat_map (λ v. flat_map f (list_items v)) vs
flat_joined f [] = refl
flat_joined f (v ∷ vs) =
    flat_map-append f (list_items v) (joined_items vs)
    ∙ ap (λ xs. flat_map f (list_items v) ++ xs) (flat_joined f vs)

pub flat_present : (t : DataType) (vs : List Value)
    → flat_map (lists_in t) (filter is_present vs) ≡ flat_map (lists_in t) vs
flat_present t [] = refl
flat_present t (null ∷ vs) =
    flat_present t vs ∙ ap (λ xs. xs ++ flat_map (lists_in t) vs) (sym (lists_null t))
flat_present t (int z ∷ vs) = ap (λ xs. lists_in t (int z) ++ xs) (flat_present t vs)
flat_present t (truth b ∷ vs) = ap (λ xs. lists_in t (truth b) ++ xs) (flat_present t vs)
flat_present t (list us ∷ vs) = ap (λ xs. lists_in t (list us) ++ xs) (flat_present t vs)
flat_present t (row us ∷ vs) = ap (λ xs. lists_in t (row us) ++ xs) (flat_present t vs)
flat_present t (alt j u ∷ vs) = ap (λ xs. lists_in t (alt j u) ++ xs) (flat_present t vs)

lists-given : (c : Class) (t : DataType) (h : List Value → Value) (vs : List Value)
    → AllByRecursion (Has (list_type c t)) vs
    → map (on_list h) vs ≡ map h (flat_map list_of vs)
lists-given c t h [] k = refl
lists-given c t h (list us ∷ vs) k = ap (λ xs. h (value_list us) ∷ xs) (lists-given c t h vs k.1)
lists-given None t h (int z ∷ vs) k = absurd k.0
lists-given (Some n) t h (int z ∷ vs) k = absurd k.0
lists-given None t h (truth b ∷ vs) k = absurd k.0
lists-given (Some n) t h (truth b ∷ vs) k = absurd k.0
lists-given None t h (null ∷ vs) k = absurd k.0
lists-given (Some n) t h (null ∷ vs) k = absurd k.0
lists-given None t h (row us ∷ vs) k = absurd k.0
lists-given (Some n) t h (row us ∷ vs) k = absurd k.0
lists-given None t h (alt j u ∷ vs) k = absurd k.0
lists-given (Some n) t h (alt j u ∷ vs) k = absurd k.0

-- the type of leaves is the innermost one
pub type_here : (t : DataType) → is_leaf (present t) ≡ true → innermost_type t ≡ t
type_here unknown l = refl
type_here (leaf p) l = refl
type_here (opt t) l = ap (λ b. if b then opt t else innermost_type t) l
type_here (var t) l = cc
type_here (reg n t) l = cc
type_here (rec ns ts) l = refl
type_here (tup ts) l = refl
type_here (uni ts) l = refl

module _ (typ : DataType → DataType) (value_of : DataType → List Value → Value)
    (refusal : DataType → Option Refusal) (spoil : DataType → List (List Value) → Option Spoil)
    (plain_result : (t : DataType) (us : List Value)
    → simple_value (typ t) (value_of t us) ≡ value_of t us)
    (simple_result : (t : DataType) → simple (typ t) ≡ typ t)
    (ends_result : (t : DataType) (vs : List Value)
    → filter is_present (ends (typ t) vs) ≡ filter is_present vs)
    (settled_result : (t : DataType) (us : List Value)
    → filter is_present (leaves_in (settle (typ t) (value_of t us)))
    ≡ filter is_present (value_of t us ∷ [])) where
  abbrev f : ListFunction
  f = record {
    refusal = refusal;
    giving = singles typ value_of;
    spoil = spoil;
  }

  abbrev type_in : DataType → DataType
  type_in t = lifted_type f.giving Innermost t

  abbrev value_in : DataType → Value → Value
  value_in t v = lifted_value f.giving Innermost t v

  abbrev IsReached : DataType → Type 0
  IsReached t = refusal_at f Innermost t ≡ None

  below : (t : DataType) → is_leaf (present t) ≡ false
      → (if is_leaf (present t) then f.refusal t else refusal_at f Innermost t) ≡ None → IsReached t
  below t e r = inside (f.refusal t) (refusal_at f Innermost t) (is_leaf (present t)) e r

  plain_if : (c : Class) (b : Bool) (t u : DataType) (g : Value → Value) (v : Value)
      → Has (list_type c t) v
      → (b ≡ false → (x : Value) → Has t x → simple_value u (g x) ≡ g x)
      → simple_value (if b then typ t else list_type c u)
      (if b then on_list (value_of t) v else in_list g v)
      ≡ (if b then on_list (value_of t) v else in_list g v)
  plain_if c true t u g (list us) h e = plain_result t (value_list us)
  plain_if None false t u g (list us) h e =
      ap (λ xs. list (values_from (map (simple_value u) xs)))
      (value_list-from (map g (value_list us)))
      ∙ ap (λ xs. list (values_from xs))
      (both-each (Has t) g (simple_value u) g (value_list us) (e refl) h)
  plain_if (Some n) false t u g (list us) h e =
      ap (λ xs. list (values_from (map (simple_value u) xs)))
      (value_list-from (map g (value_list us)))
      ∙ ap (λ xs. list (values_from xs))
      (both-each (Has t) g (simple_value u) g (value_list us) (e refl) h.1)
  plain_if None b t u g (int z) h e = absurd h
  plain_if (Some n) b t u g (int z) h e = absurd h
  plain_if None b t u g (truth c) h e = absurd h
  plain_if (Some n) b t u g (truth c) h e = absurd h
  plain_if None b t u g null h e = absurd h
  plain_if (Some n) b t u g null h e = absurd h
  plain_if None b t u g (row us) h e = absurd h
  plain_if (Some n) b t u g (row us) h e = absurd h
  plain_if None b t u g (alt j w) h e = absurd h
  plain_if (Some n) b t u g (alt j w) h e = absurd h

  plain_in : (t : DataType) (v : Value) → IsReached t → Has t v
      → simple_value (type_in t) (value_in t v) ≡ value_in t v
  plain_in (var t) v r k =
      plain_if None (is_leaf (present t)) t (type_in t) (value_in t) v k
      (λ e x h. plain_in t x (below t e r) h)
  plain_in (reg n t) v r k =
      plain_if (Some n) (is_leaf (present t)) t (type_in t) (value_in t) v k
      (λ e x h. plain_in t x (below t e r) h)
  plain_in (opt t) null r k = refl
  plain_in (opt t) (int z) r k =
      in_option-simple (type_in t) (value_in t (int z)) ∙ plain_in t (int z) r k
  plain_in (opt t) (truth b) r k =
      in_option-simple (type_in t) (value_in t (truth b)) ∙ plain_in t (truth b) r k
  plain_in (opt t) (list us) r k =
      in_option-simple (type_in t) (value_in t (list us)) ∙ plain_in t (list us) r k
  plain_in (opt t) (row us) r k =
      in_option-simple (type_in t) (value_in t (row us)) ∙ plain_in t (row us) r k
  plain_in (opt t) (alt j w) r k =
      in_option-simple (type_in t) (value_in t (alt j w)) ∙ plain_in t (alt j w) r k
  plain_in unknown v r k = absurd k
  plain_in (leaf p) v r k = cc
  plain_in (rec ns ts) v r k = cc
  plain_in (tup ts) v r k = cc
  plain_in (uni ts) v r k = cc

  ends_if : (c : Class) (b : Bool) (t u : DataType) (vs : List Value) → simple t ≡ t
      → (b ≡ false → (ws : List Value) → ends (simple u) ws ≡ ends u ws)
      → ends (simple (if b then t else list_type c u)) vs
      ≡ ends (if b then t else list_type c u) vs
  ends_if c true t u vs h k = ap (λ s. ends s vs) h
  ends_if None false t u vs h k = k refl (joined_items vs)
  ends_if (Some n) false t u vs h k = k refl (joined_items vs)

  ends_simple : (t : DataType) (vs : List Value) → IsReached t
      → ends (simple (type_in t)) vs ≡ ends (type_in t) vs
  ends_simple (var t) vs r =
      ends_if None (is_leaf (present t)) (typ t) (type_in t) vs (simple_result t)
      (λ e ws. ends_simple t ws (below t e r))
  ends_simple (reg n t) vs r =
      ends_if (Some n) (is_leaf (present t)) (typ t) (type_in t) vs
      (simple_result t) (λ e ws. ends_simple t ws (below t e r))
  ends_simple (opt t) vs r =
      ends_option (simple (type_in t)) vs ∙ ends_simple t (filter is_present vs) r
  ends_simple unknown vs r = refl
  ends_simple (leaf p) vs r = refl
  ends_simple (rec ns ts) vs r = cc
  ends_simple (tup ts) vs r = cc
  ends_simple (uni ts) vs r = cc

  -- what is given for each list, below lists or here
  abbrev Gives : DataType → DataType → List Value → Type 0
  Gives t m vs =
      filter is_present (ends (type_in t) (map (value_in t) vs))
      ≡ filter is_present (map (value_of m) (flat_map (lists_in t) vs))

  list_gives : (c : Class) (b : Bool) (t : DataType) (vs : List Value)
      → AllByRecursion (Has (list_type c t)) vs
      → (b ≡ false → Gives t (innermost_type t) (joined_items vs))
      → filter is_present (ends (if b then typ t else list_type c (type_in t))
      (map (λ v. if b then on_list (value_of t) v else in_list (value_in t) v) vs))
      ≡ filter is_present (map (value_of (if b then t else innermost_type t))
      (flat_map (λ v. if b then list_of v else flat_map (lists_in t) (list_items v)) vs))
  list_gives c true t vs k h =
      ends_result t (map (on_list (value_of t)) vs)
      ∙ ap (filter is_present) (lists-given c t (value_of t) vs k)
  list_gives None false t vs k h =
      ap (λ ws. filter is_present (ends (type_in t) ws)) (joined-in_list (value_in t) vs)
      ∙ h refl
      ∙ ap (λ ls. filter is_present (map (value_of (innermost_type t)) ls))
      (flat_joined (lists_in t) vs)
  list_gives (Some n) false t vs k h =
      ap (λ ws. filter is_present (ends (type_in t) ws)) (joined-in_list (value_in t) vs)
      ∙ h refl
      ∙ ap (λ ls. filter is_present (map (value_of (innermost_type t)) ls))
      (flat_joined (lists_in t) vs)

  no_leaf : (t : DataType) → IsReached t → is_leaf t ≡ false
  no_leaf (var t) r = refl
  no_leaf (reg n t) r = refl
  no_leaf (opt t) r = refl
  no_leaf unknown r = cc
  no_leaf (leaf p) r = cc
  no_leaf (rec ns ts) r = cc
  no_leaf (tup ts) r = cc
  no_leaf (uni ts) r = cc

  gives : (t : DataType) (vs : List Value) → IsReached t → AllByRecursion (Has t) vs
      → Gives t (innermost_type t) vs
  gives (var t) vs r k =
      list_gives None (is_leaf (present t)) t vs k
      (λ e. gives t (joined_items vs) (below t e r) (items-have None t vs k))
  gives (reg n t) vs r k =
      list_gives (Some n) (is_leaf (present t)) t vs k
      (λ e. gives t (joined_items vs) (below t e r) (items-have (Some n) t vs k))
  gives (opt t) vs r k =
      present_ends (type_in t) (map (in_option (value_in t)) vs)
      ∙ sym (present_ends (type_in t) (map (in_option (value_in t)) vs))
      ∙ ap (λ ws. filter is_present (ends (type_in t) ws)) (present_option (value_in t) vs)
      ∙ present_ends (type_in t) (map (value_in t) (filter is_present vs))
      ∙ gives t (filter is_present vs) r (present-have t vs k)
      ∙ ap₂ (λ m ls. filter is_present (map (value_of m) ls))
      (sym (ap (λ b. if b then opt t else innermost_type t) (no_leaf t r))) (flat_present t vs)
  gives unknown vs r k = cc
  gives (leaf p) vs r k = cc
  gives (rec ns ts) vs r k = cc
  gives (tup ts) vs r k = cc
  gives (uni ts) vs r k = cc

  -- ---- a datum

  each_plain : (t : DataType) (vs : List Value) → IsReached t → AllByRecursion (Has t) vs
      → map (λ v. simple_value (type_in t) (value_in t v)) vs ≡ map (value_in t) vs
  each_plain t [] r k = refl
  each_plain t (v ∷ vs) r k =
      ap₂ (λ x xs. x ∷ xs) (plain_in t v r k.0) (each_plain t vs r k.1)

  values_given : (t : DataType) (vs : List Value) → IsReached t → AllByRecursion (Has t) vs
      → filter is_present (ends (simple (type_in t))
      (map (λ v. simple_value (type_in t) (value_in t v)) vs))
      ≡ filter is_present (map (value_of (innermost_type t)) (flat_map (lists_in t) vs))
  values_given t vs r k =
      ap (filter is_present)
      (ends_simple t (map (λ v. simple_value (type_in t) (value_in t v)) vs) r
      ∙ ap (ends (type_in t)) (each_plain t vs r k))
      ∙ gives t vs r k

  by_array : (t : DataType) (vs : List Value) (made : Datum) (b : Bool) → is_leaf (present t) ≡ b
      → AllByRecursion (Has t) vs
      → (if b then on_whole f t vs else on_items f Innermost t vs) ≡ Ok made
      → present_values (leaves_in made)
      ≡ present_values (map (value_of (innermost_type t))
      (if b then vs ∷ [] else flat_map (lists_in t) vs))
  by_array t vs made true l k e =
      let u = typ t in
      let x = value_of t vs in
      let told = first_told (f.refusal t) (limit (simple u)) (f.spoil t (vs ∷ [])) in
      let q = refused_or-Ok told (settle (simple u) (simple_value u x)) made e in
      ap (λ d. present_values (leaves_in d)) (sym q.1)
      ∙ ap₂ (λ s y. present_values (leaves_in (settle s y))) (simple_result t)
      (plain_result t vs)
      ∙ settled_result t vs
      ∙ ap (λ m. present_values (value_of m vs ∷ [])) (sym (type_here t l))
  by_array t vs made false l k e =
      let o = option_map refusal_fault (refusal_at f Innermost t) in
      let n = option_map limit_fault (limit (simple (type_in t))) in
      let q = option_map spoil_fault
      (first_spoil (too_many (length vs)) (spoil_at f Innermost t vs)) in
      let p = refused_or-Ok (o or n or q) (arr (simple (type_in t))
      (map (λ v. simple_value (type_in t) (value_in t v)) vs)) made e in
      let r = none_map refusal_fault (refusal_at f Innermost t) (or-both o (n or q) p.0).0 in
      ap (λ d. present_values (leaves_in d)) (sym p.1) ∙ values_given t vs r k

  pub results_are : (d made : Datum) → IsTyped d → deep f d ≡ Ok made
      → present_values (leaves_in made)
      ≡ present_values (map (value_of (innermost_type (datum_type d))) (innermost_lists d))
  results_are (arr t vs) made k e = by_array t vs made (is_leaf (present t)) refl k e
  results_are (one t v) made k e =
      let o = option_map refusal_fault (refusal_at f Innermost t) in
      let n = option_map limit_fault (limit (simple (type_in t))) in
      let q = option_map spoil_fault (spoil_at f Innermost t (v ∷ [])) in
      let p = refused_or-Ok (o or n or q) (one (simple (type_in t))
      (simple_value (type_in t) (value_in t v))) made e in
      let r = none_map refusal_fault (refusal_at f Innermost t) (or-both o (n or q) p.0).0 in
      ap (λ d. present_values (leaves_in d)) (sym p.1) ∙ values_given t (v ∷ []) r (k, tt)
      ∙ ap (λ ls. present_values (map (value_of (innermost_type t)) ls)) (flat_one t v)
