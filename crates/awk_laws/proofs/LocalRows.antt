-- Lists that are picked row by row by their own places, at each axis.
use Rattle.std.specs.Prelude.{◌≡◌, ℕ, suc, ◌≤◌, Bool, true, false, List, [], ◌∷◌, length, map, sum}
use Rattle.std.specs.Prelude.{pos, Option, None, option_map, Ok, refl, if◌then◌else◌}
use Rattle.std.proofs.Common.{ap, ap₂, sym, ◌∙◌, subst}
use Rattle.std.proofs.lemmas.List.FromFn.{length-map-range_with_len}
use Rattle.awk_base.proofs.Truths.{or_later}
use Rattle.awk_types.specs.DataType.{DataType, unknown, leaf, var, reg, rec, tup, opt, uni}
use Rattle.awk_types.specs.Datum.{Datum, arr}
use Rattle.awk_types.specs.Faults.{limit_fault, limit_refused}
use Rattle.awk_types.specs.Gives.{refused_or, ◌or◌}
use Rattle.awk_types.specs.ItemLimit.{item_limit}
use Rattle.awk_types.specs.Limit.{limit}
use Rattle.awk_types.specs.Parts.{list_depth}
use Rattle.awk_types.specs.Simple.{IsSimple, simple, simple_value, in_list}
use Rattle.awk_types.specs.Value.{Value, int, truth, null, list, row, alt}
use Rattle.awk_types.proofs.RefusalLaws.{refused_or-Ok, or-both}
use Rattle.awk_types.proofs.SimpleLaws.{in_option_stays, simple_is_simple}
use Rattle.awk_types.proofs.Trees.{values_from-list}
use Rattle.awk_list_functions.specs.Causes.{first_spoil}
use Rattle.awk_list_functions.specs.Counted.{counted}
use Rattle.awk_list_functions.specs.Lift.{lifted_type, lifted_value, on_list, refusal_at}
use Rattle.awk_list_functions.specs.Lifting.{refusal_fault, spoil_fault}
use Rattle.awk_list_functions.specs.ListFunction.{Giving, given_value, lists}
use Rattle.awk_list_functions.specs.Reach.{here, inner}
use Rattle.awk_list_functions.specs.Spoils.{spoil_at, too_many}
use Rattle.awk_list_functions.specs.declared.causes.Refusal.{Refusal}
use Rattle.awk_list_functions.specs.declared.place.Reach.{Reach}
use Rattle.awk_list_functions.specs.declared.place.Reach.TheVariants.{Axis}
use Rattle.awk_jagged.specs.Jagged.{jagged_of, pick_type}
use Rattle.awk_lists.specs.LocalIndex.{local_index_of, local_index_function}
use Rattle.awk_select.specs.Picks.{picked, take_places}
use Rattle.awk_law_chains.specs.Arrays.{AreItems, any_length_at, is_lists_to, picks_by_place}
use Rattle.awk_law_chains.proofs.Chains.{in_list_stays}
use Rattle.awk_laws.proofs.AnyRows.{jagged_alike, picks_alike}
use Rattle.awk_laws.proofs.JaggedPicks.{jagged_given, jagged_twice}
use Rattle.awk_law_chains.proofs.Limits.{few_spoil-limit, none_map}
use Rattle.awk_law_chains.proofs.Places.{all_places, none_outside, picked-all, take_places-all}
use Rattle.awk_law_chains.proofs.RowsPicked.{IsPicked, index-lists, is_picked, picked_by_places}

-- ---- each list at its own places

gives_same : (us : List Value) → picked us (take_places (length us) (all_places (length us))) ≡ us
gives_same us = ap (picked us) (take_places-all (length us)) ∙ picked-all us

counted-lengths : (t : DataType) (ls : List (List Value))
    → map (λ l. length (all_places (length l))) ls ≡ map length ls
counted-lengths t [] = refl
counted-lengths t (l ∷ ls) =
    ap₂ (λ n ns. n ∷ ns) (length-map-range_with_len (λ (i : ℕ). int (pos i)) 0 (length l))
    (counted-lengths t ls)

few_places : (t : DataType) (ls : List (List Value))
    → counted (λ t us. all_places (length us)) t ls ≡ None → sum (map length ls) ≤ item_limit
few_places t ls e =
    subst (λ ns. sum ns ≤ item_limit) (counted-lengths t ls)
    (few_spoil-limit (sum (map (λ l. length (all_places (length l))) ls)) e)

abbrev same : Giving
same = lists (λ class. class) (λ t. t) (λ t us. us)

same_row : (t : DataType) (v : Value) → on_list (given_value same t) v ≡ v
same_row t (list vs) = ap list (values_from-list vs)
same_row t (int z) = refl
same_row t (truth b) = refl
same_row t null = refl
same_row t (row vs) = refl
same_row t (alt j v) = refl

same_if : (b : Bool) (t : DataType) (f : Value → Value) (v : Value)
    → (b ≡ false → (x : Value) → f x ≡ x)
    → (if b then on_list (given_value same t) v else in_list f v) ≡ v
same_if true t f v e = same_row t v
same_if false t f v e = in_list_stays f v (e refl)

same_in : (k : Reach) (t : DataType) (v : Value) → is_lists_to k t ≡ true
    → lifted_value same k t v ≡ v
same_in k (var t) v r =
    same_if (here k t) t (lifted_value same (inner k) t) v
    (λ e x. same_in (inner k) t x (or_later (here k t) (is_lists_to (inner k) t) r e))
same_in k (reg n t) v r =
    same_if (here k t) t (lifted_value same (inner k) t) v
    (λ e x. same_in (inner k) t x (or_later (here k t) (is_lists_to (inner k) t) r e))
same_in k (opt t) v r = in_option_stays (lifted_value same k t) v (same_in k t v r)
same_in k unknown v r = refl
same_in k (leaf p) v r = refl
same_in k (rec ns ts) v r = cc
same_in k (tup ts) v r = cc
same_in k (uni ts) v r = cc

each_same : (f : Value → Value) (vs : List Value) → ((v : Value) → f v ≡ v) → map f vs ≡ vs
each_same f [] e = refl
each_same f (v ∷ vs) e = ap₂ (λ x xs. x ∷ xs) (e v) (each_same f vs e)

each_plain : (f g : Value → Value) (vs : List Value) → ((v : Value) → f v ≡ v)
    → map (λ v. f (g v)) vs ≡ map g vs
each_plain f g [] e = refl
each_plain f g (v ∷ vs) e = ap₂ (λ x xs. x ∷ xs) (e (g v)) (each_plain f g vs e)

-- ---- the index

abbrev places_in : DataType → List Value → List Value
places_in t us = all_places (length us)

abbrev no_refusal : DataType → Option Refusal
no_refusal t = None

abbrev index_type : ℕ → DataType → DataType
index_type a t = lifted_type local_index_function.giving (Axis a) t

abbrev index_in : ℕ → DataType → Value → Value
index_in a t v = lifted_value local_index_function.giving (Axis a) t v

abbrev IsPlaced : Reach → DataType → Type 0
IsPlaced k t =
    IsPicked (λ us. all_places (length us)) (λ us. us) gives_same (λ us. none_outside (length us))
    (λ us. refl) no_refusal (counted places_in) few_places k t

placed : (a : ℕ) (t : DataType) → IsSimple t → is_lists_to (Axis a) t ≡ true
    → IsPlaced (Axis a) t
placed a t s r =
    is_picked (λ us. all_places (length us)) (λ us. us) gives_same (λ us. none_outside (length us))
    (λ us. refl) no_refusal (counted places_in) few_places (Axis a) t s r

record IsIndex (a : ℕ) (t : DataType) (vs : List Value) (index : Datum) : Type 0 where
  is : index ≡ arr (index_type a t) (map (index_in a t) vs)
  spoil : first_spoil (too_many (length vs)) (spoil_at local_index_function (Axis a) t vs) ≡ None

index_given : (a : ℕ) (t : DataType) (vs : List Value) (index : Datum) → IsSimple t
    → is_lists_to (Axis a) t ≡ true → local_index_of (pos (suc a)) (arr t vs) ≡ Ok index
    → IsIndex a t vs index
index_given a t vs index s r e =
    let p = placed a t s r in
    let u = index_type a t in
    let x = option_map refusal_fault (refusal_at local_index_function (Axis a) t) in
    let y = option_map limit_fault (limit (simple u)) in
    let spoil = first_spoil (too_many (length vs)) (spoil_at local_index_function (Axis a) t vs) in
    let z = option_map spoil_fault spoil in
    let k = refused_or-Ok (x or (y or z))
    (arr (simple u) (map (λ v. simple_value u (index_in a t v)) vs)) index e in
    record {
      is = sym k.1
          ∙ ap₂ arr p.index_plain (each_plain (simple_value u) (index_in a t) vs p.places_plain);
      spoil = none_map spoil_fault spoil (or-both y z (or-both x (y or z) k.0).1).1;
    }

-- ---- a pick by it

any_given : (a : ℕ) (t : DataType) (vs : List Value) (index : Datum) → AreItems t vs
    → is_lists_to (Axis a) t ≡ true → local_index_of (pos (suc a)) (arr t vs) ≡ Ok index
    → jagged_of (arr t vs) index
    ≡ refused_or (limit_refused t) (arr (any_length_at (Axis a) t) vs)
any_given a t vs index h r e =
    let k = index_given a t vs index h.simple r e in
    let u = any_length_at (Axis a) t in
    ap (jagged_of (arr t vs)) k.is
    ∙ picked_by_places (λ us. all_places (length us)) (λ us. us) gives_same
    (λ us. none_outside (length us)) (λ us. refl) no_refusal (counted places_in) few_places
    (Axis a) t vs h r k.spoil
    ∙ ap (λ xs. refused_or (limit_refused t) (arr u xs))
    (each_same (lifted_value same (Axis a) t) vs (λ v. same_in (Axis a) t v r))

pub rows_by_places : (a : ℕ) (t : DataType) (vs : List Value) (index : Datum) → AreItems t vs
    → is_lists_to (Axis a) t ≡ true → limit t ≡ None
    → local_index_of (pos (suc a)) (arr t vs) ≡ Ok index
    → jagged_of (arr t vs) index ≡ Ok (arr (any_length_at (Axis a) t) vs)
rows_by_places a t vs index h r l e =
    let u = any_length_at (Axis a) t in
    any_given a t vs index h r e
    ∙ ap (λ o. refused_or (option_map limit_fault o) (arr u vs)) l

-- a mask picks what the places that it picks of that index pick
pub rows_masked : (a : ℕ) (t u w : DataType) (vs is ms : List Value) (places : Datum)
    → AreItems t vs → is_lists_to (Axis a) t ≡ true → limit t ≡ None
    → IsSimple w → list_depth u ≡ list_depth w
    → local_index_of (pos (suc a)) (arr t vs) ≡ Ok (arr u is)
    → jagged_of (arr u is) (arr w ms) ≡ Ok places
    → jagged_of (arr t vs) places ≡ jagged_of (arr t vs) (arr w ms)
rows_masked a t u w vs is ms places h r l z d e f =
    let k = index_given a t vs (arr u is) h.simple r e in
    let p = placed a t h.simple r in
    let typed : u ≡ index_type a t = same_type u (index_type a t) is (map (index_in a t) vs) k.is in
    let b = jagged_given u w is ms places f in
    sym (jagged_twice t u w vs is ms (arr (any_length_at (Axis a) t) vs) places
    (subst IsSimple (p.index_plain ∙ sym typed) (simple_is_simple (index_type a t))) z
    (ap picks_by_place typed ∙ p.by_place) d (rows_by_places a t vs (arr u is) h r l e) f)
    ∙ jagged_alike w (any_length_at (Axis a) t) t vs ms
    (picks_alike (λ k t. lifted_type local_index_function.giving k t)
    (index-lists (λ us. all_places (length us)) (λ us. us) gives_same
    (λ us. none_outside (length us)) (λ us. refl) no_refusal (counted places_in) few_places)
    (Axis a) t h.simple r w b.typ z (ap list_depth (sym typed) ∙ d)
    (ap (pick_type w) (sym typed) ∙ b.types))
  where
    same_type : (u v : DataType) (us vs : List Value) → arr u us ≡ arr v vs → u ≡ v
    same_type u v us vs e = cc
