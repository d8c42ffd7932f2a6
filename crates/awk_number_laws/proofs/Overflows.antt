-- When a reducer overflows: where the exact result of an innermost list does not fit.
use Rattle.std.specs.Prelude.{◌≡◌, Bool, true, false, List, [], ◌∷◌, map, length, sum, filter}
use Rattle.std.specs.Prelude.{nat_lt, Option, Some, None, option_map, Ok, Err, refl, if◌then◌else◌}
use Rattle.std.specs.List.{flat_map, list_any}
use Rattle.std.proofs.Common.{sym, subst}
use Rattle.awk_types.specs.DataType.{DataType, unknown, leaf, var, reg, rec, tup, opt, uni}
use Rattle.awk_types.specs.Datum.{Datum, arr, one, datum_type}
use Rattle.awk_types.specs.Faults.{limit_fault}
use Rattle.awk_types.specs.Gives.{refused_or, ◌or◌}
use Rattle.awk_types.specs.ItemLimit.{item_limit}
use Rattle.awk_types.specs.Limit.{Limit, depth_limit, size_limit, limit}
use Rattle.awk_types.specs.Predicates.{is_leaf}
use Rattle.awk_types.specs.Settle.{settle}
use Rattle.awk_types.specs.Simple.{present, simple, simple_value}
use Rattle.awk_types.specs.Value.{Value}
use Rattle.awk_types.specs.declared.fault.Fault.{Fault}
use Rattle.awk_types.specs.declared.fault.Fault.TheVariants as fault
use Rattle.awk_types.proofs.RefusalLaws.{refused_or-Ok, refused_or-Err, or-both}
use Rattle.awk_list_functions.specs.Causes.{first_spoil}
use Rattle.awk_list_functions.specs.Lift.{lifted_type, lifted_value, refusal_at}
use Rattle.awk_list_functions.specs.Lifting.{first_told, on_items, on_whole, refusal_fault}
use Rattle.awk_list_functions.specs.Lifting.{spoil_fault}
use Rattle.awk_list_functions.specs.ListFunction.{ListFunction, made_type, given_type, given_value}
use Rattle.awk_list_functions.specs.Spoils.{spoil_at, too_many}
use Rattle.awk_list_functions.specs.declared.causes.Refusal.{Refusal}
use Rattle.awk_list_functions.specs.declared.causes.Refusal.TheVariants as refused
use Rattle.awk_list_functions.specs.declared.causes.Spoil.{Spoil}
use Rattle.awk_list_functions.specs.declared.causes.Spoil.TheVariants as spoilt
use Rattle.awk_list_functions.specs.declared.place.Reach.TheVariants.{Innermost}
use Rattle.awk_columns.specs.Columns.{is_present, joined_items, list_items, list_of}
use Rattle.awk_reduce.specs.Reduce.{overflows, reduce_of, reduced_spoil, reducer_function}
use Rattle.awk_reduce.specs.declared.reducer.Reducer.{Reducer}
use Rattle.awk_law_chains.specs.Innermost.{innermost_lists, innermost_type, lists_in}
use Rattle.awk_law_chains.proofs.Limits.{none_map}
use Rattle.awk_number_laws.proofs.InnermostLists.{inside}
use Rattle.awk_number_laws.proofs.ReducedLists.{flat_joined, flat_one, flat_present, type_here}

-- ---- what is told of values

-- whether some result does not fit, where that is told, or where nothing is
record IsTold (s : Option Spoil) (b : Bool) : Type 0 where
  none : s ≡ None → b ≡ false
  some : s ≡ Some spoilt.Overflow → b ≡ true

of_lists : (large b : Bool)
    → IsTold (if large then Some spoilt.Size else (if b then Some spoilt.Overflow else None)) b
of_lists true b = record { none = λ e. cc; some = λ e. cc }
of_lists false true = record { none = λ e. cc; some = λ e. refl }
of_lists false false = record { none = λ e. refl; some = λ e. cc }

-- how many items there are is told first
behind_size : (large : Bool) (s : Option Spoil) (b : Bool) → IsTold s b
    → IsTold (first_spoil (if large then Some spoilt.Size else None) s) b
behind_size false None b h = h
behind_size false (Some spoilt.Index) b h = h
behind_size false (Some spoilt.Size) b h = h
behind_size false (Some spoilt.Overflow) b h = h
behind_size true None b h = record { none = λ e. cc; some = λ e. cc }
behind_size true (Some spoilt.Index) b h = record { none = λ e. cc; some = λ e. cc }
behind_size true (Some spoilt.Size) b h = record { none = λ e. cc; some = λ e. cc }
behind_size true (Some spoilt.Overflow) b h = record { none = λ e. cc; some = λ e. cc }

module _ (how : Reducer) where
  abbrev f : ListFunction
  f = reducer_function how

  abbrev IsReached : DataType → Type 0
  IsReached t = refusal_at f Innermost t ≡ None

  abbrev past : DataType → List (List Value) → Bool
  past t ls = list_any (overflows how t) ls

  told_lists : (t : DataType) (ls : List (List Value)) → IsTold (reduced_spoil how t ls) (past t ls)
  told_lists t ls = of_lists (nat_lt item_limit (sum (map length ls))) (past t ls)

  below : (t : DataType) → is_leaf (present t) ≡ false
      → (if is_leaf (present t) then f.refusal t else refusal_at f Innermost t) ≡ None
      → IsReached t
  below t e r = inside (f.refusal t) (refusal_at f Innermost t) (is_leaf (present t)) e r

  reached_no_leaf : (t : DataType) → IsReached t → is_leaf t ≡ false
  reached_no_leaf (var t) r = refl
  reached_no_leaf (reg n t) r = refl
  reached_no_leaf (opt t) r = refl
  reached_no_leaf unknown r = cc
  reached_no_leaf (leaf p) r = cc
  reached_no_leaf (rec ns ts) r = cc
  reached_no_leaf (tup ts) r = cc
  reached_no_leaf (uni ts) r = cc

  by_leaf : (b : Bool) (t : DataType) (vs : List Value)
      → (b ≡ false → IsTold (spoil_at f Innermost t (joined_items vs))
      (past (innermost_type t) (flat_map (lists_in t) (joined_items vs))))
      → IsTold (if b then reduced_spoil how t (flat_map list_of vs)
      else first_spoil (too_many (length (joined_items vs)))
      (spoil_at f Innermost t (joined_items vs)))
      (past (if b then t else innermost_type t)
      (flat_map (λ v. if b then list_of v else flat_map (lists_in t) (list_items v)) vs))
  by_leaf true t vs h = told_lists t (flat_map list_of vs)
  by_leaf false t vs h =
      subst (λ ls. IsTold (first_spoil (too_many (length (joined_items vs)))
      (spoil_at f Innermost t (joined_items vs))) (past (innermost_type t) ls))
      (flat_joined (lists_in t) vs)
      (behind_size (nat_lt item_limit (length (joined_items vs)))
      (spoil_at f Innermost t (joined_items vs))
      (past (innermost_type t) (flat_map (lists_in t) (joined_items vs))) (h refl))

  told_in : (t : DataType) (vs : List Value) → IsReached t
      → IsTold (spoil_at f Innermost t vs)
      (past (innermost_type t) (flat_map (lists_in t) vs))
  told_in (var t) vs r =
      by_leaf (is_leaf (present t)) t vs (λ e. told_in t (joined_items vs) (below t e r))
  told_in (reg n t) vs r =
      by_leaf (is_leaf (present t)) t vs (λ e. told_in t (joined_items vs) (below t e r))
  told_in (opt t) vs r =
      subst (λ b. IsTold (spoil_at f Innermost t (filter is_present vs))
      (past (if b then opt t else innermost_type t) (flat_map (lists_in t) vs)))
      (sym (reached_no_leaf t r))
      (subst (λ ls. IsTold (spoil_at f Innermost t (filter is_present vs))
      (past (innermost_type t) ls)) (flat_present t vs) (told_in t (filter is_present vs) r))
  told_in unknown vs r = cc
  told_in (leaf p) vs r = cc
  told_in (rec ns ts) vs r = cc
  told_in (tup ts) vs r = cc
  told_in (uni ts) vs r = cc

  -- ---- no other cause is told as an overflow

  refusal_here : (b : Bool) (r : Option Refusal) → (r ≡ Some refused.Overflow → ⊥)
      → (if b then (if b then None else Some refused.WrongType) else r) ≡ Some refused.Overflow → ⊥
  refusal_here true r h e = cc
  refusal_here false r h e = h e

  no_such_refusal : (t : DataType) → refusal_at f Innermost t ≡ Some refused.Overflow → ⊥
  no_such_refusal unknown e = cc
  no_such_refusal (leaf p) e = cc
  no_such_refusal (var t) e =
      refusal_here (is_leaf (present t)) (refusal_at f Innermost t) (no_such_refusal t) e
  no_such_refusal (reg n t) e =
      refusal_here (is_leaf (present t)) (refusal_at f Innermost t) (no_such_refusal t) e
  no_such_refusal (rec ns ts) e = cc
  no_such_refusal (tup ts) e = cc
  no_such_refusal (opt t) e = no_such_refusal t e
  no_such_refusal (uni ts) e = cc

  no_such_items : (b : Bool) → (if b then None else Some refused.WrongType) ≡ Some refused.Overflow
      → ⊥
  no_such_items true e = cc
  no_such_items false e = cc

-- ---- a datum

refusal_told : (r : Option Refusal) → option_map refusal_fault r ≡ Some fault.Overflow
    → r ≡ Some refused.Overflow
refusal_told None e = cc
refusal_told (Some refused.Axis) e = cc
refusal_told (Some refused.WrongType) e = cc
refusal_told (Some refused.Overflow) e = refl

limit_told : (l : Option Limit) → option_map limit_fault l ≡ Some fault.Overflow → ⊥
limit_told None e = cc
limit_told (Some depth_limit) e = cc
limit_told (Some size_limit) e = cc

spoil_told : (s : Option Spoil) → option_map spoil_fault s ≡ Some fault.Overflow
    → s ≡ Some spoilt.Overflow
spoil_told None e = cc
spoil_told (Some spoilt.Index) e = cc
spoil_told (Some spoilt.Size) e = cc
spoil_told (Some spoilt.Overflow) e = refl

not_first : (a b : Option Fault) → (a ≡ Some fault.Overflow → ⊥) → (a or b) ≡ Some fault.Overflow
    → (a ≡ None) × (b ≡ Some fault.Overflow)
not_first None b h e = (refl, e)
not_first (Some x) b h e = absurd (h e)

-- what the answer says of whether some result does not fit
abbrev Answers : Option Refusal → Option Limit → Option Spoil → Datum → Bool → Type 0
Answers r l s d b =
    ((made : Datum) → refused_or (first_told r l s) d ≡ Ok made → b ≡ false)
    × (refused_or (first_told r l s) d ≡ Err fault.Overflow → b ≡ true)

where_given : (r : Option Refusal) (l : Option Limit) (s : Option Spoil) (d made : Datum) (b : Bool)
    → (r ≡ None → IsTold s b) → refused_or (first_told r l s) d ≡ Ok made → b ≡ false
where_given r l s d made b told e =
    let x = option_map refusal_fault r in
    let y = option_map limit_fault l in
    let z = option_map spoil_fault s in
    let k = or-both x (y or z) (refused_or-Ok (x or (y or z)) d made e).0 in
    let of_values = told (none_map refusal_fault r k.0) in
    of_values.none (none_map spoil_fault s (or-both y z k.1).1)

where_overflowing : (r : Option Refusal) (l : Option Limit) (s : Option Spoil) (d : Datum)
    (b : Bool) → (r ≡ Some refused.Overflow → ⊥) → (r ≡ None → IsTold s b)
    → refused_or (first_told r l s) d ≡ Err fault.Overflow → b ≡ true
where_overflowing r l s d b other told e =
    let x = option_map refusal_fault r in
    let y = option_map limit_fault l in
    let z = option_map spoil_fault s in
    let k = not_first x (y or z) (λ q. other (refusal_told r q))
    (refused_or-Err (x or (y or z)) d fault.Overflow e) in
    let m = not_first y z (limit_told l) k.1 in
    let of_values = told (none_map refusal_fault r k.0) in
    of_values.some (spoil_told s m.1)

answers : (r : Option Refusal) (l : Option Limit) (s : Option Spoil) (d : Datum) (b : Bool)
    → (r ≡ Some refused.Overflow → ⊥) → (r ≡ None → IsTold s b) → Answers r l s d b
answers r l s d b other told = (
  λ made e. where_given r l s d made b told e,
  λ e. where_overflowing r l s d b other told e,
)

module _ (how : Reducer) where
  abbrev of_reducer : ListFunction
  of_reducer = reducer_function how

  -- of values of a type, for all of their lists or for those of one value
  items_answer : (t : DataType) (vs : List Value) (l : Option Limit) (d : Datum) (large : Bool)
      → Answers (refusal_at of_reducer Innermost t) l
      (first_spoil (if large then Some spoilt.Size else None)
      (spoil_at of_reducer Innermost t vs)) d
      (list_any (overflows how (innermost_type t)) (flat_map (lists_in t) vs))
  items_answer t vs l d large =
      let b = list_any (overflows how (innermost_type t)) (flat_map (lists_in t) vs) in
      answers (refusal_at of_reducer Innermost t) l
      (first_spoil (if large then Some spoilt.Size else None)
      (spoil_at of_reducer Innermost t vs)) d b (no_such_refusal how t)
      (λ r. behind_size large (spoil_at of_reducer Innermost t vs) b (told_in how t vs r))

  abbrev whole : DataType → List Value → Datum
  whole t vs =
      settle (simple (given_type of_reducer.giving None t))
      (simple_value (given_type of_reducer.giving None t) (given_value of_reducer.giving t vs))

  by_array : (b : Bool) (t : DataType) (vs : List Value) → is_leaf (present t) ≡ b
      → ((made : Datum)
      → (if b then on_whole of_reducer t vs else on_items of_reducer Innermost t vs) ≡ Ok made
      → list_any (overflows how (innermost_type t))
      (if b then vs ∷ [] else flat_map (lists_in t) vs) ≡ false)
      × ((if b then on_whole of_reducer t vs else on_items of_reducer Innermost t vs)
      ≡ Err fault.Overflow → list_any (overflows how (innermost_type t))
      (if b then vs ∷ [] else flat_map (lists_in t) vs) ≡ true)
  by_array true t vs l =
      answers (of_reducer.refusal t) (limit (simple (made_type of_reducer.giving t)))
      (of_reducer.spoil t (vs ∷ [])) (whole t vs)
      (list_any (overflows how (innermost_type t)) (vs ∷ []))
      (no_such_items how (is_leaf (present t)))
      (λ r. subst (λ u. IsTold (reduced_spoil how t (vs ∷ []))
      (list_any (overflows how u) (vs ∷ []))) (sym (type_here t l)) (told_lists how t (vs ∷ [])))
  by_array false t vs l =
      items_answer t vs (limit (simple (lifted_type of_reducer.giving Innermost t)))
      (arr (simple (lifted_type of_reducer.giving Innermost t)) (map (λ v. simple_value
      (lifted_type of_reducer.giving Innermost t) (lifted_value of_reducer.giving Innermost t v))
      vs)) (nat_lt item_limit (length vs))

  one_answer : (t : DataType) (v : Value)
      → Answers (refusal_at of_reducer Innermost t)
      (limit (simple (lifted_type of_reducer.giving Innermost t)))
      (spoil_at of_reducer Innermost t (v ∷ []))
      (one (simple (lifted_type of_reducer.giving Innermost t)) (simple_value
      (lifted_type of_reducer.giving Innermost t) (lifted_value of_reducer.giving Innermost t v)))
      (list_any (overflows how (innermost_type t)) (lists_in t v))
  one_answer t v =
      answers (refusal_at of_reducer Innermost t)
      (limit (simple (lifted_type of_reducer.giving Innermost t)))
      (spoil_at of_reducer Innermost t (v ∷ []))
      (one (simple (lifted_type of_reducer.giving Innermost t)) (simple_value
      (lifted_type of_reducer.giving Innermost t) (lifted_value of_reducer.giving Innermost t v)))
      (list_any (overflows how (innermost_type t)) (lists_in t v)) (no_such_refusal how t)
      (λ r. subst (λ ls. IsTold (spoil_at of_reducer Innermost t (v ∷ []))
      (list_any (overflows how (innermost_type t)) ls)) (flat_one t v)
      (told_in how t (v ∷ []) r))

pub no_overflow : (how : Reducer) (d made : Datum) → reduce_of how d ≡ Ok made
    → list_any (overflows how (innermost_type (datum_type d))) (innermost_lists d) ≡ false
no_overflow how (arr t vs) made e = (by_array how (is_leaf (present t)) t vs refl).0 made e
no_overflow how (one t v) made e = (one_answer how t v).0 made e

pub overflow : (how : Reducer) (d : Datum) → reduce_of how d ≡ Err fault.Overflow
    → list_any (overflows how (innermost_type (datum_type d))) (innermost_lists d) ≡ true
overflow how (arr t vs) e = (by_array how (is_leaf (present t)) t vs refl).1 e
overflow how (one t v) e = (one_answer how t v).1 e
