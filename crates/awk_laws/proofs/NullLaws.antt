-- The laws of operations on nulls.
use Rattle.std.specs.Prelude.{◌≡◌, ℕ, zero, suc, ◌≤◌, Bool, true, false, not, List, [], ◌∷◌, length}
use Rattle.std.specs.Prelude.{map, pos, Option, Some, None, Result, Ok, Err, refl, option_map}
use Rattle.std.specs.Prelude.{if◌then◌else◌, sum}
use Rattle.std.specs.List.{AllByRecursion}
use Rattle.std.proofs.Common.{arith, ap, ap₂, sym, ◌∙◌, subst}
use Rattle.std.proofs.lemmas.List.{length-map}
use Rattle.awk_types.specs.DataType.{DataType, unknown, leaf, var, reg, rec, tup, opt, uni}
use Rattle.awk_types.specs.Datum.{Datum, arr, one}
use Rattle.awk_types.specs.Gives.{refused_or, ◌or◌}
use Rattle.awk_types.specs.Has.{Has}
use Rattle.awk_types.specs.IsType.{IsType}
use Rattle.awk_types.specs.ItemLimit.{item_limit}
use Rattle.awk_types.specs.Limit.{limit}
use Rattle.awk_types.specs.Predicates.{is_null}
use Rattle.awk_types.specs.Settle.{settle}
use Rattle.awk_types.specs.Simple.{IsSimple, is_option, present, simple, simple_value, option_of}
use Rattle.awk_types.specs.Simple.{in_option}
use Rattle.awk_types.specs.Value.{Value, int, truth, null, list, row, alt, no_values, values_from}
use Rattle.awk_types.specs.Faults.{limit_fault}
use Rattle.awk_types.specs.declared.fault.Fault.{Fault}
use Rattle.awk_types.specs.declared.fault.Fault.TheVariants as fault
use Rattle.awk_primitives.proofs.RangeLaws.{fits_holds}
use Rattle.awk_primitives.specs.Fits.{fits, literal_primitive}
use Rattle.awk_types.proofs.RefusalLaws.{refused_or-Ok, refused_or-None, or-both}
use Rattle.awk_view.proofs.SettleLimits.{limit-settle}
use Rattle.awk_types.proofs.SimpleLaws.{simple_stays, value_stays, each_stays, present_simple}
use Rattle.awk_types.proofs.SimpleLaws.{present_stays, in_option_stays}
use Rattle.awk_list_functions.specs.declared.causes.Refusal.{Refusal}
use Rattle.awk_list_functions.specs.declared.causes.Refusal.TheVariants as refused
use Rattle.awk_list_functions.specs.Counted.{counted}
use Rattle.awk_list_functions.specs.Lifting.{first_told, lift, refusal_fault, spoil_fault}
use Rattle.awk_list_functions.specs.Spoils.{too_many}
use Rattle.awk_columns.specs.Columns.{present_values, joined_items}
use Rattle.awk_layout.specs.Filler.{Filler, literal, datum, is_filler, filler_value}
use Rattle.awk_fill.specs.FillNone.{fill_none_of, fill_none_function, filled, filled_type}
use Rattle.awk_fill.specs.FillNone.{filler_refusal, no_filler, filling, filler_type}
use Rattle.awk_lists.specs.Flatten.{flatten_of}
use Rattle.awk_nulls.specs.DropNone.{drop_none_of}
use Rattle.awk_nulls.specs.Firsts.{first_or_null}
use Rattle.awk_padding.specs.PadNone.{pad_none_of, padded}
use Rattle.awk_nulls.specs.Singletons.{singletons_of, single_list}
use Rattle.awk_unify.specs.Carry.{Carry, keep, in_items, to_parts, to_alternatives, carried}
use Rattle.awk_unify.proofs.UnifiesLaws.{unifies}
use Rattle.awk_law_chains.specs.Arrays.{AreItems}
use Rattle.awk_laws.specs.Nulls.{lacks_first, is_zero, IsTypedFiller}
use Rattle.awk_laws.proofs.AtAxes.{drop_of_pad, flatten_of_singles}
use Rattle.awk_law_chains.proofs.Limits.{counted_few, counted-limit}
use Rattle.awk_laws.proofs.Lists.{settled_values, flatten-lists}
use Rattle.awk_laws.proofs.Present.{present-all, has_no_null, present_typed, length-present}
use Rattle.awk_laws.proofs.Present.{present-padded, length-padded, padded_stay, joined-singles}
use Rattle.awk_laws.proofs.Present.{singles_typed}
use Rattle.awk_laws.proofs.Told.{told_none, none_told}

-- ---- drop_none of an array

-- by the type and the items that are present
abbrev kept_as : DataType → List Value → Result Datum Fault
kept_as p ps =
    refused_or (first_told None (limit (simple p)) (too_many (sum (length ps ∷ []))))
    (arr (simple p) (map (simple_value p) ps))

drop-is : (t : DataType) (vs : List Value)
    → drop_none_of (pos 0) (arr t vs) ≡ kept_as (present t) (present_values vs)
drop-is t vs =
    ap (refused_or (first_told None (limit (simple (present t)))
    (too_many (sum (length (present_values vs) ∷ [])))))
    (settled_values (present t) (present_values vs))

kept_as-Ok : (t : DataType) (vs : List Value) → IsSimple t → AllByRecursion (Has t) vs
    → limit t ≡ None → length vs ≤ item_limit → kept_as t vs ≡ Ok (arr t vs)
kept_as-Ok t vs s h l p =
    refused_or-None (first_told None (limit (simple t)) (too_many (sum (length vs ∷ []))))
    (arr (simple t) (map (simple_value t) vs)) (arr t vs)
    (told_none (limit (simple t)) (too_many (sum (length vs ∷ [])))
    (ap limit (simple_stays t s) ∙ l) (counted_few (λ u ws. ws) t vs p))
    (ap₂ arr (simple_stays t s) (each_stays t (simple_value t) (λ v k. value_stays t v s k) vs h))

-- ---- drop_none of pad_none

record IsPadded (n : ℕ) (t : DataType) (vs : List Value) (d : Datum) : Type 0 where
  within : limit (simple (opt t)) ≡ None
  few : length (padded n false vs) ≤ item_limit
  is : d ≡ arr (simple (opt t)) (map (simple_value (opt t)) (padded n false vs))

is_padded : (n : ℕ) (t : DataType) (vs : List Value) (d : Datum)
    → pad_none_of n (pos 0) false (arr t vs) ≡ Ok d → IsPadded n t vs d
is_padded n t vs d e =
    let spoil = counted (λ u ws. padded n false ws) t (vs ∷ []) in
    let r = refused_or-Ok (first_told None (limit (simple (opt t))) spoil)
    (settle (simple (var (opt t)))
    (simple_value (var (opt t)) (list (values_from (padded n false vs))))) d e in
    let told = none_told (limit (simple (opt t))) spoil r.0 in
    record {
      within = told.0;
      few = counted-limit (λ u ws. padded n false ws) t vs told.1;
      is = sym r.1 ∙ settled_values (opt t) (padded n false vs);
    }

pub drop_none_of_pad_none : (n : ℕ) (t : DataType) (vs : List Value) (whole : Datum)
    → AreItems t vs → pad_none_of n (pos 0) false (arr t vs) ≡ Ok whole
    → drop_none_of (pos 0) whole ≡ drop_none_of (pos 0) (arr t vs)
drop_none_of_pad_none n t vs whole h e =
    let p = is_padded n t vs whole e in
    let ws = map (simple_value (opt t)) (padded n false vs) in
    ap (drop_none_of (pos 0)) p.is ∙ drop-is (simple (opt t)) ws
    ∙ ap₂ kept_as (ap present (simple_stays t h.simple))
    (ap present_values (padded_stay n t vs h.simple h.items) ∙ present-padded n vs)
    ∙ sym (drop-is t vs)

-- a type that is not optional passes no limit that its option does not pass
limit_present : (t : DataType) → is_option t ≡ false → limit (opt t) ≡ None → limit t ≡ None
limit_present t e l = limit-settle (opt t) (truth true) (one t (truth true)) (settles t e) l
  where
    settles : (u : DataType) → is_option u ≡ false
        → settle (opt u) (truth true) ≡ one u (truth true)
    settles unknown f = refl
    settles (leaf p) f = refl
    settles (var u) f = refl
    settles (reg n u) f = refl
    settles (rec ns ts) f = refl
    settles (tup ts) f = refl
    settles (opt u) f = cc
    settles (uni ts) f = refl

pub unpadded : (n : ℕ) (t : DataType) (vs : List Value) (whole : Datum)
    → AreItems t vs → is_option t ≡ false → pad_none_of n (pos 0) false (arr t vs) ≡ Ok whole
    → drop_none_of (pos 0) whole ≡ Ok (arr t vs)
unpadded n t vs whole h o e =
    let p = is_padded n t vs whole e in
    let type : simple (opt t) ≡ opt t =
    ap option_of (simple_stays t h.simple) ∙ ap opt (present_stays t o) in
    let within = limit_present t o (ap limit (sym type) ∙ p.within) in
    drop_none_of_pad_none n t vs whole h e ∙ drop-is t vs
    ∙ ap₂ kept_as (present_stays t o) (present-all t vs o h.items)
    ∙ kept_as-Ok t vs h.simple h.items within (omega (arith, length-padded n vs, p.few))

-- ---- fill_none

carried_there : (f : Carry) (v : Value) → is_null v ≡ false → is_null (carried f v) ≡ false
carried_there keep v e = e
carried_there (in_items f) null e = cc
carried_there (in_items f) (int z) e = refl
carried_there (in_items f) (truth b) e = refl
carried_there (in_items f) (list vs) e = refl
carried_there (in_items f) (row vs) e = refl
carried_there (in_items f) (alt k v) e = refl
carried_there (to_parts ps fs) null e = cc
carried_there (to_parts ps fs) (int z) e = refl
carried_there (to_parts ps fs) (truth b) e = refl
carried_there (to_parts ps fs) (list vs) e = refl
carried_there (to_parts ps fs) (row vs) e = refl
carried_there (to_parts ps fs) (alt k v) e = refl
carried_there (to_alternatives ts fs) null e = cc
carried_there (to_alternatives ts fs) (int z) e = refl
carried_there (to_alternatives ts fs) (truth b) e = refl
carried_there (to_alternatives ts fs) (list vs) e = refl
carried_there (to_alternatives ts fs) (row vs) e = refl
carried_there (to_alternatives ts fs) (alt k v) e = refl

-- a value that fills, beside items of a type
record Fills (f : Filler) (t : DataType) : Type 0 where
  is_type : IsType (filler_type f t)
  is_simple : IsSimple (filler_type f t)
  typed : Has (filler_type f t) (filler_value f)
  there : is_null (filler_value f) ≡ false

some_overflow : (b : Bool)
    → ◌≡◌ {A = Option Refusal} (if b then None else Some refused.Overflow) None → b ≡ true
some_overflow true e = refl
some_overflow false e = cc

fills : (f : Filler) (t : DataType) → IsTypedFiller f → is_filler f ≡ true
    → filler_refusal f (opt t) ≡ None → Fills f t
fills (literal z) t h k r = record {
  is_type = tt;
  is_simple = tt;
  typed = fits_holds (literal_primitive t) z (some_overflow (fits (literal_primitive t) z) r);
  there = refl;
}
fills (datum (arr u ws)) t h k r = cc
fills (datum (one u w)) t h k r = record {
  is_type = h.0;
  is_simple = h.1;
  typed = h.2;
  there = has_no_null u w (not_true (is_option u) k) h.2;
}
  where
    not_true : (b : Bool) → not b ≡ true → b ≡ false
    not_true true e = cc
    not_true false e = refl

-- what items and what fills become
record Joins (f : Filler) (t : DataType) : Type 0 where
  is_simple : IsSimple (filling f t).typ
  items : (v : Value) → Has t v → Has (filling f t).typ (carried (filling f t).left v)
  filler : Has (filling f t).typ (carried (filling f t).right (filler_value f))

joins : (f : Filler) (t : DataType) → IsType t → IsSimple t → Fills f t → Joins f t
joins f t h s k =
    let u = unifies t (filler_type f t) (filling f t) s k.is_simple refl in
    let left = u.left_values h k.is_type in
    let right = u.right_values h k.is_type in
    record {
      is_simple = u.is_simple;
      items = left.values;
      filler = right.values (filler_value f) k.typed;
    }

stays_there : (t : DataType) (v : Value) → IsSimple t → Has t v → is_null v ≡ false
    → is_null (simple_value t v) ≡ false
stays_there t v s h e = ap is_null (value_stays t v s h) ∙ e

item_there : (f : Filler) (t : DataType) (v : Value) → Joins f t → Has t v → is_null v ≡ false
    → is_null (simple_value (filling f t).typ (carried (filling f t).left v)) ≡ false
item_there f t v j h e =
    stays_there (filling f t).typ (carried (filling f t).left v) j.is_simple (j.items v h)
    (carried_there (filling f t).left v e)

option_there : (f : Filler) (t : DataType) (v : Value) → Joins f t → Fills f t → Has (opt t) v
    → is_null (simple_value (filling f t).typ (filled f (opt t) v)) ≡ false
option_there f t null j k h =
    stays_there (filling f t).typ (carried (filling f t).right (filler_value f)) j.is_simple
    j.filler
    (carried_there (filling f t).right (filler_value f) k.there)
option_there f t (int z) j k h = item_there f t (int z) j h refl
option_there f t (truth b) j k h = item_there f t (truth b) j h refl
option_there f t (list vs) j k h = item_there f t (list vs) j h refl
option_there f t (row vs) j k h = item_there f t (row vs) j h refl
option_there f t (alt i v) j k h = item_there f t (alt i v) j h refl

plain_there : (t : DataType) (v : Value) → is_option t ≡ false → IsSimple t → Has t v
    → is_null (simple_value t v) ≡ false
plain_there t v o s h = stays_there t v s h (has_no_null t v o h)

filled_there : (f : Filler) (t : DataType) (v : Value) → IsType t → IsSimple t → Has t v
    → IsTypedFiller f → is_filler f ≡ true → filler_refusal f t ≡ None
    → is_null (simple_value (filled_type f t) (filled f t v)) ≡ false
filled_there f (opt t) v h s k i j r =
    let w = fills f t i j r in option_there f t v (joins f t h s.1 w) w k
filled_there f unknown v h s k i j r = plain_there unknown v refl s k
filled_there f (leaf p) v h s k i j r = plain_there (leaf p) v refl s k
filled_there f (var t) v h s k i j r = plain_there (var t) v refl s k
filled_there f (reg n t) v h s k i j r = plain_there (reg n t) v refl s k
filled_there f (rec ns ts) v h s k i j r = plain_there (rec ns ts) v refl s k
filled_there f (tup ts) v h s k i j r = plain_there (tup ts) v refl s k
filled_there f (uni ts) v h s k i j r = plain_there (uni ts) v refl s k

pub all_there : (f : Filler) (t : DataType) (vs : List Value) → IsType t → IsSimple t
    → AllByRecursion (Has t) vs → IsTypedFiller f → is_filler f ≡ true
    → filler_refusal f t ≡ None
    → AllByRecursion (λ w. is_null w ≡ false)
    (map (simple_value (filled_type f t)) (map (filled f t) vs))
all_there f t [] h s k i j r = tt
all_there f t (v ∷ vs) h s k i j r =
    (filled_there f t v h s k.0 i j r, all_there f t vs h s k.1 i j r)

never : (r : Result Datum Fault) (d : Datum) → no_filler r ≡ Ok d → ⊥
never (Ok x) d e = cc
never (Err (fault.Unbound n)) d e = cc
never (Err (fault.NoField n)) d e = cc
never (Err fault.Axis) d e = cc
never (Err fault.WrongType) d e = cc
never (Err fault.Overflow) d e = cc
never (Err fault.Zero) d e = cc
never (Err fault.Depth) d e = cc
never (Err fault.Size) d e = cc
never (Err fault.Lengths) d e = cc
never (Err fault.Index) d e = cc
never (Err fault.NoMemory) d e = cc

pub by_filler : (b : Bool) (r : Result Datum Fault) (d : Datum)
    → (if b then r else no_filler r) ≡ Ok d
    → (b ≡ true) × (r ≡ Ok d)
by_filler true r d e = (refl, e)
by_filler false r d e = absurd (never r d e)

none_refused : (r : Option Refusal) → option_map refusal_fault r ≡ None → r ≡ None
none_refused None e = refl
none_refused (Some x) e = cc

pub fill_none_leaves_no_null : (t u : DataType) (vs ws : List Value) (filler : Filler)
    → IsType t → AreItems t vs → IsTypedFiller filler
    → fill_none_of (arr t vs) filler (pos 0) ≡ Ok (arr u ws)
    → AllByRecursion (λ w. is_null w ≡ false) ws
fill_none_leaves_no_null t u vs ws f h k i e =
    let a = by_filler (is_filler f) (lift (fill_none_function f) (pos 0) (arr t vs)) (arr u ws) e in
    let w = filled_type f t in
    let xs = map (filled f t) vs in
    let l = limit (simple w) in
    let spoil = counted (λ v ys. map (filled f v) ys) t (vs ∷ []) in
    let r = refused_or-Ok (first_told (filler_refusal f t) l spoil)
    (settle (simple (var w)) (simple_value (var w) (list (values_from xs)))) (arr u ws) a.1 in
    let told = or-both (option_map refusal_fault (filler_refusal f t))
    (option_map limit_fault l or option_map spoil_fault spoil) r.0 in
    let same : arr (simple w) (map (simple_value w) xs) ≡ arr u ws =
    sym (settled_values w xs) ∙ r.1 in
    let items : map (simple_value w) xs ≡ ws = cc in
    subst (AllByRecursion (λ v. is_null v ≡ false)) items
    (all_there f t vs h k.simple k.items i a.0 (none_refused (filler_refusal f t) told.0))

-- ---- firsts

pub head_null : (t : DataType) (vs : List Value) → IsSimple t → AllByRecursion (Has t) vs
    → is_null (in_option (simple_value t) (first_or_null vs)) ≡ lacks_first vs
head_null t [] s h = refl
head_null t (v ∷ vs) s h =
    ap is_null (in_option_stays (simple_value t) v (value_stays t v s h.0))

pub no_items : (t : DataType) (vs : List Value) → is_option t ≡ false → AllByRecursion (Has t) vs
    → lacks_first vs ≡ is_zero (int (pos (length vs)))
no_items t [] o h = refl
no_items t (v ∷ vs) o h = has_no_null t v o h.0

-- ---- singletons

pub flatten_of_singletons : (t : DataType) (vs : List Value) (lists : Datum) → AreItems t vs
    → singletons_of (pos 0) (arr t vs) ≡ Ok lists
    → flatten_of (pos 1) lists ≡ drop_none_of (pos 0) (arr t vs)
flatten_of_singletons t vs lists h e =
    let p = present t in
    let ls = map single_list vs in
    let spoil = counted (λ u ws. map single_list ws) t (vs ∷ []) in
    let r = refused_or-Ok (first_told None (limit (simple (var p))) spoil)
    (settle (simple (var (var p))) (simple_value (var (var p)) (list (values_from ls)))) lists e in
    let told = none_told (limit (simple (var p))) spoil r.0 in
    let s : IsSimple p = present_simple t h.simple in
    let singles = singles_typed t vs h.items in
    let is : lists ≡ arr (var p) ls =
    sym r.1 ∙ settled_values (var p) ls
    ∙ ap₂ arr (simple_stays (var p) s)
    (each_stays (var p) (simple_value (var p)) (λ v k. value_stays (var p) v s k) ls singles) in
    let within : limit p ≡ None =
    limit-settle (var p) (list no_values) (arr p []) refl
    (ap limit (sym (simple_stays (var p) s)) ∙ told.0) in
    let j : joined_items ls ≡ present_values vs = joined-singles vs in
    let typed = present_typed t vs h.items in
    let few : length (present_values vs) ≤ item_limit =
    small (length (present_values vs)) (length vs) (length ls) (length-present vs)
    (length-map vs single_list) (counted-limit (λ u ws. map single_list ws) t vs told.1) in
    ap (flatten_of (pos 1)) is
    ∙ flatten-lists None p ls s (subst (AllByRecursion (Has p)) (sym j) typed) within
    (subst (λ (xs : List Value). length xs ≤ item_limit) (sym j) few)
    ∙ ap (λ xs. Ok (arr p xs)) j
    ∙ sym (drop-is t vs ∙ kept_as-Ok p (present_values vs) s typed within few)
  where
    small : (a b c : ℕ) → a ≤ b → c ≡ b → c ≤ item_limit → a ≤ item_limit
    small a b c x y z = omega (arith, x, y, z)

-- ---- at each axis

same_datum : (x y : Datum) → ◌≡◌ {A = Result Datum Fault} (Ok x) (Ok y) → x ≡ y
same_datum x y e = cc

pub drop_none_of_pad_none_at : (n axis : ℕ) (t : DataType) (vs : List Value)
    (whole unpadded dropped : Datum) → axis ≤ 60 → AreItems t vs
    → pad_none_of n (pos axis) false (arr t vs) ≡ Ok whole
    → drop_none_of (pos axis) whole ≡ Ok unpadded
    → drop_none_of (pos axis) (arr t vs) ≡ Ok dropped → unpadded ≡ dropped
drop_none_of_pad_none_at n zero t vs whole x y p h e d q =
    same_datum x y (sym d ∙ drop_none_of_pad_none n t vs whole h e ∙ q)
drop_none_of_pad_none_at n (suc a) t vs whole x y p h e d q =
    drop_of_pad n a t vs whole x y (omega (arith, p)) h e d q

pub flatten_of_singletons_at : (axis : ℕ) (t : DataType) (vs : List Value)
    (lists joined dropped : Datum) → axis ≤ 60 → AreItems t vs
    → singletons_of (pos axis) (arr t vs) ≡ Ok lists
    → flatten_of (pos (suc axis)) lists ≡ Ok joined
    → drop_none_of (pos axis) (arr t vs) ≡ Ok dropped → joined ≡ dropped
flatten_of_singletons_at zero t vs ls x y p h e d q =
    same_datum x y (sym d ∙ flatten_of_singletons t vs ls h e ∙ q)
flatten_of_singletons_at (suc a) t vs ls x y p h e d q =
    flatten_of_singles a t vs ls x y (omega (arith, p)) h e d q
