-- What flatten and num give for an array of lists.
use Rattle.std.specs.Prelude.{◌≡◌, ℕ, ◌≤◌, List, [], ◌∷◌, length, map, take, drop}
use Rattle.std.specs.Prelude.{pos, Some, None, Ok, refl}
use Rattle.std.specs.List.{AllByRecursion}
use Rattle.std.proofs.Common.{ap, ap₂, sym, ◌∙◌}
use Rattle.awk_types.specs.DataType.{DataType, leaf, var, reg}
use Rattle.awk_types.specs.Datum.{Datum, arr}
use Rattle.awk_types.specs.Has.{Has}
use Rattle.awk_types.specs.ItemLimit.{item_limit}
use Rattle.awk_types.specs.Limit.{limit}
use Rattle.awk_types.specs.Settle.{settle}
use Rattle.awk_types.specs.Simple.{IsSimple, simple, simple_value}
use Rattle.awk_types.specs.Value.{Value, int, truth, null, list, row, alt, value_list}
use Rattle.awk_types.specs.Value.{values_from}
use Rattle.awk_types.specs.declared.primitive.Primitive.TheVariants.{I64}
use Rattle.awk_types.proofs.RefusalLaws.{refused_or-Ok, refused_or-None}
use Rattle.awk_types.proofs.SimpleLaws.{simple_stays, value_stays, each_stays}
use Rattle.awk_types.proofs.Trees.{value_list-from}
use Rattle.awk_list_functions.specs.declared.place.Reach.TheVariants.{Axis}
use Rattle.awk_list_functions.specs.Causes.{first_spoil}
use Rattle.awk_list_functions.specs.Counted.{counted}
use Rattle.awk_list_functions.specs.Lift.{lifted_value}
use Rattle.awk_list_functions.specs.Lifting.{first_told}
use Rattle.awk_list_functions.specs.Spoils.{too_many}
use Rattle.awk_columns.specs.Columns.{list_items, joined_items}
use Rattle.awk_columns.specs.ListClass.{Class, list_type}
use Rattle.awk_list_functions.proofs.SpoilLimits.{within_limit}
use Rattle.awk_lists.specs.Flatten.{flatten_of}
use Rattle.awk_lists.specs.Num.{num_of, length_function}
use Rattle.awk_lists.specs.Unflatten.{cut_by}
use Rattle.awk_laws.proofs.Cuts.{list_length, is_list}
use Rattle.awk_law_chains.proofs.Limits.{few_spoil-limit, counted_few, counted-limit}
use Rattle.awk_laws.proofs.Told.{told_none, none_told, none_first}

-- the array of a list of values
pub settled_values : (t : DataType) (vs : List Value)
    → settle (simple (var t)) (simple_value (var t) (list (values_from vs)))
    ≡ arr (simple t) (map (simple_value t) vs)
settled_values t vs =
    ap (arr (simple t))
    (value_list-from (map (simple_value t) (value_list (values_from vs)))
    ∙ ap (map (simple_value t)) (value_list-from vs))

-- the array of values of a simple type, one after another
pub settled_list : (t : DataType) (vs : List Value) → IsSimple t → AllByRecursion (Has t) vs
    → settle (simple (var t)) (simple_value (var t) (list (values_from vs))) ≡ arr t vs
settled_list t vs s h =
    settled_values t vs
    ∙ ap₂ arr (simple_stays t s)
    (each_stays t (simple_value t) (λ v k. value_stays t v s k) vs h)

flatten-var : (t : DataType) (ls : List Value) → IsSimple t
    → AllByRecursion (Has t) (joined_items ls) → limit t ≡ None
    → length (joined_items ls) ≤ item_limit
    → flatten_of (pos 1) (arr (var t) ls) ≡ Ok (arr t (joined_items ls))
flatten-var t ls s h l p =
    refused_or-None
    (first_told None (limit (simple t)) (counted (λ u vs. joined_items vs) (var t) (ls ∷ [])))
    (settle (simple (var t)) (simple_value (var t) (list (values_from (joined_items ls)))))
    (arr t (joined_items ls))
    (told_none (limit (simple t)) (counted (λ u vs. joined_items vs) (var t) (ls ∷ []))
    (ap limit (simple_stays t s) ∙ l) (counted_few (λ u vs. joined_items vs) (var t) ls p))
    (settled_list t (joined_items ls) s h)

pub flatten-lists : (class : Class) (t : DataType) (ls : List Value) → IsSimple t
    → AllByRecursion (Has t) (joined_items ls) → limit t ≡ None
    → length (joined_items ls) ≤ item_limit
    → flatten_of (pos 1) (arr (list_type class t) ls) ≡ Ok (arr t (joined_items ls))
flatten-lists None t ls s h l p = flatten-var t ls s h l p
flatten-lists (Some n) t ls s h l p = flatten-var t ls s h l p

given_var : (t : DataType) (ls : List Value) (items : Datum) → IsSimple t
    → AllByRecursion (Has t) (joined_items ls) → flatten_of (pos 1) (arr (var t) ls) ≡ Ok items
    → (length (joined_items ls) ≤ item_limit) × (items ≡ arr t (joined_items ls))
given_var t ls items s h e =
    let spoil = counted (λ u vs. joined_items vs) (var t) (ls ∷ []) in
    let r = refused_or-Ok (first_told None (limit (simple t)) spoil)
    (settle (simple (var t)) (simple_value (var t) (list (values_from (joined_items ls))))) items
    e in
    let n = none_told (limit (simple t)) spoil r.0 in (
      counted-limit (λ u vs. joined_items vs) (var t) ls n.1,
      sym r.1 ∙ settled_list t (joined_items ls) s h,
    )

pub flatten-given : (class : Class) (t : DataType) (ls : List Value) (items : Datum) → IsSimple t
    → AllByRecursion (Has t) (joined_items ls)
    → flatten_of (pos 1) (arr (list_type class t) ls) ≡ Ok items
    → (length (joined_items ls) ≤ item_limit) × (items ≡ arr t (joined_items ls))
flatten-given None t ls items s h e = given_var t ls items s h e
flatten-given (Some n) t ls items s h e = given_var t ls items s h e

pub simple_items : (class : Class) (t : DataType) → IsSimple (list_type class t) → IsSimple t
simple_items None t s = s
simple_items (Some n) t s = s

-- a value that is a list
abbrev pub IsList : Value → Type 0
IsList v = list (values_from (list_items v)) ≡ v

pub cut_lists : (ns : List ℕ) (vs : List Value) → AllByRecursion IsList (cut_by ns vs)
cut_lists [] vs = tt
cut_lists (n ∷ ns) vs = (
  ap (λ xs. list (values_from xs)) (value_list-from (take n vs)),
  cut_lists ns (drop n vs),
)

pub all_lists : (class : Class) (t : DataType) (ls : List Value)
    → AllByRecursion (Has (list_type class t)) ls → AllByRecursion IsList ls
all_lists class t [] h = tt
all_lists class t (v ∷ ls) h = (is_list class t v h.0, all_lists class t ls h.1)

num_value : (class : Class) (t : DataType) (v : Value) → IsList v
    → lifted_value length_function.giving (Axis 0) (list_type class t) v ≡ list_length v
num_value None t (list vs) e = refl
num_value (Some n) t (list vs) e = refl
num_value class t (int z) e = cc
num_value class t (truth b) e = cc
num_value class t null e = cc
num_value class t (row vs) e = cc
num_value class t (alt k v) e = cc

num_values : (class : Class) (t : DataType) (ls : List Value) → AllByRecursion IsList ls
    → map (λ v. lifted_value length_function.giving (Axis 0) (list_type class t) v) ls
    ≡ map list_length ls
num_values class t [] h = refl
num_values class t (v ∷ ls) h =
    ap₂ (λ x xs. x ∷ xs) (num_value class t v h.0) (num_values class t ls h.1)

pub num-lists : (class : Class) (t : DataType) (ls : List Value) → AllByRecursion IsList ls
    → length ls ≤ item_limit
    → num_of (pos 1) (arr (list_type class t) ls) ≡ Ok (arr (leaf I64) (map list_length ls))
num-lists class t ls h p = go class
  where
    told : first_told None None (first_spoil (too_many (length ls)) None) ≡ None
    told = ap (λ s. first_told None None (first_spoil s None)) (within_limit (length ls) p)

    values : Class → List Value
    values c = map (λ v. lifted_value length_function.giving (Axis 0) (list_type c t) v) ls

    go : (c : Class)
        → num_of (pos 1) (arr (list_type c t) ls) ≡ Ok (arr (leaf I64) (map list_length ls))
    go None =
        refused_or-None (first_told None None (first_spoil (too_many (length ls)) None))
        (arr (leaf I64) (values None)) (arr (leaf I64) (map list_length ls)) told
        (ap (arr (leaf I64)) (num_values None t ls h))
    go (Some n) =
        refused_or-None (first_told None None (first_spoil (too_many (length ls)) None))
        (arr (leaf I64) (values (Some n))) (arr (leaf I64) (map list_length ls)) told
        (ap (arr (leaf I64)) (num_values (Some n) t ls h))

pub num-given : (class : Class) (t : DataType) (ls : List Value) (counts : Datum)
    → AllByRecursion IsList ls → num_of (pos 1) (arr (list_type class t) ls) ≡ Ok counts
    → (length ls ≤ item_limit) × (counts ≡ arr (leaf I64) (map list_length ls))
num-given class t ls counts h e = go class e
  where
    within : first_told None None (first_spoil (too_many (length ls)) None) ≡ None
        → length ls ≤ item_limit
    within r =
        few_spoil-limit (length ls)
        (none_first (too_many (length ls))
        (none_told None (first_spoil (too_many (length ls)) None) r).1)

    go : (c : Class) → num_of (pos 1) (arr (list_type c t) ls) ≡ Ok counts
        → (length ls ≤ item_limit) × (counts ≡ arr (leaf I64) (map list_length ls))
    go None f =
        let r = refused_or-Ok (first_told None None (first_spoil (too_many (length ls)) None))
        (arr (leaf I64) (map (λ v. lifted_value length_function.giving (Axis 0) (var t) v) ls))
        counts f in
        (within r.0, sym r.1 ∙ ap (arr (leaf I64)) (num_values None t ls h))
    go (Some n) f =
        let r = refused_or-Ok (first_told None None (first_spoil (too_many (length ls)) None))
        (arr (leaf I64) (map (λ v. lifted_value length_function.giving (Axis 0) (reg n t) v) ls))
        counts f in
        (within r.0, sym r.1 ∙ ap (arr (leaf I64)) (num_values (Some n) t ls h))
