-- Sums of sums, of any nesting.
use Rattle.std.proofs.Common.{◌≡◌, refl, ap, sym, ◌∙◌, List, [], ◌∷◌, ◌++◌, map, length}
use Rattle.std.specs.Prelude.{ℤ, ◌+ℤ◌, Bool, true, false, filter, None, Ok, option_map}
use Rattle.std.specs.Prelude.{if◌then◌else◌}
use Rattle.std.specs.List.{flat_map}
use Rattle.std.proofs.Math.IntN.{+ℤ_assoc, +ℤ_idl}
use Rattle.std.proofs.lemmas.List.{append-nil}
use Rattle.awk_types.specs.DataType.{DataType, unknown, leaf, var, reg, rec, tup, opt, uni}
use Rattle.awk_types.specs.Datum.{Datum, arr, one}
use Rattle.awk_types.specs.Faults.{limit_fault}
use Rattle.awk_types.specs.Gives.{◌or◌}
use Rattle.awk_types.specs.Limit.{limit}
use Rattle.awk_types.specs.Parts.{number_of}
use Rattle.awk_types.specs.Predicates.{is_leaf}
use Rattle.awk_types.specs.Simple.{present, simple, simple_value}
use Rattle.awk_types.specs.Value.{Value, int, truth, null, list, row, alt, value_list}
use Rattle.awk_types.proofs.RefusalLaws.{refused_or-Ok, or-both}
use Rattle.awk_kernels.specs.Kernels.{total}
use Rattle.awk_list_functions.specs.Causes.{first_spoil}
use Rattle.awk_list_functions.specs.Lift.{lifted_type, lifted_value, refusal_at}
use Rattle.awk_list_functions.specs.Lifting.{on_items, on_whole, refusal_fault, spoil_fault}
use Rattle.awk_list_functions.specs.ListFunction.{ListFunction}
use Rattle.awk_list_functions.specs.Spoils.{spoil_at, too_many}
use Rattle.awk_list_functions.specs.declared.place.Reach.TheVariants.{Innermost}
use Rattle.awk_columns.specs.Columns.{is_present, joined_items, list_items, list_of, lists_among}
use Rattle.awk_columns.specs.Columns.{present_values}
use Rattle.awk_frames.specs.Shape.{ends}
use Rattle.awk_pair_operands.specs.Typed.{IsTyped}
use Rattle.awk_present.specs.Numbers.{numbers}
use Rattle.awk_reduce.specs.Reduce.{reduce_of, reducer_function}
use Rattle.awk_reduce.specs.declared.reducer.Reducer.TheVariants.{Sum}
use Rattle.awk_law_chains.specs.Innermost.{innermost_lists, leaves_in, lists_in}
use Rattle.awk_law_chains.proofs.Limits.{none_map}
use Rattle.awk_number_laws.proofs.InnermostLists.{inside}
use Rattle.awk_number_laws.proofs.NumberLaws.{numbers-append}
use Rattle.awk_number_laws.proofs.ReducedLists.{flat_joined, flat_one, flat_present, present_twice}
use Rattle.awk_number_laws.proofs.ReducedLeaves.{reduced_are}

-- ---- numbers

pub total-append : (ys zs : List ℤ) → total (ys ++ zs) ≡ total ys +ℤ total zs
total-append [] zs = sym (+ℤ_idl (total zs))
total-append (y ∷ ys) zs =
    ap (λ n. y +ℤ n) (total-append ys zs) ∙ sym (+ℤ_assoc y (total ys) (total zs))

pub total-joined : (ls : List (List Value))
    → total (numbers (flat_map (λ l. l) ls)) ≡ total (map (λ l. total (numbers l)) ls)
total-joined [] = refl
total-joined (l ∷ ls) =
    ap total (numbers-append l (flat_map (λ l. l) ls))
    ∙ total-append (numbers l) (numbers (flat_map (λ l. l) ls))
    ∙ ap (λ n. total (numbers l) +ℤ n) (total-joined ls)

pub numbers-ints : (f : List Value → ℤ) (ls : List (List Value))
    → numbers (map (λ l. int (f l)) ls) ≡ map f ls
numbers-ints f [] = refl
numbers-ints f (l ∷ ls) = ap (λ zs. f l ∷ zs) (numbers-ints f ls)

-- ---- the leaves of the innermost lists are those of the datum

abbrev joined : List (List Value) → List Value
joined ls = flat_map (λ l. l) ls

abbrev f : ListFunction
f = reducer_function Sum

abbrev IsReached : DataType → Type 0
IsReached t = refusal_at f Innermost t ≡ None

joined_lists : (vs : List Value) → joined (lists_among vs) ≡ joined_items vs
joined_lists [] = refl
joined_lists (list us ∷ vs) = ap (λ ws. value_list us ++ ws) (joined_lists vs)
joined_lists (int z ∷ vs) = joined_lists vs
joined_lists (truth b ∷ vs) = joined_lists vs
joined_lists (null ∷ vs) = joined_lists vs
joined_lists (row us ∷ vs) = joined_lists vs
joined_lists (alt j u ∷ vs) = joined_lists vs

leaf_ends : (t : DataType) (vs : List Value) → is_leaf (present t) ≡ true
    → present_values (ends t vs) ≡ present_values vs
leaf_ends unknown vs l = refl
leaf_ends (leaf p) vs l = refl
leaf_ends (opt unknown) vs l = present_twice vs
leaf_ends (opt (leaf p)) vs l = present_twice vs
leaf_ends (var t) vs l = cc
leaf_ends (reg n t) vs l = cc
leaf_ends (rec ns ts) vs l = cc
leaf_ends (tup ts) vs l = cc
leaf_ends (uni ts) vs l = cc
leaf_ends (opt (var t)) vs l = cc
leaf_ends (opt (reg n t)) vs l = cc
leaf_ends (opt (rec ns ts)) vs l = cc
leaf_ends (opt (tup ts)) vs l = cc
leaf_ends (opt (opt t)) vs l = cc
leaf_ends (opt (uni ts)) vs l = cc

by_leaf : (b : Bool) (t : DataType) (vs : List Value) → is_leaf (present t) ≡ b
    → (b ≡ false → (ws : List Value)
    → present_values (joined (flat_map (lists_in t) ws)) ≡ present_values (ends t ws))
    → present_values (joined (flat_map (λ v. if b then list_of v
    else flat_map (lists_in t) (list_items v)) vs))
    ≡ present_values (ends t (joined_items vs))
by_leaf true t vs l h =
    ap present_values (joined_lists vs) ∙ sym (leaf_ends t (joined_items vs) l)
by_leaf false t vs l h =
    ap (λ ls. present_values (joined ls)) (sym (flat_joined (lists_in t) vs))
    ∙ h refl (joined_items vs)

below : (t : DataType) → is_leaf (present t) ≡ false
    → (if is_leaf (present t) then f.refusal t else refusal_at f Innermost t) ≡ None → IsReached t
below t e r = inside (f.refusal t) (refusal_at f Innermost t) (is_leaf (present t)) e r

all_leaves : (t : DataType) (vs : List Value) → IsReached t
    → present_values (joined (flat_map (lists_in t) vs)) ≡ present_values (ends t vs)
all_leaves (var t) vs r =
    by_leaf (is_leaf (present t)) t vs refl (λ e ws. all_leaves t ws (below t e r))
all_leaves (reg n t) vs r =
    by_leaf (is_leaf (present t)) t vs refl (λ e ws. all_leaves t ws (below t e r))
all_leaves (opt t) vs r =
    ap (λ ls. present_values (joined ls)) (sym (flat_present t vs))
    ∙ all_leaves t (filter is_present vs) r
all_leaves unknown vs r = cc
all_leaves (leaf p) vs r = cc
all_leaves (rec ns ts) vs r = cc
all_leaves (tup ts) vs r = cc
all_leaves (uni ts) vs r = cc

array_leaves : (t : DataType) (vs : List Value) (made : Datum) (b : Bool)
    → is_leaf (present t) ≡ b
    → (if b then on_whole f t vs else on_items f Innermost t vs) ≡ Ok made
    → present_values (joined (if b then vs ∷ [] else flat_map (lists_in t) vs))
    ≡ present_values (ends t vs)
array_leaves t vs made true l e =
    ap present_values (append-nil vs) ∙ sym (leaf_ends t vs l)
array_leaves t vs made false l e =
    let u = lifted_type f.giving Innermost t in
    let x = option_map refusal_fault (refusal_at f Innermost t) in
    let y = option_map limit_fault (limit (simple u)) in
    let z = option_map spoil_fault
    (first_spoil (too_many (length vs)) (spoil_at f Innermost t vs)) in
    let k = refused_or-Ok (x or (y or z)) (arr (simple u)
    (map (λ v. simple_value u (lifted_value f.giving Innermost t v)) vs)) made e in
    all_leaves t vs
    (none_map refusal_fault (refusal_at f Innermost t) (or-both x (y or z) k.0).0)

lists_leaves : (d made : Datum) → reduce_of Sum d ≡ Ok made
    → present_values (joined (innermost_lists d)) ≡ present_values (leaves_in d)
lists_leaves (arr t vs) made e = array_leaves t vs made (is_leaf (present t)) refl e
lists_leaves (one t v) made e =
    let u = lifted_type f.giving Innermost t in
    let x = option_map refusal_fault (refusal_at f Innermost t) in
    let y = option_map limit_fault (limit (simple u)) in
    let z = option_map spoil_fault (spoil_at f Innermost t (v ∷ [])) in
    let k = refused_or-Ok (x or (y or z)) (one (simple u)
    (simple_value u (lifted_value f.giving Innermost t v))) made e in
    ap (λ ls. present_values (joined ls)) (sym (flat_one t v))
    ∙ all_leaves t (v ∷ [])
    (none_map refusal_fault (refusal_at f Innermost t) (or-both x (y or z) k.0).0)

-- ---- sums add up to what the leaves do

pub totals_are : (d made : Datum) → IsTyped d → reduce_of Sum d ≡ Ok made
    → total (numbers (leaves_in made)) ≡ total (numbers (leaves_in d))
totals_are d made h e =
    let ls = innermost_lists d in
    ap (λ vs. total (map number_of vs)) (reduced_are Sum d made h e)
    ∙ ap total (numbers-ints (λ l. total (numbers l)) ls)
    ∙ sym (total-joined ls)
    ∙ ap (λ vs. total (map number_of vs)) (lists_leaves d made e)
