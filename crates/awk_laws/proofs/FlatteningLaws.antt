-- The laws of lists joined and cut.
use Rattle.std.specs.Prelude.{◌≡◌, ℕ, ◌≤◌, Bool, true, false, List, length, map, sum_by, pos}
use Rattle.std.specs.Prelude.{Option, Some, None, option_map, Ok, refl, if◌then◌else◌}
use Rattle.std.specs.List.{AllByRecursion, list_any}
use Rattle.std.proofs.Common.{arith, ap, ap₂, sym, ◌∙◌, subst}
use Rattle.std.proofs.lemmas.List.{length-map}
use Rattle.awk_types.specs.DataType.{DataType, leaf, var}
use Rattle.awk_types.specs.Datum.{Datum, arr}
use Rattle.awk_types.specs.Faults.{limit_fault}
use Rattle.awk_types.specs.Gives.{◌or◌}
use Rattle.awk_types.specs.Has.{Has}
use Rattle.awk_types.specs.ItemLimit.{too_many, item_limit}
use Rattle.awk_types.specs.Limit.{Limit, limit}
use Rattle.awk_types.specs.Value.{Value}
use Rattle.awk_types.specs.WholeNumbers.{is_numbers}
use Rattle.awk_types.specs.declared.fault.Fault.TheVariants.{Lengths}
use Rattle.awk_types.specs.declared.primitive.Primitive.TheVariants.{I64}
use Rattle.awk_types.proofs.RefusalLaws.{refused_or-Ok, refused_or-None, or-both}
use Rattle.awk_types.proofs.ItemLimits.{within_limit, limit_kept}
use Rattle.awk_types.proofs.PartLimits.{within_var}
use Rattle.awk_columns.specs.Columns.{joined_items}
use Rattle.awk_columns.specs.ListClass.{Class, list_type}
use Rattle.awk_frames.proofs.FramedItems.{items-have}
use Rattle.awk_lists.specs.Flatten.{flatten_of}
use Rattle.awk_lists.specs.Num.{num_of}
use Rattle.awk_lists.specs.Unflatten.{unflatten_of, cut_refused, lists_by, type_refused}
use Rattle.awk_lists.specs.Unflatten.{limit_refused, lengths_refused, do_not_add_up, cut_by}
use Rattle.awk_layout.specs.Shown.{count_of}
use Rattle.awk_lists.specs.Unflatten.{is_negative}
use Rattle.awk_lists.proofs.Cuts.{length-cut}
use Rattle.awk_law_chains.specs.Arrays.{AreItems, AreFew}
use Rattle.awk_laws.specs.Flattening.{FlatteningLaws}
use Rattle.awk_laws.proofs.Cuts.{list_length, joined-cut, lengths-cut, cut-joined}
use Rattle.awk_laws.proofs.Cuts.{counts_add_up, adding_up, none_negative, sum-lengths}
use Rattle.awk_laws.proofs.Lists.{flatten-lists, flatten-given, num-lists, num-given, cut_lists}
use Rattle.awk_laws.proofs.Lists.{all_lists, simple_items}

-- ---- what is cut is not refused

type_allowed : (u : DataType) → type_refused u ≡ None → is_numbers u ≡ true
type_allowed u e = grind arith

limit_allowed : (l : DataType) → limit_refused l ≡ None → limit (var l) ≡ None
limit_allowed l e = none_of (limit (var l)) e
  where
    none_of : (o : Option Limit) → option_map limit_fault o ≡ None → o ≡ None
    none_of None h = refl
    none_of (Some x) h = cc

lengths_allowed : (n : ℕ) (cs : List Value) → lengths_refused n cs ≡ None
    → do_not_add_up n cs ≡ false
lengths_allowed n cs e = grind arith

-- ---- the laws

-- what was not refused
record IsCut (t u : DataType) (vs cs : List Value) (lists : Datum) : Type 0 where
  numbers : is_numbers u ≡ true
  within : limit (var t) ≡ None
  natural : list_any is_negative cs ≡ false
  whole : sum_by count_of cs ≡ length vs
  few : length cs ≤ item_limit
  is : lists_by t vs cs ≡ lists

is_cut : (t u : DataType) (vs cs : List Value) (lists : Datum)
    → unflatten_of (arr t vs) (arr u cs) ≡ Ok lists → IsCut t u vs cs lists
is_cut t u vs cs lists e =
    let r = refused_or-Ok (cut_refused t vs u cs) (lists_by t vs cs) lists e in
    let a = or-both (type_refused u)
    (limit_refused t or (lengths_refused (length vs) cs or too_many (length cs))) r.0 in
    let b = or-both (limit_refused t)
    (lengths_refused (length vs) cs or too_many (length cs)) a.1 in
    let c = or-both (lengths_refused (length vs) cs) (too_many (length cs)) b.1 in
    let d = counts_add_up (length vs) cs (lengths_allowed (length vs) cs c.0) in
    record {
      numbers = type_allowed u a.0;
      within = limit_allowed t b.0;
      natural = d.0;
      whole = d.1;
      few = limit_kept (length cs) c.1;
      is = r.1;
    }

flatten_of_unflatten : (t u : DataType) (vs cs : List Value) (lists : Datum)
    → AreItems t vs → AreFew vs → unflatten_of (arr t vs) (arr u cs) ≡ Ok lists
    → flatten_of (pos 1) lists ≡ Ok (arr t vs)
flatten_of_unflatten t u vs cs lists h p e =
    let k = is_cut t u vs cs lists e in
    let ls = cut_by (map count_of cs) vs in
    let j : joined_items ls ≡ vs = joined-cut cs vs k.whole in
    ap (flatten_of (pos 1)) (sym k.is)
    ∙ flatten-lists None t ls h.simple (subst (AllByRecursion (Has t)) (sym j) h.items)
    (within_var t k.within) (subst (λ (xs : List Value). length xs ≤ item_limit) (sym j) p)
    ∙ ap (λ xs. Ok (arr t xs)) j

num_of_unflatten : (t u : DataType) (vs cs : List Value) (lists : Datum)
    → AllByRecursion (Has u) cs → unflatten_of (arr t vs) (arr u cs) ≡ Ok lists
    → num_of (pos 1) lists ≡ Ok (arr (leaf I64) cs)
num_of_unflatten t u vs cs lists h e =
    let k = is_cut t u vs cs lists e in
    let ls = cut_by (map count_of cs) vs in
    let size : length ls ≡ length cs = length-cut (map count_of cs) vs ∙ length-map cs count_of in
    ap (num_of (pos 1)) (sym k.is)
    ∙ num-lists None t ls (cut_lists (map count_of cs) vs) (omega (arith, size, k.few))
    ∙ ap (λ xs. Ok (arr (leaf I64) xs)) (lengths-cut u cs vs k.numbers h k.natural k.whole)

not_refused : (t : DataType) (vs ns : List Value) → limit (var t) ≡ None
    → do_not_add_up (length vs) ns ≡ false → length ns ≤ item_limit
    → cut_refused t vs (leaf I64) ns ≡ None
not_refused t vs ns l a p =
    ap₂ (λ x y. option_map limit_fault x or y) l
    (ap₂ (λ (x : Bool) y. (if x then Some Lengths else None) or y) a (within_limit (length ns) p))

unflatten_of_flatten : (class : Class) (t : DataType) (ls : List Value) (items counts : Datum)
    → AreItems (list_type class t) ls → limit (var t) ≡ None
    → flatten_of (pos 1) (arr (list_type class t) ls) ≡ Ok items
    → num_of (pos 1) (arr (list_type class t) ls) ≡ Ok counts
    → unflatten_of items counts ≡ Ok (arr (var t) ls)
unflatten_of_flatten class t ls items counts h l e f =
    let a = flatten-given class t ls items (simple_items class t h.simple)
    (items-have class t ls h.items) e in
    let b = num-given class t ls counts (all_lists class t ls h.items) f in
    let js = joined_items ls in
    let ns = map list_length ls in
    let size : length ns ≡ length ls = length-map ls list_length in
    let told : cut_refused t js (leaf I64) ns ≡ None =
    not_refused t js ns l (adding_up (length js) ns (none_negative ls) (sum-lengths ls))
    (omega (arith, size, b.0)) in
    ap₂ unflatten_of a.1 b.1
    ∙ refused_or-None (cut_refused t js (leaf I64) ns) (lists_by t js ns) (arr (var t) ls) told
    (ap (arr (var t)) (cut-joined class t ls h.items))

pub flattening_laws : FlatteningLaws
flattening_laws = record {
  flatten_of_unflatten = flatten_of_unflatten;
  num_of_unflatten = num_of_unflatten;
  unflatten_of_flatten = unflatten_of_flatten;
}
