-- Lists by counts, and their items one after another.
use Rattle.std.specs.Prelude.{◌≡◌, ℕ, ◌+◌, ◌≤◌, ◌==◌, true, false, ◌||◌, not, List, [], ◌∷◌, ◌++◌}
use Rattle.std.specs.Prelude.{length, map, take, drop, sum_by, pos, negsuc, refl, Some, None}
use Rattle.std.specs.List.{AllByRecursion, list_any}
use Rattle.std.proofs.Common.{arith, ap, ap₂, ◌∙◌}
use Rattle.std.proofs.lemmas.List.{length-append, length-drop, length-take-le, take-append-drop}
use Rattle.std.proofs.lemmas.List.Sums.{sum_by-cons}
use Rattle.std.proofs.Math.Seq.{drop-append_seam, take-append_seam}
use Rattle.awk_base.proofs.Truths.{or_first, or_second, same_number, equal_right}
use Rattle.awk_types.specs.DataType.{DataType, unknown, leaf, var, reg, rec, tup, opt, uni}
use Rattle.awk_types.specs.Has.{Has}
use Rattle.awk_types.specs.Value.{Value, int, truth, null, list, row, alt, values_from}
use Rattle.awk_types.specs.WholeNumbers.{is_numbers}
use Rattle.awk_types.specs.declared.primitive.Primitive.TheVariants.{Bool as Truths, I8, I16, I32}
use Rattle.awk_types.specs.declared.primitive.Primitive.TheVariants.{I64, U8, U16, U32, U64}
use Rattle.awk_types.proofs.Trees.{values_from-list, value_list-from}
use Rattle.awk_columns.specs.Columns.{list_items, joined_items}
use Rattle.awk_columns.specs.ListClass.{Class, list_type}
use Rattle.awk_layout.specs.Shown.{count_of}
use Rattle.awk_lists.specs.Unflatten.{is_negative, cut_by, do_not_add_up}

-- the length of a list as a number
abbrev pub list_length : Value → Value
list_length v = int (pos (length (list_items v)))

-- ---- what is cut, joined

pub joined-cut : (cs vs : List Value) → sum_by count_of cs ≡ length vs
    → joined_items (cut_by (map count_of cs) vs) ≡ vs
joined-cut [] [] e = refl
joined-cut [] (v ∷ vs) e = absurd (omega (arith, e))
joined-cut (c ∷ cs) vs e =
    let n = count_of c in
    let left : sum_by count_of cs ≡ length (drop n vs) =
    omega (arith, e, sum_by-cons count_of c cs, length-drop n vs) in
    ap₂ (λ xs ys. xs ++ ys) (value_list-from (take n vs)) (joined-cut cs (drop n vs) left)
    ∙ take-append-drop n vs

-- ---- the lengths of what is cut

-- a number that is not negative is its count
pub int-count : (u : DataType) (c : Value) → is_numbers u ≡ true → Has u c → is_negative c ≡ false
    → int (pos (count_of c)) ≡ c
int-count (leaf p) (int (pos n)) k h g = refl
int-count (leaf p) (int (negsuc n)) k h g = cc
int-count (leaf Truths) (truth b) k h g = cc
int-count (leaf I8) (truth b) k h g = absurd h
int-count (leaf I16) (truth b) k h g = absurd h
int-count (leaf I32) (truth b) k h g = absurd h
int-count (leaf I64) (truth b) k h g = absurd h
int-count (leaf U8) (truth b) k h g = absurd h
int-count (leaf U16) (truth b) k h g = absurd h
int-count (leaf U32) (truth b) k h g = absurd h
int-count (leaf U64) (truth b) k h g = absurd h
int-count (leaf p) null k h g = absurd h
int-count (leaf p) (list vs) k h g = absurd h
int-count (leaf p) (row vs) k h g = absurd h
int-count (leaf p) (alt j v) k h g = absurd h
int-count unknown c k h g = absurd h
int-count (var t) c k h g = cc
int-count (reg n t) c k h g = cc
int-count (rec ns ts) c k h g = cc
int-count (tup ts) c k h g = cc
int-count (opt t) c k h g = cc
int-count (uni ts) c k h g = cc

pub lengths-cut : (u : DataType) (cs vs : List Value) → is_numbers u ≡ true
    → AllByRecursion (Has u) cs → list_any is_negative cs ≡ false
    → sum_by count_of cs ≡ length vs
    → map list_length (cut_by (map count_of cs) vs) ≡ cs
lengths-cut u [] vs k h g e = refl
lengths-cut u (c ∷ cs) vs k h g e =
    let n = count_of c in
    let s : sum_by count_of (c ∷ cs) ≡ n + sum_by count_of cs = sum_by-cons count_of c cs in
    let left : sum_by count_of cs ≡ length (drop n vs) =
    omega (arith, e, s, length-drop n vs) in
    let fits : n ≤ length vs = omega (arith, e, s) in
    let first : list_length (list (values_from (take n vs))) ≡ c =
    ap (λ xs. int (pos (length xs))) (value_list-from (take n vs))
    ∙ ap (λ k. int (pos k)) (length-take-le n vs fits)
    ∙ int-count u c k h.0 (or_first (is_negative c) (list_any is_negative cs) g) in
    ap₂ (λ x xs. x ∷ xs) first
    (lengths-cut u cs (drop n vs) k h.1 (or_second (is_negative c) (list_any is_negative cs) g)
    left)

-- ---- counts that add up

pub counts_add_up : (n : ℕ) (cs : List Value) → do_not_add_up n cs ≡ false
    → (list_any is_negative cs ≡ false) × (sum_by count_of cs ≡ n)
counts_add_up n cs h = (
  or_first (list_any is_negative cs) (not (sum_by count_of cs == n)) h,
  same_number (sum_by count_of cs) n
      (or_second (list_any is_negative cs) (not (sum_by count_of cs == n)) h),
)

pub adding_up : (n : ℕ) (cs : List Value) → list_any is_negative cs ≡ false
    → sum_by count_of cs ≡ n → do_not_add_up n cs ≡ false
adding_up n cs h e = ap₂ (λ u v. u || v) h (equal_right (sum_by count_of cs) n e)

-- ---- what is joined, cut

pub none_negative : (ls : List Value) → list_any is_negative (map list_length ls) ≡ false
none_negative [] = refl
none_negative (v ∷ ls) = none_negative ls

pub sum-lengths : (ls : List Value)
    → sum_by count_of (map list_length ls) ≡ length (joined_items ls)
sum-lengths [] = refl
sum-lengths (v ∷ ls) =
    omega (
      arith,
      sum_by-cons count_of (list_length v) (map list_length ls),
      sum-lengths ls,
      length-append (list_items v) (joined_items ls),
    )

pub is_list : (class : Class) (t : DataType) (v : Value) → Has (list_type class t) v
    → list (values_from (list_items v)) ≡ v
is_list None t (list vs) h = ap list (values_from-list vs)
is_list (Some n) t (list vs) h = ap list (values_from-list vs)
is_list None t (int z) h = absurd h
is_list None t (truth b) h = absurd h
is_list None t null h = absurd h
is_list None t (row vs) h = absurd h
is_list None t (alt k v) h = absurd h
is_list (Some n) t (int z) h = absurd h
is_list (Some n) t (truth b) h = absurd h
is_list (Some n) t null h = absurd h
is_list (Some n) t (row vs) h = absurd h
is_list (Some n) t (alt k v) h = absurd h

pub cut-joined : (class : Class) (t : DataType) (ls : List Value)
    → AllByRecursion (Has (list_type class t)) ls
    → cut_by (map count_of (map list_length ls)) (joined_items ls) ≡ ls
cut-joined class t [] h = refl
cut-joined class t (v ∷ ls) h =
    ap₂ (λ x xs. x ∷ xs)
    (ap (λ xs. list (values_from xs)) (take-append_seam (list_items v) (joined_items ls))
    ∙ is_list class t v h.0)
    (ap (cut_by (map count_of (map list_length ls)))
    (drop-append_seam (list_items v) (joined_items ls)) ∙ cut-joined class t ls h.1)

-- ---- items of lists
