-- What the lists of a column come to, level by level.
use Rattle.std.proofs.Common.{◌≡◌, ℕ, ◌+◌, ◌*◌, ◌<◌, ◌≤◌, List, [], ◌∷◌, ◌++◌, length, refl, ap}
use Rattle.std.proofs.Common.{ap₂, sym, ◌∙◌, arith}
use Rattle.std.specs.Prelude.{Bool, true, false, cond, nat_lt, Option, Some, None, if◌then◌else◌}
use Rattle.std.specs.List.{count_by, flat_map, range_with_len}
use Rattle.std.proofs.lemmas.List.Concat.{flat_map-append, flat_map-cons}
use Rattle.std.proofs.lemmas.List.Sums.{sum_by-cons, sum_by-append}
use Rattle.awk_types.specs.DataType.{DataType, unknown, leaf, var, reg, rec, tup, opt, uni, depth}
use Rattle.awk_types.specs.Gives.{◌or◌}
use Rattle.awk_types.specs.ItemLimit.{item_limit, too_many}
use Rattle.awk_types.specs.Predicates.{is_leaf, is_null}
use Rattle.awk_types.specs.Simple.{present}
use Rattle.awk_types.specs.Value.{Value, int, truth, null, list, row, alt}
use Rattle.awk_types.specs.WholeNumbers.{is_numbers}
use Rattle.awk_types.specs.declared.fault.Fault.{Fault}
use Rattle.awk_types.specs.declared.fault.Fault.TheVariants.{Size}
use Rattle.awk_lanes.specs.Column.{Column}
use Rattle.awk_lanes.specs.Places.{size_of}
use Rattle.awk_layout.specs.Layout.{Layout}
use Rattle.awk_layout.specs.Typing.{array_type, array_items}
use Rattle.awk_columns.specs.Columns.{list_items, joined_items, present_values}
use Rattle.awk_columns.specs.Joined.{IsJoined, total}
use Rattle.awk_columns.specs.ListClass.{Class, list_type}
use Rattle.awk_columns.specs.Lists.{items_at}
use Rattle.awk_open.specs.Opens.{OpensLists, OpensOption}
use Rattle.awk_columns.specs.declared.lists.Joined.TheVariants as joined
use Rattle.awk_open.proofs.OpenedLists.{lists-inner}
use Rattle.awk_hist.specs.Hist.{leaves, has_numbers, lists_refused}
use Rattle.awk_hist.specs.Lists.{IsInnermost}
use Rattle.awk_hist.specs.declared.innermost.Innermost.{Innermost}
use Rattle.awk_hist.specs.declared.innermost.Innermost.TheVariants as innermost

-- ---- leaves

leaf_numbers : (t : DataType) → is_leaf t ≡ true → has_numbers t ≡ true → is_numbers t ≡ true
leaf_numbers unknown l h = refl
leaf_numbers (leaf p) l h = h
leaf_numbers (var t) l h = cc
leaf_numbers (reg n t) l h = cc
leaf_numbers (rec ns ts) l h = cc
leaf_numbers (tup ts) l h = cc
leaf_numbers (opt t) l h = cc
leaf_numbers (uni ts) l h = cc

present_numbers : (t : DataType) → is_leaf (present t) ≡ true → has_numbers t ≡ true
    → is_numbers (present t) ≡ true
present_numbers unknown l h = refl
present_numbers (leaf p) l h = h
present_numbers (var t) l h = cc
present_numbers (reg n t) l h = cc
present_numbers (rec ns ts) l h = cc
present_numbers (tup ts) l h = cc
present_numbers (opt t) l h = leaf_numbers t l h
present_numbers (uni ts) l h = cc

leaf_refused : (t : DataType) (vs : List Value) → is_leaf t ≡ true → lists_refused t vs ≡ None
leaf_refused unknown vs l = refl
leaf_refused (leaf p) vs l = refl
leaf_refused (var t) vs l = cc
leaf_refused (reg n t) vs l = cc
leaf_refused (rec ns ts) vs l = refl
leaf_refused (tup ts) vs l = refl
leaf_refused (opt t) vs l = cc
leaf_refused (uni ts) vs l = refl

present_refused : (t : DataType) (vs : List Value) → is_leaf (present t) ≡ true
    → lists_refused t vs ≡ None
present_refused unknown vs l = refl
present_refused (leaf p) vs l = refl
present_refused (var t) vs l = cc
present_refused (reg n t) vs l = cc
present_refused (rec ns ts) vs l = refl
present_refused (tup ts) vs l = refl
present_refused (opt t) vs l = leaf_refused t (present_values vs) l
present_refused (uni ts) vs l = refl

leaf_alone : (t : DataType) (v : Value) → is_leaf t ≡ true → leaves t v ≡ v ∷ []
leaf_alone unknown v l = refl
leaf_alone (leaf p) v l = refl
leaf_alone (var t) v l = cc
leaf_alone (reg n t) v l = cc
leaf_alone (rec ns ts) v l = refl
leaf_alone (tup ts) v l = refl
leaf_alone (opt t) v l = cc
leaf_alone (uni ts) v l = refl

option_alone : (t : DataType) (v : Value) → is_leaf t ≡ true → leaves (opt t) v ≡ v ∷ []
option_alone t null l = refl
option_alone t (int z) l = leaf_alone t (int z) l
option_alone t (truth b) l = leaf_alone t (truth b) l
option_alone t (list vs) l = leaf_alone t (list vs) l
option_alone t (row vs) l = leaf_alone t (row vs) l
option_alone t (alt k v) l = leaf_alone t (alt k v) l

present_alone : (t : DataType) (v : Value) → is_leaf (present t) ≡ true → leaves t v ≡ v ∷ []
present_alone unknown v l = refl
present_alone (leaf p) v l = refl
present_alone (var t) v l = cc
present_alone (reg n t) v l = cc
present_alone (rec ns ts) v l = refl
present_alone (tup ts) v l = refl
present_alone (opt t) v l = option_alone t v l
present_alone (uni ts) v l = refl

flat_map-alone : (f : Value → List Value) → ((v : Value) → f v ≡ v ∷ []) → (vs : List Value)
    → flat_map f vs ≡ vs
flat_map-alone f h [] = refl
flat_map-alone f h (v ∷ vs) =
    flat_map-cons f v vs ∙ ap₂ (λ xs ys. xs ++ ys) (h v) (flat_map-alone f h vs)

pub innermost_here : (x : Layout) → is_leaf (present (array_type x)) ≡ true
    → has_numbers (array_type x) ≡ true → length (array_items x) ≤ item_limit
    → IsInnermost (array_type x) (array_items x) (innermost.Column x 0)
innermost_here x l h few = (
  present_refused (array_type x) (array_items x) l,
  record {
    numbers = present_numbers (array_type x) l h;
    few = few;
    nulls = omega arith;
    counts = λ p.
        ap (count_by p)
        (flat_map-alone (leaves (array_type x)) (λ v. present_alone (array_type x) v l)
        (array_items x))
        ∙ none (p null) (count_by p (array_items x));
  },
)
  where
    none : (b : Bool) (n : ℕ) → n ≡ n + cond b 0 0
    none true n = omega arith
    none false n = omega arith

-- ---- lists

list_leaves : (t : DataType) (vs : List Value)
    → flat_map (λ v. flat_map (leaves t) (list_items v)) vs ≡ flat_map (leaves t) (joined_items vs)
list_leaves t [] = refl
list_leaves t (v ∷ vs) =
    flat_map-cons (λ v. flat_map (leaves t) (list_items v)) v vs
    ∙ ap (λ xs. flat_map (leaves t) (list_items v) ++ xs) (list_leaves t vs)
    ∙ sym (ap (flat_map (leaves t)) (flat_map-cons list_items v vs)
    ∙ flat_map-append (leaves t) (list_items v) (joined_items vs))

class_leaves : (c : Class) (t : DataType) (vs : List Value)
    → flat_map (leaves (list_type c t)) vs ≡ flat_map (leaves t) (joined_items vs)
class_leaves None t vs = list_leaves t vs
class_leaves (Some n) t vs = list_leaves t vs

class_refused : (c : Class) (t : DataType) (vs : List Value)
    → lists_refused (list_type c t) vs
    ≡ (too_many (length (joined_items vs)) or lists_refused t (joined_items vs))
class_refused None t vs = refl
class_refused (Some n) t vs = refl

class_depth : (c : Class) (t : DataType) → depth t ≤ depth (list_type c t)
class_depth None t = omega arith
class_depth (Some n) t = omega arith

over : (n : ℕ) (o : Option Fault) → item_limit < n → (too_many n or o) ≡ Some Size
over n o l =
    let e : nat_lt item_limit n ≡ true = grind (arith, l) in
    ap (λ b. (if b then Some Size else None) or o) e

under : (n : ℕ) (o : Option Fault) → n ≤ item_limit → (too_many n or o) ≡ o
under n o l =
    let e : nat_lt item_limit n ≡ false = grind (arith, l) in
    ap (λ b. (if b then Some Size else None) or o) e

times : (k a b : ℕ) → a ≤ b → k * a ≤ k * b
times k a b l = grind (arith, l)

module _ (c : Class) (s e : Column) (y x : Layout) (o : OpensLists c s e y x) where
  inner : joined_items (array_items x) ≡ flat_map (items_at s e y) (range_with_len 0 (size_of s))
  inner =
      lists-inner c s e y x o
      ∙ ap (λ n. flat_map (items_at s e y) (range_with_len 0 n)) (sym o.size)

  refused_by : lists_refused (array_type x) (array_items x)
      ≡ (too_many (total s e y)
      or lists_refused (array_type y) (flat_map (items_at s e y) (range_with_len 0 (size_of s))))
  refused_by =
      ap (λ t. lists_refused t (array_items x)) o.typ
      ∙ class_refused c (array_type y) (array_items x)
      ∙ ap (λ vs. too_many (length vs) or lists_refused (array_type y) vs) inner

  pub lists_many : IsJoined s e y joined.TooMany
      → lists_refused (array_type x) (array_items x) ≡ Some Size
  lists_many h = refused_by ∙ over (total s e y) _ h

  module _ (w : Column) (z : Layout) (j : IsJoined s e y (joined.Lists w z)) where
    same : lists_refused (array_type x) (array_items x)
        ≡ lists_refused (array_type z) (array_items z)
    same =
        refused_by
        ∙ under (total s e y)
        (lists_refused (array_type y)
        (flat_map (items_at s e y) (range_with_len 0 (size_of s)))) j.0
        ∙ ap₂ lists_refused (sym j.1.typ) (sym j.1.column)

    deeper : depth (array_type z) ≤ depth (array_type x)
    deeper =
        omega (arith, ap depth j.1.typ, class_depth c (array_type y), ap depth o.typ)

    counted : (p : Value → Bool)
        → count_by p (flat_map (leaves (array_type x)) (array_items x))
        ≡ count_by p (flat_map (leaves (array_type z)) (array_items z))
    counted p =
        ap (count_by p)
        (ap (λ t. flat_map (leaves t) (array_items x)) o.typ
        ∙ class_leaves c (array_type y) (array_items x)
        ∙ ap (flat_map (leaves (array_type y))) inner
        ∙ ap₂ (λ t vs. flat_map (leaves t) vs) (sym j.1.typ) (sym j.1.column))

    pub lists_inner : (m : Innermost) → IsInnermost (array_type z) (array_items z) m
        → IsInnermost (array_type x) (array_items x) m
    lists_inner innermost.TooMany h = same ∙ h
    lists_inner (innermost.Column q more) h = (
      same ∙ h.0,
      record {
        numbers = h.1.numbers;
        few = h.1.few;
        nulls = omega (
          arith,
          h.1.nulls,
          times item_limit (depth (array_type z)) (depth (array_type x)) deeper,
        );
        counts = λ p. counted p ∙ h.1.counts p;
      },
    )

-- ---- options

pub present_few : (vs : List Value)
    → length vs ≡ length (present_values vs) + count_by is_null vs
present_few [] = refl
present_few (v ∷ vs) = by v (present_few vs)
  where
    by : (v : Value) → length vs ≡ length (present_values vs) + count_by is_null vs
        → length (v ∷ vs) ≡ length (present_values (v ∷ vs)) + count_by is_null (v ∷ vs)
    by null h = omega (arith, h, sum_by-cons (λ v. cond (is_null v) 1 0) null vs)
    by (int z) h = omega (arith, h, sum_by-cons (λ v. cond (is_null v) 1 0) (int z) vs)
    by (truth b) h = omega (arith, h, sum_by-cons (λ v. cond (is_null v) 1 0) (truth b) vs)
    by (list ws) h = omega (arith, h, sum_by-cons (λ v. cond (is_null v) 1 0) (list ws) vs)
    by (row ws) h = omega (arith, h, sum_by-cons (λ v. cond (is_null v) 1 0) (row ws) vs)
    by (alt k w) h = omega (arith, h, sum_by-cons (λ v. cond (is_null v) 1 0) (alt k w) vs)

module _ (p : Value → Bool) (t : DataType) where
  -- of values, those that are null counted apart
  abbrev pub Apart : List Value → Type 0
  Apart vs =
      count_by p (flat_map (leaves (opt t)) vs)
      ≡ count_by p (flat_map (leaves t) (present_values vs))
      + cond (p null) (count_by is_null vs) 0

  first : (f : Value → List Value) (v : Value) (vs : List Value)
      → count_by p (flat_map f (v ∷ vs)) ≡ count_by p (f v) + count_by p (flat_map f vs)
  first f v vs =
      ap (count_by p) (flat_map-cons f v vs)
      ∙ sum_by-append (λ v. cond (p v) 1 0) (f v) (flat_map f vs)

  there : (v : Value) (vs : List Value) → leaves (opt t) v ≡ leaves t v
      → present_values (v ∷ vs) ≡ v ∷ present_values vs
      → count_by is_null (v ∷ vs) ≡ count_by is_null vs → Apart vs → Apart (v ∷ vs)
  there v vs a b c h =
      let left = first (leaves (opt t)) v vs in
      let right = first (leaves t) v (present_values vs) in
      let same : count_by p (leaves (opt t) v) ≡ count_by p (leaves t v) = ap (count_by p) a in
      let rest : cond (p null) (count_by is_null (v ∷ vs)) 0
      ≡ cond (p null) (count_by is_null vs) 0 =
      ap (λ n. cond (p null) n 0) c in
      let all : count_by p (flat_map (leaves t) (present_values (v ∷ vs)))
      ≡ count_by p (flat_map (leaves t) (v ∷ present_values vs)) =
      ap (λ ws. count_by p (flat_map (leaves t) ws)) b in
      omega (arith, left, right, same, rest, all, h)

  gone : (b : Bool) (left rest apart some n m : ℕ) → left ≡ cond b 1 0 + rest
      → rest ≡ some + cond b n 0 → m ≡ 1 + n → left ≡ some + cond b m 0
  gone true left rest apart some n m e f g = omega (arith, e, f, g)
  gone false left rest apart some n m e f g = omega (arith, e, f)

  one_null : (b : Bool) → p null ≡ b → count_by p (null ∷ []) ≡ cond b 1 0
  one_null b e =
      sum_by-cons (λ v. cond (p v) 1 0) null [] ∙ ap (λ c. cond c 1 0 + 0) e ∙ omega arith

  none_there : (v : Value) (vs : List Value) → is_null v ≡ false
      → count_by is_null (v ∷ vs) ≡ count_by is_null vs
  none_there v vs e =
      sum_by-cons (λ v. cond (is_null v) 1 0) v vs
      ∙ ap (λ b. cond b 1 0 + count_by is_null vs) e ∙ omega arith

  pub nulls_apart : (vs : List Value) → Apart vs
  nulls_apart [] = by (p null)
    where
      by : (b : Bool) → 0 ≡ 0 + cond b 0 0
      by true = omega arith
      by false = omega arith
  nulls_apart (null ∷ vs) =
      gone (p null) (count_by p (flat_map (leaves (opt t)) (null ∷ vs)))
      (count_by p (flat_map (leaves (opt t)) vs)) 0
      (count_by p (flat_map (leaves t) (present_values vs))) (count_by is_null vs)
      (count_by is_null (null ∷ vs))
      (first (leaves (opt t)) null vs
      ∙ ap (λ n. n + count_by p (flat_map (leaves (opt t)) vs)) (one_null (p null) refl))
      (nulls_apart vs) (sum_by-cons (λ v. cond (is_null v) 1 0) null vs)
  nulls_apart (int z ∷ vs) =
      there (int z) vs refl refl (none_there (int z) vs refl) (nulls_apart vs)
  nulls_apart (truth b ∷ vs) =
      there (truth b) vs refl refl (none_there (truth b) vs refl) (nulls_apart vs)
  nulls_apart (list ws ∷ vs) =
      there (list ws) vs refl refl (none_there (list ws) vs refl) (nulls_apart vs)
  nulls_apart (row ws ∷ vs) =
      there (row ws) vs refl refl (none_there (row ws) vs refl) (nulls_apart vs)
  nulls_apart (alt k w ∷ vs) =
      there (alt k w) vs refl refl (none_there (alt k w) vs refl) (nulls_apart vs)

module _ (i : Column) (y x : Layout) (o : OpensOption i y x) where
  abbrev vs : List Value
  vs = array_items x

  shorter : length (array_items y) + count_by is_null vs ≡ length vs
  shorter = ap (λ ws. length ws + count_by is_null vs) o.column ∙ sym (present_few vs)

  pub option_fewer : length (array_items y) ≤ length (array_items x)
  option_fewer = omega (arith, shorter)

  more_nulls : (b : Bool) (n m k w more nulls : ℕ) → n ≡ m + cond b k 0 → m ≡ w + cond b more 0
      → nulls ≡ k → n ≡ w + cond b (more + nulls) 0
  more_nulls true n m k w more nulls e f g = omega (arith, e, f, g)
  more_nulls false n m k w more nulls e f g = omega (arith, e, f)

  pub option_inner : (q : Layout) (more nulls : ℕ)
      → nulls + length (array_items y) ≡ length (array_items x)
      → length (array_items x) ≤ item_limit
      → IsInnermost (array_type y) (array_items y) (innermost.Column q more)
      → IsInnermost (array_type x) (array_items x) (innermost.Column q (more + nulls))
  option_inner q more nulls e few h = (
    ap (λ t. lists_refused t vs) o.typ ∙ ap (lists_refused (array_type y)) (sym o.column) ∙ h.0,
    record {
      numbers = h.1.numbers;
      few = h.1.few;
      nulls = omega (
        arith,
        h.1.nulls,
        times item_limit (depth (array_type y) + 1) (depth (array_type x))
            (omega (arith, ap depth o.typ)),
        e,
        few,
      );
      counts = λ p.
          more_nulls (p null) (count_by p (flat_map (leaves (array_type x)) vs))
          (count_by p (flat_map (leaves (array_type y)) (array_items y))) (count_by is_null vs)
          (count_by p (array_items q)) more nulls
          (ap (λ t. count_by p (flat_map (leaves t) vs)) o.typ ∙ nulls_apart p (array_type y) vs
          ∙ ap (λ ws. count_by p (flat_map (leaves (array_type y)) ws)
          + cond (p null) (count_by is_null vs) 0) (sym o.column))
          (h.1.counts p) (omega (arith, shorter, e));
    },
  )

pub option_falls : (a b : ℕ) → a ≡ b + 1 → 2 * b + 1 < 2 * a
option_falls a b e = omega (arith, e)
