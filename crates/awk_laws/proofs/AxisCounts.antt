-- How many combinations there are of each list at an axis.
use Rattle.std.specs.Prelude.{◌≡◌, ◌⊎◌, ℕ, zero, suc, ◌+◌, ◌-◌, ◌*◌, ◌/◌, ◌<◌, ◌≤◌, ◌==◌, ℤ, pos}
use Rattle.std.specs.Prelude.{negsuc, Bool, true, false, List, [], ◌∷◌, length, map, replicate, sum}
use Rattle.std.specs.Prelude.{None, Ok, refl, if◌then◌else◌}
use Rattle.std.specs.List.{AllByRecursion, flat_map}
use Rattle.std.proofs.Common.{arith, ap, sym, ◌∙◌, subst, inl, inr}
use Rattle.std.proofs.Math.Nat.{lt-mul-div-succ}
use Rattle.std.proofs.lemmas.Bool.{cases_lt}
use Rattle.std.proofs.lemmas.Simd.{map-map}
use Rattle.awk_types.specs.DataType.{DataType, DataTypes, unknown, leaf, var, reg, rec, tup, opt}
use Rattle.awk_types.specs.DataType.{uni, no_types, type, types_from, nodes, nodes_each}
use Rattle.awk_types.specs.Datum.{Datum, arr, one, datum_type}
use Rattle.awk_types.specs.Simple.{IsSimple}
use Rattle.awk_types.specs.Value.{Value, int, truth, null, list, row, alt}
use Rattle.awk_types.proofs.TypeShapes.{nodes-type}
use Rattle.awk_types.proofs.PartLimits.{nodes_within}
use Rattle.awk_columns.specs.Columns.{list_items, row_parts, tag_of}
use Rattle.awk_combi.specs.Combinations.{combinations_function, combinations_of, slot_type, slots}
use Rattle.awk_combi.specs.Combinations.{tuple_type, tuples}
use Rattle.awk_pair_operands.specs.Typed.{IsTyped}
use Rattle.awk_places.proofs.FlatLaws.{all-append, map-same-all}
use Rattle.awk_laws.specs.Axes.{TypedList, alternative_of, lists_at, lists_in_alternative}
use Rattle.awk_laws.specs.Axes.{lists_in_parts, lists_of, typed_list}
use Rattle.awk_laws.specs.Choices.{HasSlots, binomial, picked_tuple, tuples_of_list}
use Rattle.awk_laws.proofs.AxisLists.{limited-given}
use Rattle.awk_laws.proofs.AxisTuples.{nested_tuples}
use Rattle.awk_laws.proofs.TuplePicks.{count_is, count_repeated_is, pick_is}

-- ---- lists at an axis have types of no more nodes

abbrev IsSmall : ℕ → TypedList → Type 0
IsSmall n l = nodes l.0 ≤ n

all_flat : (Q : TypedList → Type 0) (f : Value → List TypedList) (vs : List Value)
    → ((x : Value) → AllByRecursion Q (f x)) → AllByRecursion Q (flat_map f vs)
all_flat Q f [] e = tt
all_flat Q f (v ∷ vs) e = all-append Q (f v) (flat_map f vs) (e v) (all_flat Q f vs e)

small_list : (n : ℕ) (t : DataType) (v : Value) → nodes t ≤ n
    → AllByRecursion (IsSmall n) (typed_list t v)
small_list n t (list vs) h = (h, tt)
small_list n t (int z) h = tt
small_list n t (truth b) h = tt
small_list n t null h = tt
small_list n t (row vs) h = tt
small_list n t (alt j v) h = tt

small_if : (n : ℕ) (b : Bool) (t : DataType) (v : Value) (f : Value → List TypedList)
    → nodes t ≤ n → ((x : Value) → AllByRecursion (IsSmall n) (f x))
    → AllByRecursion (IsSmall n) (if b then typed_list t v else flat_map f (list_items v))
small_if n true t v f h e = small_list n t v h
small_if n false t v f h e = all_flat (IsSmall n) f (list_items v) e

mutual
  small_at : (n a : ℕ) (t : DataType) (v : Value) → nodes t ≤ n
      → AllByRecursion (IsSmall n) (lists_at a t v)
  small_at n a unknown v h = tt
  small_at n a (leaf p) v h = tt
  small_at n a (var t) v h =
      let k : nodes t ≤ n = omega (arith, h) in
      small_if n (a == 0) t v (lists_at (a - 1) t) k (λ x. small_at n (a - 1) t x k)
  small_at n a (reg m t) v h =
      let k : nodes t ≤ n = omega (arith, h) in
      small_if n (a == 0) t v (lists_at (a - 1) t) k (λ x. small_at n (a - 1) t x k)
  small_at n a (rec ns ts) v h =
      let k : sum (nodes_each ts) ≤ n = omega (arith, h) in small_parts n a ts (row_parts v) k
  small_at n a (tup ts) v h =
      let k : sum (nodes_each ts) ≤ n = omega (arith, h) in small_parts n a ts (row_parts v) k
  small_at n a (opt t) v h =
      let k : nodes t ≤ n = omega (arith, h) in small_at n a t v k
  small_at n a (uni ts) v h =
      let k : sum (nodes_each ts) ≤ n = omega (arith, h) in
      small_alternative n a ts (tag_of v) (alternative_of v) k

  small_parts : (n a : ℕ) (ts : DataTypes) (vs : List Value) → sum (nodes_each ts) ≤ n
      → AllByRecursion (IsSmall n) (lists_in_parts a ts vs)
  small_parts n a no_types vs h = tt
  small_parts n a (type t ts) [] h = tt
  small_parts n a (type t ts) (v ∷ vs) h =
      all-append (IsSmall n) (lists_at a t v) (lists_in_parts a ts vs)
      (small_at n a t v (omega (arith, h, nodes-type t ts)))
      (small_parts n a ts vs (omega (arith, h, nodes-type t ts)))

  small_alternative : (n a : ℕ) (ts : DataTypes) (j : ℕ) (v : Value) → sum (nodes_each ts) ≤ n
      → AllByRecursion (IsSmall n) (lists_in_alternative a ts j v)
  small_alternative n a no_types j v h = tt
  small_alternative n a (type t ts) zero v h =
      small_at n a t v (omega (arith, h, nodes-type t ts))
  small_alternative n a (type t ts) (suc j) v h =
      small_alternative n a ts j v (omega (arith, h, nodes-type t ts))

small_lists : (n : ℕ) (axis : ℤ) (d : Datum) → nodes (datum_type d) ≤ n
    → AllByRecursion (IsSmall n) (lists_of axis d)
small_lists n (negsuc a) d h = tt
small_lists n (pos zero) (arr t vs) h = (h, tt)
small_lists n (pos (suc a)) (arr t vs) h =
    all_flat (IsSmall n) (lists_at a t) vs (λ x. small_at n a t x h)
small_lists n (pos zero) (one t v) h = small_at n zero t v h
small_lists n (pos (suc a)) (one t v) h = small_at n (suc a) t v h

-- ---- a type that is within the limits has all slots

some_nodes : (t : DataType) → 0 < nodes t
some_nodes unknown = omega arith
some_nodes (leaf p) = omega arith
some_nodes (var t) = omega arith
some_nodes (reg n t) = omega arith
some_nodes (rec ns ts) = omega arith
some_nodes (tup ts) = omega arith
some_nodes (opt t) = omega arith
some_nodes (uni ts) = omega arith

times-suc : (k m : ℕ) → k * suc m ≡ k + k * m
times-suc k m = grind arith

nodes-replicate : (m : ℕ) (u : DataType)
    → sum (nodes_each (types_from (replicate m u))) ≡ nodes u * m
nodes-replicate zero u = grind arith
nodes-replicate (suc m) u =
    nodes-type u (types_from (replicate m u)) ∙ ap (λ k. nodes u + k) (nodes-replicate m u)
    ∙ sym (times-suc (nodes u) m)

has_slots : (n : ℕ) (places : Bool) (t : DataType) → nodes (tuple_type places n t) ≤ 65536
    → HasSlots n places t
has_slots n places t h = go (cases_lt q n)
  where
    u : DataType
    u = slot_type places t

    q : ℕ
    q = 65536 / nodes u + 1

    go : (q < n) ⊎ (n ≤ q) → HasSlots n places t
    go (inl p) =
        let same : slots n u ≡ q = omega (arith, p) in
        let more : 65536 < nodes u * q = lt-mul-div-succ 65536 (some_nodes u) in
        let size : sum (nodes_each (types_from (replicate (slots n u) u))) ≡ nodes u * q =
        nodes-replicate (slots n u) u ∙ ap (λ m. nodes u * m) same in
        absurd (omega (arith, h, more, size))
    go (inr p) = omega (arith, p)

all_unmapped : (P : TypedList → Type 0) (f : TypedList → TypedList) (ls : List TypedList)
    → AllByRecursion P (map f ls) → AllByRecursion (λ l. P (f l)) ls
all_unmapped P f [] h = tt
all_unmapped P f (l ∷ ls) h = (h.0, all_unmapped P f ls h.1)

all_follow : (P Q : TypedList → Type 0) (ls : List TypedList) → ((l : TypedList) → P l → Q l)
    → AllByRecursion P ls → AllByRecursion Q ls
all_follow P Q [] e h = tt
all_follow P Q (l ∷ ls) e h = (e l h.0, all_follow P Q ls e h.1)

module _ (n : ℕ) (rep places : Bool) (axis : ℤ) (d made : Datum) (h : IsTyped d)
    (s : IsSimple (datum_type d)) (e : combinations_of n rep axis places d ≡ Ok made) where
  all_slots : AllByRecursion (λ l. HasSlots n places l.0) (lists_of axis d)
  all_slots =
      let small = nodes_within (datum_type made)
      (limited-given (λ c. None) (tuple_type places n) (tuples rep places n)
      (combinations_function n rep places) refl axis d made e) in
      all_follow (λ l. IsSmall 65536 (tuples_of_list n rep places l))
      (λ l. HasSlots n places l.0) (lists_of axis d)
      (λ l k. has_slots n places l.0 k)
      (all_unmapped (IsSmall 65536) (tuples_of_list n rep places) (lists_of axis d)
      (subst (AllByRecursion (IsSmall 65536)) (nested_tuples n rep places axis d made h s e)
      (small_lists 65536 axis made small)))

  counted_by : (f : TypedList → ℕ)
      → ((l : TypedList) → HasSlots n places l.0
      → length (tuples_of_list n rep places l).1 ≡ f l)
      → map (λ l. length l.1) (lists_of axis made) ≡ map f (lists_of axis d)
  counted_by f count =
      ap (map (λ l. length l.1)) (nested_tuples n rep places axis d made h s e)
      ∙ map-map (λ (l : TypedList). length l.1) (tuples_of_list n rep places) (lists_of axis d)
      ∙ map-same-all (λ l. HasSlots n places l.0)
      (λ l. length (tuples_of_list n rep places l).1) f count (lists_of axis d) all_slots

pub nested_count : (n : ℕ) (places : Bool) (axis : ℤ) (d made : Datum) → IsTyped d
    → IsSimple (datum_type d) → combinations_of n false axis places d ≡ Ok made
    → map (λ l. length l.1) (lists_of axis made)
    ≡ map (λ l. binomial (length l.1) n) (lists_of axis d)
nested_count n places axis d made h s e =
    counted_by n false places axis d made h s e (λ l. binomial (length l.1) n)
    (λ l k. count_is places n l.0 l.1 k)

pub nested_repeated : (n : ℕ) (places : Bool) (axis : ℤ) (d made : Datum) → IsTyped d
    → IsSimple (datum_type d) → combinations_of n true axis places d ≡ Ok made
    → map (λ l. length l.1) (lists_of axis made)
    ≡ map (λ l. binomial (length l.1 + n - 1) n) (lists_of axis d)
nested_repeated n places axis d made h s e =
    counted_by n true places axis d made h s e (λ l. binomial (length l.1 + n - 1) n)
    (λ l k. count_repeated_is places n l.0 l.1 k)

-- ---- picks by places

pub nested_pick : (rep : Bool) (n : ℕ) (axis : ℤ) (d made : Datum) → IsTyped d
    → IsSimple (datum_type d) → combinations_of n rep axis false d ≡ Ok made
    → AllByRecursion (λ l. map (picked_tuple l.1) (tuples_of_list n rep true l).1
    ≡ (tuples_of_list n rep false l).1) (lists_of axis d)
nested_pick rep n axis d made h s e =
    all_follow (λ l. HasSlots n false l.0)
    (λ l. map (picked_tuple l.1) (tuples_of_list n rep true l).1
    ≡ (tuples_of_list n rep false l).1) (lists_of axis d)
    (λ l k. pick_is rep n l.0 l.1 k) (all_slots n rep false axis d made h s e)
